-- The rule that every row of the table keeps: one test, computed over the whole table, gives the facts for any row of it. The depths cover the 64
-- bits of a hash and one depth less does not, so a depth is below D exactly if its shift is below 64.
-- Assumes nothing.
use Rattle.std.proofs.Common.{◌≡◌, ℕ, ◌+◌, ◌-◌, ◌*◌, ◌^◌, ◌<◌, ◌≤◌, Bool, true, false, cond, ◌&&◌, T, eqb, ltb, leb, ◌⊎◌, ◌↔◌, List, [], ◌∷◌, Some, None, Option, sym, refl, ap, subst, inl, inr, lt_of_lt_of_le, mul-le-mul_right, lt_of_mul-lt-mul_right, arith, eqb→eq, ltb→lt, leb→le, eqb-true}
use Rattle.segments.specs.Segments.{Row, row, table, Listed, find, row_of}
use Rattle.segments.specs.declared.DegreeRow.{DegreeRow}
use Rattle.segments.specs.Segments.{found}

-- What the columns of a row have to do with each other.
pub record Right (r : Row) : Type 0 where
  pub power : r.degree ≡ 2 ^ r.bits
  pub some_bits : 0 < r.bits
  pub few_bits : r.bits ≤ 6
  pub some_depths : 0 < r.depths
  pub covers : (r.depths - 1) * r.bits + r.last ≡ 64
  pub some_last : 0 < r.last
  pub few_last : r.last ≤ r.bits

abbrev all : List Bool → Bool
all [] = true
all (b ∷ bs) = b && all bs

abbrev Each : List Bool → Type 0
Each [] = Unit {0}
Each (b ∷ bs) = T b × Each bs

each : (bs : List Bool) → T (all bs) → Each bs
each [] t = tt
each (true ∷ bs) t = (tt, each bs t)
each (false ∷ bs) t = absurd t

and_T : (a b : Bool) → T (a && b) → T a × T b
and_T true b t = (tt, t)
and_T false b t = absurd t

-- A test of rows, over a list of them.
abbrev every : (Row → Bool) → List Row → Bool
every f [] = true
every f (q ∷ qs) = f q && every f qs

-- A test that passes over a list passes at each row of it.
at : (f : Row → Bool) (rows : List Row) (r : Row) → T (every f rows) → Listed rows r → T (f r)
unfolding Listed
at f [] r t i = absurd i
at f (q ∷ qs) r t (inl e) = subst (λ (x : Row). T (f x)) e (and_T (f q) (every f qs) t).0
at f (q ∷ qs) r t (inr i) = at f qs r (and_T (f q) (every f qs) t).1 i

-- The facts of `Right`, as a test.
abbrev tests : Row → List Bool
tests r =
    eqb r.degree (2 ^ r.bits)
    ∷ ltb 0 r.bits
    ∷ leb r.bits 6
    ∷ ltb 0 r.depths
    ∷ eqb ((r.depths - 1) * r.bits + r.last) 64
    ∷ ltb 0 r.last
    ∷ leb r.last r.bits
    ∷ []

-- THE TABLE'S RULE: every row of it is right.
pub row_Right : (r : Row) → Listed table r → Right r
unfolding table
row_Right r i =
    let (p, (b, (f, (d, (c, (l, (m, u))))))) = each (tests r) (at (λ q. all (tests q)) table r tt i) in
    record {
      power = eqb→eq _ _ p;
      some_bits = ltb→lt _ _ b;
      few_bits = leb→le _ _ f;
      some_depths = ltb→lt _ _ d;
      covers = eqb→eq _ _ c;
      some_last = ltb→lt _ _ l;
      few_last = leb→le _ _ m;
    }

-- The depths cover the 64 bits of a hash.
pub depths_cover : (r : Row) → Right r → 64 ≤ r.depths * r.bits
depths_cover r k =
    let one_more : r.depths ≡ r.depths - 1 + 1 = omega (arith, k.some_depths) in
    omega (arith, k.covers, k.few_last, ap (λ (d : ℕ). d * r.bits) one_more)

-- "It exists for t below D": a depth is below D exactly if its shift is below 64.
pub below_depths : (r : Row) → Right r → (t : ℕ) → (t < r.depths) ↔ (t * r.bits < 64)
below_depths r k t = (
  λ l. omega (arith, k.covers, k.some_last, mul-le-mul_right {m = t} {n = r.depths - 1} r.bits (omega arith)),
  λ s. lt_of_mul-lt-mul_right r.bits (lt_of_lt_of_le s (depths_cover r k)),
)

-- a column of what was found
abbrev column_in : (DegreeRow → ℕ) → Option DegreeRow → ℕ
column_in f (Some x) = f x
column_in f None = 0

found_in : (rows : List Row) (g b d l : ℕ) → find rows g ≡ found b d l → Listed rows (row g b d l)
unfolding find Listed
found_in [] g b d l q = let z : ◌≡◌ {A = ℕ} 0 1 = cc in absurd (omega arith)
found_in (r ∷ rs) g b d l q = by (λ q. found_in rs g b d l q) (eqb g r.degree) refl q
  where
    by : (find rs g ≡ found b d l → Listed rs (row g b d l)) → (t : Bool) → eqb g r.degree ≡ t
        → cond t (found r.bits r.depths r.last) (find rs g) ≡ found b d l → (r ≡ row g b d l) ⊎ Listed rs (row g b d l)
    by later true e q =
        let same : g ≡ r.degree = eqb-true _ _ e in
        let bits : b ≡ r.bits = sym (ap (column_in (λ x. x.bits)) q) in
        let depths : d ≡ r.depths = sym (ap (column_in (λ x. x.depths)) q) in
        let last : l ≡ r.last = sym (ap (column_in (λ x. x.last)) q) in
        inl (rw (same, bits, depths, last))
    by later false e q = inr (later q)

-- What is found for a degree is its row in the table.
pub row_of_in : (g b d l : ℕ) → row_of g ≡ found b d l → Listed table (row g b d l)
unfolding row_of
row_of_in g b d l q = found_in table g b d l q

-- What was found is this row, as a test.
abbrev is_row : Option DegreeRow → Row → Bool
is_row (Some x) r = all (eqb x.bits r.bits ∷ eqb x.depths r.depths ∷ eqb x.last r.last ∷ [])
is_row None r = false

is_row-Found : (o : Option DegreeRow) (r : Row) → T (is_row o r) → o ≡ found r.bits r.depths r.last
is_row-Found (Some x) r t =
    let (p, (q, (s, u))) = each (eqb x.bits r.bits ∷ eqb x.depths r.depths ∷ eqb x.last r.last ∷ []) t in
    λ i. found (eqb→eq x.bits _ p i) (eqb→eq x.depths _ q i) (eqb→eq x.last _ s i)
is_row-Found None r t = absurd t

-- And every row of the table is found for its degree.
pub row_of-Found : (r : Row) → Listed table r → row_of r.degree ≡ found r.bits r.depths r.last
unfolding table row_of find
row_of-Found r i = is_row-Found (row_of r.degree) r (at (λ q. is_row (row_of q.degree) q) table r tt i)

-- So a degree for which none is found has no row.
pub row_of_none : (g : ℕ) → row_of g ≡ None → (r : Row) → Listed table r → r.degree ≡ g → ⊥
row_of_none g none r i e = let z : ◌≡◌ {A = ℕ} 0 1 = cc (row_of-Found r i) in omega arith
