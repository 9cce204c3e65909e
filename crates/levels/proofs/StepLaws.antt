-- The steps of a row, of a branch and of a level.
use Rattle.std.proofs.Common.{◌≡◌, ℕ, suc, ◌+◌, ◌-◌, ◌*◌, ◌/◌, ◌%◌, ◌^◌, ◌<◌, ◌≤◌, Bool, true, false, cond, eqb, List, length, get_or, set, Option, sym, refl, ap, ◌∙◌, subst, ap₂, ⊎_elim, arith, length-set, get_or-set_other, get_or-set_same, pow_mono, eq-eqb, ne_eqb, eqb-true}
use Rattle.std.proofs.lemmas.Bool.{false≢true}
use native.Mathlib.Nat.{pow-succ'}
use borrow.Author.Tests.{eqb-false}
use Rattle.cases.proofs.Cases.{split, eq?, Tri, is_less, is_equal, is_more, tri}
use Rattle.segments.specs.Segments.{segment}
use Rattle.layout.specs.declared.Shape.{Shape}
use Rattle.layout.specs.Layout.{reference, kind_of, cell_of, cells_of, names, Allowed}
use Rattle.layout.specs.Columns.{State, columns, word}
use Rattle.layout.proofs.OffsetLaws.{names_says}
use Rattle.layout.proofs.SizeLaws.{row_in, row_is_Right}
use Rattle.segments.proofs.TableLaws.{below_depths}
use Rattle.arena.proofs.RefLaws.{names_of}
use Rattle.lookup.specs.Lookup.{names_kind}
use Rattle.lookup.proofs.FindLaws.{kind_says, kind_is, kind_other, entry_word}
use Rattle.audits.specs.Audits.{all_from, none_from, is_live}
use Rattle.audits.proofs.AllLaws.{all_on, all_stops, all_over}
use Rattle.audits.proofs.LiveLaws.{live_says, live_is}
use Rattle.levels.specs.declared.Seen.{Seen}
use Rattle.levels.specs.Levels.{Fault, Under, on_seen, fits, closed, ended, row_from, branch_by, see_by, see_from, see_at, is_at, branch_seen, level_seen, levels_seen, kept, kept_as, Known, KeptAt, OnlyAt, OnlyBranches}
use Rattle.lookup.proofs.Meaning.{segment_low}
use Rattle.levels.proofs.LeadLaws.{seen_lead, seen_few, fits_says}
use Rattle.std.proofs.lemmas.Nat.{one_shl}

not_live : (z : Shape) (σ : State) (k r : ℕ) → (kind_of r ≡ k → ⊥) → is_live z σ k r ≡ false
unfolding is_live
not_live z σ k r ne = rw (kind_other z k r ne)

-- A ROW, by its next child
module _ (look : ℕ → Option Seen) (z : Shape) (σ : State) (t r l : ℕ) (k low bits size : ℕ) where
  abbrev Row : ℕ → Option Seen
  Row n = row_from look z σ t r l n k low bits size

  one_on : (g : ℕ) → k < g → Row (g - k) ≡ Row (suc (g - suc k))
  one_on g m = let e : g - k ≡ suc (g - suc k) = omega arith in ap Row e

  pub Row-over : (g : ℕ) → g ≤ k → Row (g - k) ≡ closed σ t r l bits size
  unfolding row_from
  Row-over g m = let e : g - k ≡ 0 = omega arith in ap Row e

  pub row_ends : k < z.degree → σ.kid r k ≡ 0 → Row (z.degree - k) ≡ ended z σ t r l k bits size
  unfolding row_from ended
  row_ends m e =
      one_on z.degree m
      ∙ rw (eq-eqb (σ.kid r k) 0 e)
      (let q : suc (z.degree - suc k) ≡ z.degree - k = omega arith in
      ap (λ (n : ℕ). cond (none_from (σ.kid r) k n) (closed σ t r l bits size) Fault) q)

  module _ (g : ℕ) (m : k < g) (some : σ.kid r k ≡ 0 → ⊥) where
    pub Row-Fault : look (σ.kid r k) ≡ Fault → Row (g - k) ≡ Fault
    unfolding row_from on_seen
    Row-Fault e = one_on g m ∙ rw (ne_eqb (σ.kid r k) 0 some, e)

    module _ (c s : ℕ) (e : look (σ.kid r k) ≡ Under c s) where
      pub Row-unfit : fits z t (σ.plain l 0) low size (σ.plain c 0) s ≡ false → Row (g - k) ≡ Fault
      unfolding row_from on_seen
      Row-unfit f = one_on g m ∙ rw (ne_eqb (σ.kid r k) 0 some, e, f)

      pub row_next : fits z t (σ.plain l 0) low size (σ.plain c 0) s ≡ true → (w : ℕ) → w ≡ segment z.bits t (σ.plain c 0)
          → Row (g - k) ≡ row_from look z σ t r l (g - suc k) (suc k) (suc w) (bits + 2 ^ w) (size + s)
      unfolding row_from on_seen
      row_next f w q = one_on g m ∙ rw (ne_eqb (σ.kid r k) 0 some, e, f, q)

-- the row from its first child on
pub row_first : (look : ℕ → Option Seen) (z : Shape) (σ : State) (t r l g : ℕ)
    → row_from look z σ t r l g 0 0 0 0 ≡ row_from look z σ t r l (g - 0) 0 0 0 0
row_first look z σ t r l g = let e : g ≡ g - 0 = omega arith in ap (λ (n : ℕ). row_from look z σ t r l n 0 0 0 0) e

-- A CHILD THAT IS SEEN: its leftmost entry is one
pub seen_named : (z : Shape) (σ : State) (n t c l s : ℕ) → see_from z σ n t c ≡ Under l s → names_kind z 1 l ≡ true
seen_named z σ n t c l s e = (live_says z σ 1 l (seen_lead z σ n t c l s e)).0

-- so of the child k at hand, which is read at the depth u
module _ (z : Shape) (a : List ℕ) (t u c : ℕ) (s : Option Seen) (down : u ≡ t) (e : s ≡ see_at z (columns z a) u c) where
  as_seen : (k : ℕ) → c ≡ k → see_at z (columns z a) t k ≡ s
  as_seen k q = ap₂ (see_at z (columns z a)) (sym down) (sym q) ∙ sym e

  pub child_Fault : (k : ℕ) → c ≡ k → s ≡ Fault → see_at z (columns z a) t k ≡ Fault
  child_Fault k q n = as_seen k q ∙ n

  pub child_seen : (k l m : ℕ) → c ≡ k → s ≡ Under l m → see_at z (columns z a) t k ≡ Under l m
  child_seen k l m q n = as_seen k q ∙ n

  pub lead_named : (l m : ℕ) → s ≡ Under l m → names_kind z 1 l ≡ true
  lead_named l m n = seen_named z (columns z a) _ t c l m (child_seen c l m refl n)

-- no more depths than a hash has bits
pub few_depths : (z : Shape) → Allowed z → z.depths ≤ 64
few_depths z w = by (tri 64 z.depths)
  where
    by : Tri 64 z.depths → z.depths ≤ 64
    by (is_less l) =
        absurd (omega (arith, (below_depths (row_in z w) (row_is_Right z w) 64).0 l, (row_is_Right z w).some_bits))
    by (is_equal e) = omega arith
    by (is_more l) = omega arith

-- a bitmap of segments below low, and one more segment from there on
pub next_bit : (bits low g : ℕ) → bits < 2 ^ low → low ≤ g → g < 64 → (bits + 2 ^ g < 2 ^ suc g) × (2 ^ suc g ≤ 2 ^ 64)
next_bit bits low g b l small = (
  omega (arith, pow-succ' 2 g, pow_mono {i = low} {j = g} l),
  pow_mono {i = suc g} {j = 64} (omega arith),
)

pub bits_fit : (bits low g : ℕ) → bits < 2 ^ low → low ≤ g → g < 64 → bits + 1 * 2 ^ g % 2 ^ 64 < 2 ^ 64
bits_fit bits low g b l small = omega (arith, one_shl g 64 small, next_bit bits low g b l small)

-- THE CHILD AT HAND, by what was read of it: its leftmost entry, how many entries are below it, and its segment g
pub record Met (z : Shape) (a : List ℕ) (t r lead k low size entry below g : ℕ) : Type 0 where
  pub seen : see_at z (columns z a) (suc t) ((columns z a).kid r k) ≡ Under entry below
  pub fit : fits z t ((columns z a).plain lead 0) low size ((columns z a).plain entry 0) below ≡ true
  pub segment_is : g ≡ segment z.bits t ((columns z a).plain entry 0)
  pub not_low : low ≤ g
  pub small : g < 64
  pub few : below ≤ z.entries - size

-- the words that were read are those of the columns
pub same_fit : (z : Shape) (a : List ℕ) (t lead low size entry below first hash : ℕ) (b : Bool) → names_kind z 1 lead ≡ true
    → names_kind z 1 entry ≡ true → first ≡ word z a lead 3 → hash ≡ word z a entry 3 → fits z t first low size hash below ≡ b
    → fits z t ((columns z a).plain lead 0) low size ((columns z a).plain entry 0) below ≡ b
same_fit z a t lead low size entry below first hash b n m p q e =
    let f : (columns z a).plain lead 0 ≡ first = entry_word z a lead 0 n (omega arith) ∙ sym p in
    let h : (columns z a).plain entry 0 ≡ hash = entry_word z a entry 0 m (omega arith) ∙ sym q in
    ap₂ (λ (x y : ℕ). fits z t x low size y below) f h ∙ e

pub child_Met : (z : Shape) (a : List ℕ) → Allowed z → (t r lead k low size entry below g first hash : ℕ)
    → see_at z (columns z a) (suc t) ((columns z a).kid r k) ≡ Under entry below → names_kind z 1 lead ≡ true
    → first ≡ word z a lead 3 → hash ≡ word z a entry 3 → fits z t first low size hash below ≡ true
    → g ≡ segment z.bits t hash → Met z a t r lead k low size entry below g
child_Met z a w t r lead k low size entry below g first hash seen n p q e d =
    let m : names_kind z 1 entry ≡ true = seen_named z (columns z a) _ (suc t) ((columns z a).kid r k) entry below seen in
    let f = same_fit z a t lead low size entry below first hash true n m p q e in
    let h : (columns z a).plain entry 0 ≡ hash = entry_word z a entry 0 m (omega arith) ∙ sym q in
    let says = fits_says z t ((columns z a).plain lead 0) low size ((columns z a).plain entry 0) below f in
    let is : g ≡ segment z.bits t ((columns z a).plain entry 0) = d ∙ ap (segment z.bits t) (sym h) in
    record {
      seen = seen;
      fit = f;
      segment_is = is;
      not_low = omega (arith, is, says.0);
      small = omega (arith, is, segment_low z w t ((columns z a).plain entry 0));
      few = says.2;
    }

pub bits_below : (bits low g : ℕ) → bits < 2 ^ low → low ≤ g → g < 64 → bits + 1 * 2 ^ g % 2 ^ 64 < 2 ^ (g + 1)
bits_below bits low g b l small =
    let e : 2 ^ (g + 1) ≡ 2 ^ suc g = ap (λ (x : ℕ). 2 ^ x) (omega arith) in
    omega (arith, e, one_shl g 64 small, (next_bit bits low g b l small).0)

-- what is known, at a depth that is the same
pub known_at : (z : Shape) (a : List ℕ) (t u : ℕ) (w : List ℕ) → u ≡ t → Known z a t w → Known z a u w
known_at z a t u w e k = subst (λ (x : ℕ). Known z a x w) (sym e) k

-- the row from its next child on, in the machine's numbers
pub row_shift : (look : ℕ → Option Seen) (z : Shape) (σ : State) (t r l k low bits size k' low' bits' : ℕ) → k' ≡ suc k → low' ≡ suc low
    → low < 64 → bits' ≡ bits + 1 * 2 ^ low % 2 ^ 64
    → row_from look z σ t r l (z.degree - suc k) (suc k) (suc low) (bits + 2 ^ low) size
    ≡ row_from look z σ t r l (z.degree - k') k' low' bits' size
row_shift look z σ t r l k low bits size k' low' bits' a b small c = λ i.
    row_from look z σ t r l (z.degree - sym a i) (sym a i) (sym b i) (sym (c ∙ ap (λ (x : ℕ). bits + x) (one_shl low 64 small)) i) size

-- A BRANCH, by its first child
module _ (look : ℕ → Option Seen) (z : Shape) (σ : State) (t r : ℕ) where
  pub branch_none : σ.kid r 0 ≡ 0 → branch_by look z σ t r ≡ Fault
  unfolding branch_by
  branch_none e = rw (eq-eqb (σ.kid r 0) 0 e)

  module _ (some : σ.kid r 0 ≡ 0 → ⊥) where
    pub branch_Fault : look (σ.kid r 0) ≡ Fault → branch_by look z σ t r ≡ Fault
    unfolding branch_by on_seen
    branch_Fault e = rw (ne_eqb (σ.kid r 0) 0 some, e)

    pub branch_row : (l s : ℕ) → look (σ.kid r 0) ≡ Under l s → branch_by look z σ t r ≡ row_from look z σ t r l z.degree 0 0 0 0
    unfolding branch_by on_seen
    branch_row l s e = rw (ne_eqb (σ.kid r 0) 0 some, e)

-- A BRANCH AT ITS DEPTH is what its row comes to
module _ (z : Shape) (σ : State) (t r : ℕ) where
  pub at_says : is_at σ t r ≡ true → (0 < σ.count r) × (σ.mark r ≡ t)
  unfolding is_at
  at_says e =
      split (eqb (σ.count r) 0)
      (λ y. absurd (false≢true (rw y at e)))
      (λ f. (omega (arith, eqb-false (σ.count r) 0 f), eqb-true (σ.mark r) t (rw f at e)))

  pub at_is : 0 < σ.count r → σ.mark r ≡ t → is_at σ t r ≡ true
  unfolding is_at
  at_is l e = rw (ne_eqb (σ.count r) 0 (λ y. omega arith), eq-eqb (σ.mark r) t e)

  pub see_here : names_kind z 0 r ≡ true → is_at σ t r ≡ true → t < z.depths
      → see_at z σ t r ≡ branch_by (see_at z σ (suc t)) z σ t r
  unfolding see_from see_by
  see_here n e l =
      let w = at_says e in
      let d : z.depths - t ≡ suc (z.depths - suc t) = omega arith in
      ap (λ (m : ℕ). see_from z σ m t r) d
      ∙ rw (not_live z σ 1 r (λ k. omega (arith, k, (kind_says z 0 r n).1)), live_is z σ 0 r n w.0, eq-eqb (σ.mark r) t w.1)

  pub not_at : is_at σ t r ≡ false → branch_seen z σ t r ≡ true
  unfolding branch_seen
  not_at e = rw e

  pub at_Fault : is_at σ t r ≡ true → see_at z σ t r ≡ Fault → branch_seen z σ t r ≡ false
  unfolding branch_seen on_seen
  at_Fault e f = rw (e, f)

  pub at_seen : is_at σ t r ≡ true → (l s : ℕ) → see_at z σ t r ≡ Under l s → branch_seen z σ t r ≡ true
  unfolding branch_seen on_seen
  at_seen e l s f = rw (e, f)

-- what is kept of it is read again
pub kept_is : (w : List ℕ) (i l s : ℕ) → i < length w → s < 2 ^ 32 → Under l s ≡ kept (set w i (kept_as l s)) (reference 0 i)
kept_is w i l s m small =
    let c : cell_of (reference 0 i) ≡ i = omega arith in
    let v : get_or (set w i (kept_as l s)) (cell_of (reference 0 i)) 0 ≡ l * 2 ^ 32 + s
    = ap (λ (j : ℕ). get_or (set w i (kept_as l s)) j 0) c ∙ get_or-set_same w i (kept_as l s) 0 m in
    let q : l ≡ get_or (set w i (kept_as l s)) (cell_of (reference 0 i)) 0 / 2 ^ 32 = omega (arith, v) in
    let p : s ≡ get_or (set w i (kept_as l s)) (cell_of (reference 0 i)) 0 % 2 ^ 32 = omega (arith, v) in
    λ j. Under (q j) (p j)

-- BRANCH i, which is r: what see_branch answers and leaves
pub branch_at : (z : Shape) (i r : ℕ) → i < z.branches → r ≡ reference 0 i → names_kind z 0 r ≡ true
unfolding cells_of
branch_at z i r l e =
    let n : names z r ≡ true = ap (names z) e ∙ names_of z 0 i (omega arith) l in kind_is z 0 r n (omega (arith, e))

abbrev pub Sees : Shape → List ℕ → ℕ → ℕ → List ℕ → Bool → List ℕ → Type 0
Sees z a t i w b w' =
    (b ≡ branch_seen z (columns z a) t (reference 0 i)) × ((b ≡ true → KeptAt z a t w' i) × OnlyAt z a t i w w')

module _ (z : Shape) (a : List ℕ) (t i r : ℕ) (w : List ℕ) (q : r ≡ reference 0 i) where
  same_words : OnlyAt z a t i w w
  same_words = record { same_length = refl; not_there = λ f. refl; others = λ j ne. refl }

  at_ref : (b : Bool) → is_at (columns z a) t r ≡ b → is_at (columns z a) t (reference 0 i) ≡ b
  at_ref b e = ap (is_at (columns z a) t) (sym q) ∙ e

  pub Sees-off : is_at (columns z a) t r ≡ false → Sees z a t i w true w
  Sees-off e = (
    sym (not_at z (columns z a) t (reference 0 i) (at_ref false e)),
    (λ y k. absurd (false≢true (sym (at_ref false e) ∙ k)), same_words),
  )

  module _ (l : i < z.branches) (d : t < z.depths) (e : is_at (columns z a) t r ≡ true) (s : Option Seen)
      (f : s ≡ branch_by (see_at z (columns z a) (suc t)) z (columns z a) t r) where
    it_is : s ≡ see_at z (columns z a) t r
    it_is = f ∙ sym (see_here z (columns z a) t r (branch_at z i r l q) e d)

    pub Sees-fault : s ≡ Fault → Sees z a t i w false w
    Sees-fault n =
        let g : see_at z (columns z a) t (reference 0 i) ≡ Fault
        = ap (see_at z (columns z a) t) (sym q) ∙ sym it_is ∙ n in
        (sym (at_Fault z (columns z a) t (reference 0 i) (at_ref true e) g), (λ y. absurd (false≢true y), same_words))

    module _ (m n : ℕ) (p : s ≡ Under m n) where
      it_shows : see_at z (columns z a) t r ≡ Under m n
      it_shows = sym it_is ∙ p

      pub keep_fits : Allowed z → (m < 2 ^ 32) × (n < 2 ^ 32)
      unfolding cells_of
      keep_fits k =
          let lead = kind_says z 1 m (seen_named z (columns z a) _ t r m n it_shows) in
          let c = names_says z m lead.0 in
          let few : cell_of m < z.entries = rw lead.1 at c.number in
          let live : is_live z (columns z a) 0 r ≡ true
          = live_is z (columns z a) 0 r (branch_at z i r l q) (at_says z (columns z a) t r e).0 in
          (omega (arith, few, k.few_entries), omega (arith, seen_few z (columns z a) _ t r m n live it_shows, k.few_entries))

      pub Sees-kept : Allowed z → (v : ℕ) → v ≡ kept_as m n → i < length w → Sees z a t i w true (set w i v)
      Sees-kept k v h long =
          let there : see_at z (columns z a) t (reference 0 i) ≡ Under m n
          = ap (see_at z (columns z a) t) (sym q) ∙ it_shows in (
            sym (at_seen z (columns z a) t (reference 0 i) (at_ref true e) m n there),
            (
              λ y at. there ∙ kept_is w i m n long (keep_fits k).1 ∙ ap (λ (x : ℕ). kept (set w i x) (reference 0 i)) (sym h),
              record {
                same_length = length-set w i v;
                not_there = λ no. absurd (false≢true (sym no ∙ at_ref true e));
                others = λ j ne. get_or-set_other w i j v 0 ne;
              },
            ),
          )

-- A LEVEL, branch by branch: work words from w₀ on
pub record Through (z : Shape) (a : List ℕ) (t : ℕ) (w₀ : List ℕ) (i : ℕ) (w : List ℕ) : Type 0 where
  pub so_far : level_seen z (columns z a) t ≡ all_from (λ j. branch_seen z (columns z a) t (reference 0 j)) i (z.branches - i)
  pub known : Known z a (suc t) w
  pub done : (j : ℕ) → j < i → KeptAt z a t w j
  pub only : OnlyBranches z w₀ w

pub only_none : (z : Shape) (w : List ℕ) → OnlyBranches z w w
only_none z w = record { same_length = refl; others = λ j l. refl }

pub Through-first : (z : Shape) (a : List ℕ) (t : ℕ) (w : List ℕ) → Known z a (suc t) w → Through z a t w 0 w
unfolding level_seen
Through-first z a t w k =
    record {
      so_far = let e : z.branches ≡ z.branches - 0 = omega arith in
          ap (λ (n : ℕ). all_from (λ j. branch_seen z (columns z a) t (reference 0 j)) 0 n) e;
      known = k;
      done = λ j l. absurd (omega arith);
      only = only_none z w;
    }

branch_below : (z : Shape) (r : ℕ) → names z r ≡ true → kind_of r ≡ 0 → cell_of r < z.branches
unfolding cells_of
branch_below z r n k = rw k at (names_says z r n).number

-- the work word of a branch
branch_cell : (z : Shape) (σ : State) (r : ℕ) → is_live z σ 0 r ≡ true → (cell_of r < z.branches) × (r ≡ reference 0 (cell_of r))
branch_cell z σ r e =
    let w = live_says z σ 0 r e in
    let k = kind_says z 0 r w.0 in
    let n = (names_says z r k.0).low in
    (branch_below z r k.0 k.1, omega (arith, k.1, n))

module _ (z : Shape) (a : List ℕ) (t i : ℕ) (w₀ w w' : List ℕ) (h : Through z a t w₀ i w) (l : i < z.branches)
    (o : OnlyAt z a t i w w') where
  same_kept : (r : ℕ) → (cell_of r ≡ i → ⊥) → kept w r ≡ kept w' r
  same_kept r ne = ap (λ (v : ℕ). Under (v / 2 ^ 32) (v % 2 ^ 32)) (sym (o.others (cell_of r) ne))

  -- a branch that is not at this depth keeps its word
  deeper_kept : (r : ℕ) → is_live z (columns z a) 0 r ≡ true → suc t ≤ (columns z a).mark r → kept w r ≡ kept w' r
  deeper_kept r e d =
      ⊎_elim
      (λ q.
      let there : r ≡ reference 0 i = (branch_cell z (columns z a) r e).1 ∙ ap (reference 0) q in
      let off : is_at (columns z a) t (reference 0 i) ≡ false
      = split (is_at (columns z a) t (reference 0 i))
      (λ y. absurd (omega (arith, ap (columns z a).mark there, (at_says z (columns z a) t (reference 0 i) y).1)))
      (λ f. f) in
      ap (λ (v : List ℕ). kept v r) (sym (o.not_there off)))
      (λ ne. same_kept r ne)
      (eq? (cell_of r) i)

  pub through_known : Known z a (suc t) w'
  through_known =
      record { deep = h.known.deep; known = λ r e d. h.known.known r e d ∙ deeper_kept r e d }

  pub through_only : OnlyBranches z w₀ w'
  through_only =
      record {
        same_length = o.same_length ∙ h.only.same_length;
        others = λ j m. o.others j (λ e. omega arith) ∙ h.only.others j m;
      }

  pub Through-next : branch_seen z (columns z a) t (reference 0 i) ≡ true → KeptAt z a t w' i → (j : ℕ) → j ≡ suc i
      → Through z a t w₀ j w'
  Through-next b k j e =
      subst (λ (n : ℕ). Through z a t w₀ n w') (sym e)
      record {
        so_far = h.so_far ∙ all_on _ i z.branches l b;
        known = through_known;
        done =
            λ m d.
            ⊎_elim (λ q. subst (λ (x : ℕ). KeptAt z a t w' x) (sym q) k)
            (λ ne y. h.done m (omega arith) y ∙ same_kept (reference 0 m) (λ q. ne (omega (arith, q))))
            (eq? m i);
        only = through_only;
      }

  pub through_stops : branch_seen z (columns z a) t (reference 0 i) ≡ false → level_seen z (columns z a) t ≡ false
  through_stops b = h.so_far ∙ all_stops _ i z.branches l b

pub Through-all : (z : Shape) (a : List ℕ) (t i : ℕ) (w₀ w : List ℕ) → Through z a t w₀ i w → z.branches ≤ i
    → (level_seen z (columns z a) t ≡ true) × Known z a t w
Through-all z a t i w₀ w h l = (
  h.so_far ∙ all_over _ i z.branches l,
  record {
    deep = h.known.deep;
    known =
        λ r e d.
        ⊎_elim
        (λ q.
        let c = branch_cell z (columns z a) r e in
        let y : is_at (columns z a) t r ≡ true = at_is z (columns z a) t r (live_says z (columns z a) 0 r e).1 (sym q) in
        let k = h.done (cell_of r) (omega (arith, c.0)) (subst (λ (x : ℕ). is_at (columns z a) t x ≡ true) c.1 y) in
        subst (λ (m : ℕ). see_at z (columns z a) m r ≡ kept w r) q
        (subst (λ (x : ℕ). see_at z (columns z a) t x ≡ kept w x) (sym c.1) k))
        (λ ne. h.known.known r e (omega arith))
        (eq? t ((columns z a).mark r));
  },
)

-- ALL LEVELS, from the last up
pub levels_on : (z : Shape) (σ : State) (d t : ℕ) → d ≡ suc t → level_seen z σ t ≡ true → levels_seen z σ d ≡ levels_seen z σ t
unfolding levels_seen
levels_on z σ d t e y = ap (levels_seen z σ) e ∙ rw y

pub levels_stop : (z : Shape) (σ : State) (d t : ℕ) → d ≡ suc t → level_seen z σ t ≡ false → levels_seen z σ d ≡ false
unfolding levels_seen
levels_stop z σ d t e f = ap (levels_seen z σ) e ∙ rw f

pub levels_all : (z : Shape) (σ : State) (d : ℕ) → d ≡ 0 → levels_seen z σ d ≡ true
unfolding levels_seen
levels_all z σ d e = ap (levels_seen z σ) e

pub only_both : (z : Shape) (u v w : List ℕ) → OnlyBranches z u v → OnlyBranches z v w → OnlyBranches z u w
only_both z u v w p q =
    record { same_length = q.same_length ∙ p.same_length; others = λ j l. q.others j l ∙ p.others j l }
