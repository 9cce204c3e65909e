-- The children of a branch with one more put in, as a row and as a bitmap. The place of a segment is how many children stand at
-- lower ones. From there on the others go up by one place where no child stood at the segment, and else stay.
use Prim.Native.Nat.{ℕ, zero, suc, ◌+◌, ◌-◌, ◌*◌, ◌^◌, ◌≤◌, ◌<◌}
use mathlib.Core.Path.{◌≡◌, refl, sym, ap, ◌∙◌, fun_ext}
use mathlib.Core.Bool.{cond}
use mathlib.Core.Logic.{⊎_elim}
use native.Mathlib.Omega.{arith}
use lib.Dec.{ltb}
use borrow.Author.Tests.{eq-eqb, ne_eqb, lt-ltb, le-ltb}
use Rattle.cases.proofs.Cases.{lt?, Tri, is_less, is_equal, is_more, tri}
use Rattle.sparse_array.specs.Bitmap.{below}
use Rattle.sparse_array.proofs.Bitmap.{OnlyAt, rank_first, below_out, below_only_upto, below_only_behind}
use Rattle.layout.specs.Columns.{State}
use Rattle.trie.specs.Trie.{Node, Kids, none, kid, Found, missing, found, on_found, child, put}
use Rattle.trie.specs.Canon.{Above, Asc, AllKids}
use Rattle.trie.proofs.KidsLaws.{child_hit, child_miss, child-Above, put_hit, put_less, put_more, Above-Asc}
use Rattle.arena.specs.Shows.{bitmap, behind, Shows, ShowsRow}
use Rattle.lookup.proofs.RowLaws.{bits_of, bit-missing, bit_found}
use Rattle.grafts.specs.Grafts.{gap_at, row_with}

-- A ROW WITH ONE WORD PUT IN
module _ (f : ℕ → ℕ) (p g x k : ℕ) where
  pub with_at : k ≡ p → row_with f p g x k ≡ x
  unfolding row_with
  with_at e = rw (eq-eqb k p e)

  pub with_behind : p < k → row_with f p g x k ≡ f (k - g)
  unfolding row_with
  with_behind l = rw (ne_eqb k p (λ e. omega arith), lt-ltb p k l)

  pub with_before : k < p → row_with f p g x k ≡ f k
  unfolding row_with
  with_before l = rw (ne_eqb k p (λ e. omega arith), le-ltb p k (omega arith))

-- without its first word
behind_first : (f q : ℕ → ℕ) (g x : ℕ) → ((j : ℕ) → f (suc j - g) ≡ q j) → behind (row_with f 0 g x) ≡ q
behind_first f q g x e = fun_ext (λ j. with_behind f 0 g x (suc j) (omega arith) ∙ e j)

behind_with : (f : ℕ → ℕ) (p g x : ℕ) → g ≤ 1 → behind (row_with f (suc p) g x) ≡ row_with (behind f) p g x
behind_with f p g x l = fun_ext (λ j. by j (tri j p))
  where
    by : (j : ℕ) → Tri j p → row_with f (suc p) g x (suc j) ≡ row_with (behind f) p g x j
    by j (is_less h) = with_before f (suc p) g x (suc j) (omega arith) ∙ sym (with_before (behind f) p g x j h)
    by j (is_equal e) = with_at f (suc p) g x (suc j) (ap suc e) ∙ sym (with_at (behind f) p g x j e)
    by j (is_more h) =
        let q : suc j - g ≡ suc (j - g) = omega arith in
        with_behind f (suc p) g x (suc j) (omega arith) ∙ ap f q ∙ sym (with_behind (behind f) p g x j h)

-- THE PLACE AND THE GAP OF A SEGMENT, by the children
unfoldable pub before : {X : Type 0} → ℕ → Kids X → ℕ
before s none = 0
before s (kid i n ks) = cond (ltb i s) (suc (before s ks)) 0

abbrev gap_of : {X : Type 0} → Found X → ℕ
gap_of c = on_found 1 (λ n. 0) c

module _ {X : Type 0} where
  gap_le : (c : Found X) → gap_of c ≤ 1
  unfolding on_found
  gap_le missing = omega arith
  gap_le (found n) = omega arith

  gap_cases : (c : Found X) → 1 - on_found 0 (λ n. 1) c ≡ gap_of c
  unfolding on_found
  gap_cases missing = refl
  gap_cases (found n) = refl

  gap_here : (s i : ℕ) (n : Node X) (ks : Kids X) → i ≡ s → gap_of (child s (kid i n ks)) ≡ 0
  unfolding on_found
  gap_here s i n ks e = rw (child_hit s i n ks e)

  gap_less : (s i : ℕ) (n : Node X) (ks : Kids X) → Above i ks → s < i → gap_of (child s (kid i n ks)) ≡ 1
  unfolding on_found
  gap_less s i n ks a l = rw (child_miss s i n ks (λ e. omega arith), child-Above s i ks a (omega arith))

  before_low : (lo s : ℕ) (ks : Kids X) → Above lo ks → s ≤ lo → before s ks ≡ 0
  unfolding before Above
  before_low lo s none a l = refl
  before_low lo s (kid i n ks) a l = rw (le-ltb i s (omega (arith, a.0)))

  pub before_here : (s i : ℕ) (n : Node X) (ks : Kids X) → s ≤ i → before s (kid i n ks) ≡ 0
  unfolding before
  before_here s i n ks l = rw (le-ltb i s l)

  pub before_more : (s i : ℕ) (n : Node X) (ks : Kids X) → i < s → before s (kid i n ks) ≡ suc (before s ks)
  unfolding before
  before_more s i n ks l = rw (lt-ltb i s l)

  -- and by the bitmap
  gap_is : (s : ℕ) (ks : Kids X) → Asc ks → gap_at (bitmap ks) s ≡ gap_of (child s ks)
  gap_is s ks a = ap (λ (b : ℕ). 1 - b) (bits_of ks a s) ∙ gap_cases (child s ks)

  -- the first child's bit is the only one that the others lack
  first_only : (i : ℕ) (n : Node X) (ks : Kids X) → Above i ks → OnlyAt i (bitmap ks) (bitmap (kid i n ks))
  first_only i n ks a j ne =
      bits_of (kid i n ks) (unfold Asc in a) j
      ∙ ap (on_found 0 (λ m. 1)) (child_miss j i n ks (λ e. ne (sym e)))
      ∙ sym (bits_of ks (Above-Asc i ks a) j)

  -- the step of `before_is`
  before_step : (s i : ℕ) (n : Node X) (ks : Kids X) → Above i ks → below (bitmap ks) s ≡ before s ks
      → below (bitmap (kid i n ks)) s ≡ before s (kid i n ks)
  before_step s i n ks a ih =
      let only = first_only i n ks a in
      ⊎_elim
      (λ l.
      omega (
        arith,
        before_more s i n ks l,
        below_only_behind i _ _ only s l,
        bit-missing ks (Above-Asc i ks a) i (child-Above i i ks a (omega arith)),
        bit_found (kid i n ks) (unfold Asc in a) i n (child_hit i i n ks refl),
      ))
      (λ l. below_only_upto i _ _ only s l ∙ ih ∙ before_low i s ks a l ∙ sym (before_here s i n ks l))
      (lt? i s)

  pub before_is : (s : ℕ) (ks : Kids X) → Asc ks → below (bitmap ks) s ≡ before s ks
  unfolding Asc
  before_is s none a = unfold bitmap before in (below_out 0 0 s (omega arith) (omega arith) ∙ rank_first 0)
  before_is s (kid i n ks) a = before_step s i n ks a (before_is s ks (Above-Asc i ks a))

-- THE BITMAP WITH ONE CHILD PUT IN
module _ {X : Type 0} where
  bits_put : (s : ℕ) (m : Node X) (ks : Kids X) → Asc ks → bitmap (put s m ks) ≡ bitmap ks + gap_of (child s ks) * 2 ^ s
  unfolding Asc bitmap
  bits_put s m none a = unfold put child on_found in (omega arith)
  bits_put s m (kid i n ks) a = by (bits_put s m ks (Above-Asc i ks a)) (tri s i)
    where
      by : bitmap (put s m ks) ≡ bitmap ks + gap_of (child s ks) * 2 ^ s → Tri s i
          → bitmap (put s m (kid i n ks)) ≡ 2 ^ i + bitmap ks + gap_of (child s (kid i n ks)) * 2 ^ s
      by ih (is_less l) = rw (put_less s i m n ks l, gap_less s i n ks a l) (omega arith)
      by ih (is_equal e) = rw (put_hit s i m n ks (sym e), gap_here s i n ks (sym e), e) (omega arith)
      by ih (is_more l) = rw (put_more s i m n ks l, child_miss s i n ks (λ e. omega arith)) (omega arith)

  pub bitmap-put : (s : ℕ) (m : Node X) (ks : Kids X) → Asc ks → bitmap (put s m ks) ≡ bitmap ks + gap_at (bitmap ks) s * 2 ^ s
  bitmap-put s m ks a = bits_put s m ks a ∙ ap (λ (g : ℕ). bitmap ks + g * 2 ^ s) (sym (gap_is s ks a))

-- THE ROW WITH ONE CHILD PUT IN
module _ (σ : State) where
  -- in front of what stood from there on
  first_in : (s : ℕ) (m : Node ℕ) (ks : Kids ℕ) (t g x : ℕ) (f q : ℕ → ℕ) → ((j : ℕ) → f (suc j - g) ≡ q j) → Shows σ m (suc t) x
      → ShowsRow σ ks t q → ShowsRow σ (kid s m ks) t (row_with f 0 g x)
  unfolding Shows
  first_in s m ks t g x f q e h r = (rw (with_at f 0 g x 0 refl) h, rw (behind_first f q g x e) r)

  -- behind the first child
  later_in : (i : ℕ) (n : Node ℕ) (ks : Kids ℕ) (t p g x : ℕ) (f : ℕ → ℕ) → g ≤ 1 → Shows σ n (suc t) (f 0)
      → ShowsRow σ ks t (row_with (behind f) p g x) → ShowsRow σ (kid i n ks) t (row_with f (suc p) g x)
  unfolding Shows
  later_in i n ks t p g x f l h r = (rw (with_before f (suc p) g x 0 (omega arith)) h, rw (behind_with f p g x l) r)

  put_step : (s i : ℕ) (m n : Node ℕ) (ks : Kids ℕ) (t x : ℕ) (f : ℕ → ℕ) → Above i ks → Shows σ m (suc t) x
      → ShowsRow σ (kid i n ks) t f
      → ShowsRow σ (put s m ks) t (row_with (behind f) (before s ks) (gap_of (child s ks)) x) → Tri s i
      → ShowsRow σ (put s m (kid i n ks)) t (row_with f (before s (kid i n ks)) (gap_of (child s (kid i n ks))) x)
  put_step s i m n ks t x f a h r ih (is_less l) =
      rw (put_less s i m n ks l, before_here s i n ks (omega arith), gap_less s i n ks a l)
      (first_in s m (kid i n ks) t 1 x f f (λ j. ap f (omega arith)) h r)
  put_step s i m n ks t x f a h r ih (is_equal e) =
      rw (put_hit s i m n ks (sym e), before_here s i n ks (omega arith), gap_here s i n ks (sym e))
      (first_in s m ks t 0 x f (behind f) (λ j. ap f (omega arith)) h (unfold Shows in r.1))
  put_step s i m n ks t x f a h r ih (is_more l) =
      rw (put_more s i m n ks l, before_more s i n ks l, child_miss s i n ks (λ e. omega arith))
      (later_in i n (put s m ks) t (before s ks) (gap_of (child s ks)) x f (gap_le (child s ks)) (unfold Shows in r.0) ih)

  put_in_row : (s : ℕ) (m : Node ℕ) (ks : Kids ℕ) (t x : ℕ) (f : ℕ → ℕ) → Asc ks → Shows σ m (suc t) x → ShowsRow σ ks t f
      → ShowsRow σ (put s m ks) t (row_with f (before s ks) (gap_of (child s ks)) x)
  unfolding Asc Shows put before child on_found
  put_in_row s m none t x f a h r = first_in s m none t 1 x f f (λ j. ap f (omega arith)) h r
  put_in_row s m (kid i n ks) t x f a h r =
      put_step s i m n ks t x f a h r (put_in_row s m ks t x (behind f) (Above-Asc i ks a) h r.1) (tri s i)

  pub row_put : (s : ℕ) (m : Node ℕ) (ks : Kids ℕ) (t x : ℕ) (f : ℕ → ℕ) → Asc ks → Shows σ m (suc t) x → ShowsRow σ ks t f
      → ShowsRow σ (put s m ks) t (row_with f (below (bitmap ks) s) (gap_at (bitmap ks) s) x)
  row_put s m ks t x f a h r = rw (before_is s ks a, gap_is s ks a) (put_in_row s m ks t x f a h r)

  -- segments that ascend and lie below d leave no word from d on
  row_over : (d lo : ℕ) (ks : Kids ℕ) (t : ℕ) (f : ℕ → ℕ) → Above lo ks → AllKids (λ i n. i < d) ks → ShowsRow σ ks t f
      → (k : ℕ) → d ≤ suc lo + k → f k ≡ 0
  unfolding Above AllKids Shows
  row_over d lo none t f a b h k l = h k
  row_over d lo (kid i n ks) t f a b h zero l = absurd (omega (arith, a.0, b.0))
  row_over d lo (kid i n ks) t f a b h (suc k) l = row_over d i ks t (behind f) a.1 b.1 h.1 k (omega (arith, a.0))

  pub row_clip : (d : ℕ) (ks : Kids ℕ) (t : ℕ) (f : ℕ → ℕ) → Asc ks → AllKids (λ i n. i < d) ks → ShowsRow σ ks t f
      → (k : ℕ) → d ≤ k → f k ≡ 0
  unfolding Asc AllKids Shows
  row_clip d none t f a b h k l = h k
  row_clip d (kid i n ks) t f a b h zero l = absurd (omega (arith, b.0))
  row_clip d (kid i n ks) t f a b h (suc k) l = row_over d i ks t (behind f) a b.1 h.1 k (omega arith)
