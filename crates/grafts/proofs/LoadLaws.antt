-- How a row is loaded: the children of a branch one by one, and an entry, its own only child, as one word in a list that is all 0
-- before. And how far a row is filled.
use Prim.Native.Nat.{ℕ, zero, suc, ◌+◌, ◌-◌, ◌≤◌, ◌<◌}
use mathlib.Core.Path.{◌≡◌, refl, sym, ap, ◌∙◌}
use mathlib.Core.Bool.{true, cond}
use mathlib.Core.List.{List}
use mathlib.Core.Logic.{⊎_elim}
use native.Mathlib.Omega.{arith}
use borrow.Author.Tests.{lt-ltb, le-ltb}
use lib.Dec.{ltb}
use lib.Bits.{bit_or, or_add_and, and_le_l, and_le_r}
use lib.ListN.{length, get_or, set, replicate, length-replicate}
use lib.Seq.{get_or-set_same, get_or-set_other}
use Rattle.cases.proofs.Cases.{eq?, lt?, Tri, is_less, is_equal, is_more, tri}
use Rattle.layout.specs.declared.Shape.{Shape}
use Rattle.layout.specs.Layout.{has, kind_of, Lent}
use Rattle.layout.specs.Columns.{word, columns, refs, kid_place}
use Rattle.layout.proofs.ColumnLaws.{has_branch, kid_in}
use Rattle.arena.proofs.RefLaws.{refs_branch}
use Rattle.lookup.specs.Lookup.{names_kind}
use Rattle.lookup.proofs.FindLaws.{kind_says}
use Rattle.cells.proofs.StepColumns.{Lent-refs}
use Rattle.grafts.specs.Grafts.{kid_row, row_with, IsRow, Blank, NoneFrom}
use Rattle.grafts.proofs.RowLaws.{with_at, with_behind, with_before}
use Rattle.grafts.proofs.StepLaws.{row_branch}

-- THE WORDS OF A BRANCH that are its children
module _ (z : Shape) (r k g : ℕ) (e : names_kind z 0 r ≡ true) (l : g ≤ k) (h : k < z.degree) where
  pub has_child : has z r (3 + k - g) ≡ true
  has_child = let s = kind_says z 0 r e in has_branch z r _ s.0 s.1 (omega arith)

  pub child_is : (a : List ℕ) → Lent z a → word z a r (3 + k - g) ≡ kid_row z (columns z a) r (k - g)
  child_is a w =
      let s = kind_says z 0 r e in
      let n : refs z r ≡ z.degree = refs_branch z r (Lent-refs w r s.0) s.1 in
      let p : 3 + k - g ≡ kid_place (kind_of r) + (k - g) = omega (arith, s.1) in
      ap (word z a r) p ∙ sym (kid_in z a r (k - g) (omega (arith, n))) ∙ sym (row_branch z (columns z a) r (k - g) e)

-- A NEW ROW
zeros_none : (n k : ℕ) → get_or {A = ℕ} (replicate n 0) k 0 ≡ 0
zeros_none zero k = refl
zeros_none (suc n) zero = refl
zeros_none (suc n) (suc k) = zeros_none n k

pub zeros_Blank : Blank (replicate 64 0)
zeros_Blank = record { long = length-replicate {A = ℕ} 64 0; none = zeros_none 64 }

-- THE ROW OF A BRANCH, word by word, but for the place of the new child, which is cleared at the end
abbrev pub RowBut : (ℕ → ℕ) → ℕ → ℕ → ℕ → List ℕ → Type 0
RowBut f p g n w = (k : ℕ) → k < n → (k ≡ p → ⊥) → get_or w k 0 ≡ row_with f p g 0 k

pub rise_low : (p g k : ℕ) → g ≤ 1 → cond (ltb p k) g 0 ≤ k
rise_low p g k l =
    ⊎_elim (λ h. rw (lt-ltb p k h) (omega arith)) (λ h. rw (le-ltb p k h) (omega arith)) (lt? p k)

module _ (f : ℕ → ℕ) (p g : ℕ) where
  risen : (k : ℕ) → (k ≡ p → ⊥) → f (k - cond (ltb p k) g 0) ≡ row_with f p g 0 k
  risen k ne = by (tri k p)
    where
      by : Tri k p → f (k - cond (ltb p k) g 0) ≡ row_with f p g 0 k
      by (is_less h) = rw (le-ltb p k (omega arith)) (ap f (omega arith) ∙ sym (with_before f p g 0 k h))
      by (is_equal e) = absurd (ne e)
      by (is_more h) = rw (lt-ltb p k h) (sym (with_behind f p g 0 k h))

  pub RowBut-next : (n x : ℕ) (w : List ℕ) → n < length w → x ≡ f (n - cond (ltb p n) g 0) → RowBut f p g n w
      → RowBut f p g (n + 1) (set w n x)
  RowBut-next n x w l e R k lk ne =
      ⊎_elim
      (λ q. ap (λ (j : ℕ). get_or (set w n x) j 0) q ∙ get_or-set_same w n x 0 l ∙ e ∙ ap (λ (j : ℕ). f (j - cond (ltb p j) g 0)) (sym q) ∙ risen k ne)
      (λ other. get_or-set_other w n k x 0 (λ q. other q) ∙ R k (omega (arith, other)) ne)
      (eq? k n)

  pub RowBut-all : (n d : ℕ) (w : List ℕ) → d ≤ n → p < length w → RowBut f p g n w → IsRow d (row_with f p g 0) (set w p 0)
  RowBut-all n d w h l R k lk =
      ⊎_elim
      (λ q. ap (λ (j : ℕ). get_or (set w p 0) j 0) q ∙ get_or-set_same w p 0 0 l ∙ sym (with_at f p g 0 k q))
      (λ other. get_or-set_other w p k 0 0 (λ q. other q) ∙ R k (omega arith) other)
      (eq? k p)

-- ONE WORD, OR NONE. The row of a node that is no branch has a word at most at place 0.
module _ (f : ℕ → ℕ) (p g d : ℕ) (w : List ℕ) (b : Blank w) (only : (k : ℕ) → (k ≡ 0 → ⊥) → f k ≡ 0) where
  -- from place 1 on nothing comes of it but where it goes up
  beyond : (k : ℕ) → (k ≡ 0 → ⊥) → (p < k → k - g ≡ 0 → ⊥) → row_with f p g 0 k ≡ 0
  beyond k ne up = by (tri k p)
    where
      by : Tri k p → row_with f p g 0 k ≡ 0
      by (is_less h) = with_before f p g 0 k h ∙ only k ne
      by (is_equal e) = with_at f p g 0 k e
      by (is_more h) = with_behind f p g 0 k h ∙ only (k - g) (up h)

  -- it stands before the new word's place
  pub one_before : (x : ℕ) → g ≤ 1 → (p ≡ 0 → ⊥) → f 0 ≡ x → IsRow d (row_with f p g 0) (set w 0 x)
  one_before x few ne e k lk =
      ⊎_elim
      (λ o.
      rw o (get_or-set_same w 0 x 0 (omega (arith, b.long)) ∙ sym e ∙ sym (with_before f p g 0 0 (omega (arith, ne)))))
      (λ nz.
      get_or-set_other w 0 k x 0 (λ q. nz q) ∙ b.none k ∙ sym (beyond k nz (λ h q. omega (arith, ne, nz))))
      (eq? k 0)

  -- it goes up from there
  pub one_behind : (x : ℕ) → p ≡ 0 → g ≡ 1 → f 0 ≡ x → IsRow d (row_with f p g 0) (set w 1 x)
  one_behind x o q e k lk =
      ⊎_elim
      (λ i.
      ap (λ (j : ℕ). get_or (set w 1 x) j 0) i ∙ get_or-set_same w 1 x 0 (omega (arith, b.long)) ∙ sym e
      ∙ ap f (omega arith) ∙ sym (with_behind f p g 0 k (omega arith)))
      (λ other. get_or-set_other w 1 k x 0 (λ i. other i) ∙ b.none k ∙ sym (elsewhere other))
      (eq? k 1)
    where
      elsewhere : (k ≡ 1 → ⊥) → row_with f p g 0 k ≡ 0
      elsewhere other =
          ⊎_elim
          (λ i. with_at f p g 0 k (i ∙ sym o))
          (λ nz. beyond k nz (λ h i. omega (arith, other, nz)))
          (eq? k 0)

  -- the new word takes its place
  pub one_left_out : p ≡ 0 → g ≡ 0 → IsRow d (row_with f p g 0) w
  one_left_out o q k lk =
      b.none k
      ∙ sym (⊎_elim (λ i. with_at f p g 0 k (i ∙ sym o)) (λ nz. beyond k nz (λ h i. omega (arith, nz))) (eq? k 0))

pub none_row : (f : ℕ → ℕ) (p g d : ℕ) (w : List ℕ) → Blank w → ((k : ℕ) → f k ≡ 0) → IsRow d (row_with f p g 0) w
none_row f p g d w b none k lk = b.none k ∙ sym (by (tri k p))
  where
    by : Tri k p → row_with f p g 0 k ≡ 0
    by (is_less h) = with_before f p g 0 k h ∙ none k
    by (is_equal e) = with_at f p g 0 k e
    by (is_more h) = with_behind f p g 0 k h ∙ none (k - g)

-- HOW FAR A ROW IS FILLED
or_none : (a b : ℕ) → bit_or a b ≡ 0 → (a ≡ 0) × (b ≡ 0)
or_none a b e =
    (omega (arith, e, or_add_and a b, and_le_l a b, and_le_r a b), omega (arith, e, or_add_and a b, and_le_l a b, and_le_r a b))

module _ (f : ℕ → ℕ) (n : ℕ) where
  pub none_next : (m rest : ℕ) → bit_or rest (f m) ≡ 0 → (rest ≡ 0 → NoneFrom n m f) → NoneFrom n (m + 1) f
  none_next m rest e none k l h =
      ⊎_elim
      (λ q. ap f q ∙ (or_none rest (f m) e).1)
      (λ ne. none (or_none rest (f m) e).0 k l (omega (arith, ne)))
      (eq? k m)
