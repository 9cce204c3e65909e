-- What the test before a cell is taken says: the cell is a free one of the kind, and not all cells of the kind are in use.
use Prim.Native.Nat.{ℕ, ◌+◌, ◌-◌, ◌^◌, ◌≤◌, ◌<◌}
use mathlib.Core.Path.{◌≡◌, ◌∙◌}
use mathlib.Core.Bool.{true, false}
use mathlib.Core.List.{List}
use borrow.Author.Tests.{eqb-true, ltb-true, eq-eqb, lt-ltb, le-ltb}
use Rattle.cases.proofs.Cases.{split, both}
use Rattle.layout.specs.declared.Shape.{Shape}
use Rattle.layout.specs.Layout.{kind_of, cells_of, names}
use Rattle.layout.specs.Columns.{word, by_kind}
use Rattle.cells.specs.Mirrors.{one_more, takeable, taken_of, cell_taken, take_words}

pub record Takeable (z : Shape) (a : List ℕ) (k r : ℕ) : Type 0 where
  pub named : names z r ≡ true
  pub kind : kind_of r ≡ k
  pub unused : word z a r 0 ≡ 0
  pub room : by_kind a 10 k < cells_of z k

pub takeable_says : (z : Shape) (a : List ℕ) (k r : ℕ) → takeable z a k r ≡ true → Takeable z a k r
unfolding takeable
takeable_says z a k r e =
    let u = both (names z r) _ e in
    let v = both _ _ u.1 in
    let w = both _ _ v.1 in
    record { named = u.0; kind = eqb-true _ _ v.0; unused = eqb-true _ _ w.0; room = ltb-true _ _ w.1 }

pub takeable_is : (z : Shape) (a : List ℕ) (k r : ℕ) → Takeable z a k r → takeable z a k r ≡ true
unfolding takeable
takeable_is z a k r t =
    rw (t.named, eq-eqb (kind_of r) k t.kind, eq-eqb (word z a r 0) 0 t.unused, lt-ltb (by_kind a 10 k) (cells_of z k) t.room)

module _ (z : Shape) (a : List ℕ) (k : ℕ) where
  pub taken_some : takeable z a k (by_kind a 8 k) ≡ true → taken_of z a k ≡ by_kind a 8 k
  unfolding taken_of
  taken_some e = rw e

  pub taken_none : takeable z a k (by_kind a 8 k) ≡ false → taken_of z a k ≡ 0
  unfolding taken_of
  taken_none e = rw e

  pub take_words_lem : takeable z a k (by_kind a 8 k) ≡ true → take_words z a k ≡ cell_taken z a k (by_kind a 8 k)
  unfolding take_words
  take_words_lem e = rw e

  pub take_words_none : takeable z a k (by_kind a 8 k) ≡ false → take_words z a k ≡ a
  unfolding take_words
  take_words_none e = rw e

-- what was taken is a cell of the kind
pub taken_cell : (z : Shape) (a : List ℕ) (k r : ℕ) → r ≡ taken_of z a k → (r ≡ 0 → ⊥) → (names z r ≡ true) × (kind_of r ≡ k)
taken_cell z a k r e ne =
    split (takeable z a k (by_kind a 8 k))
    (λ t. let T = takeable_says z a k _ t in rw (e ∙ taken_some z a k t) (T.named, T.kind))
    (λ f. absurd (ne (e ∙ taken_none z a k f)))

-- ONE MORE
pub more_some : (n : ℕ) → n < 2 ^ 64 - 1 → one_more n ≡ n + 1
unfolding one_more
more_some n l = rw (lt-ltb n (2 ^ 64 - 1) l)

pub more_none : (n : ℕ) → 2 ^ 64 - 1 ≤ n → one_more n ≡ n
unfolding one_more
more_none n l = rw (le-ltb n (2 ^ 64 - 1) l)
