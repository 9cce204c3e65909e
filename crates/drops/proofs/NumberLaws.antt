-- Which number drop gives: document 01's table holds of the definitions of specs/Calls.antt, on any words.
use Rattle.std.proofs.Common.{ℕ, List, refl}
use Rattle.layout.specs.declared.Shape.{Shape}
use Rattle.cells.proofs.SlotLaws.{held_is}
use Rattle.replies.proofs.Tables.{End, HeaderNumbered, Held, Row, by_Held, end, Gives-done, header_numbered, not_Held-Gives, numbered, row}
use Rattle.drops.specs.Calls.{drop_of}
use Rattle.drops.proofs.CaseLaws.{drop_held, drop_not_held}

module _ (a : List ℕ) (e : ℕ) where
  abbrev pub DropWhen : Shape → ℕ → Type 0
  DropWhen z = Row 5 (Held z a e → ⊥) (Row 0 (Held z a e) End)

  pub drop_numbered : HeaderNumbered a a DropWhen (drop_of a e)
  drop_numbered =
      header_numbered a a (λ o. o) DropWhen _ _ refl (λ z w. w)
      (λ z.
      numbered
      (row (not_Held-Gives z a a e _ (drop_not_held z a e))
      (row (λ w. Gives-done (drop_held z a e (held_is z a e w.0 w.1))) end))
      (by_Held z a e (λ q w. (0, w)) (λ q n. (5, n))))
