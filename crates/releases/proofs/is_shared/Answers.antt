-- `releases::is_shared` meets its contract: what it tests is the kind, the place and the count. Assumes nothing.
use mathlib.Core.Path.{sym, ap, ◌∙◌}
use mathlib.Core.Logic.{inl, inr}
use lib.Dec.{eqb}
use Prim.Native.Nat.{ℕ, ◌-◌}
use borrow.Author.Tests.{le-ltb}
use Rattle.layout.proofs.ColumnLaws.{has_low}
use Rattle.releases.proofs.SharedLaws.{unnamed_not_shared, once_not_shared, entry_shared, branch_shared}
use native.Mathlib.Omega.{arith}
use borrow.Author.Rules.{rules}
use Rattle.releases.proofs.is_shared.Goals as goal
use Rattle.releases.proofs.is_shared.Goals.{then-left-gt0, else-left-gt0}

pub returns-then-not-is_cell : goal.returns-then-not-is_cell
returns-then-not-is_cell c = unnamed_not_shared _ _ _ _ _ (sym c.is_cell.ensures ∙ c.if-not-is_cell.true)

pub word-count-requires : goal.word-count-requires
word-count-requires c = record { lent = search rules; has_word = has_low _ _ _ (sym c.is_cell.ensures ∙ c.if-not-is_cell.false) (omega arith) }

pub word-mark-requires : goal.word-mark-requires
word-mark-requires c = record { lent = search rules; has_word = has_low _ _ _ (sym c.is_cell.ensures ∙ c.if-not-is_cell.false) (omega arith) }

pub returns-in-Entry : goal.returns-in-Entry
returns-in-Entry c = entry_shared _ _ _ _ _ (sym c.is_cell.ensures ∙ c.if-not-is_cell.false) (sym c.in-Entry.ensures) (omega (arith, c.word-count.ensures, c.if-count-le1.false))

pub returns-then-count-le1 : goal.returns-then-count-le1
returns-then-count-le1 c = once_not_shared _ _ _ _ _ (omega (arith, c.word-count.ensures, c.if-count-le1.true))

pub returns-in-Branch : goal.returns-in-Branch
returns-in-Branch c =
    branch_shared _ _ _ _ _ _ (sym c.is_cell.ensures ∙ c.if-not-is_cell.false) (λ q. omega (arith, q, c.in-Branch.ensures))
    (omega (arith, c.word-count.ensures, c.if-count-le1.false))
    (elim c.if-left-gt0.branch [
      | then-left-gt0 w ↦
          inl
          (w.if-left-gt0.true, w.here-is ∙ ap (λ (x : ℕ). eqb x (c.args.z.depths - c.args.left)) c.word-mark.ensures)
      | else-left-gt0 w ↦ inr (w.if-left-gt0.false, w.here-is ∙ le-ltb 0 _ w.if-left-gt0.false)
    ])
