-- `grafts::kids::at` meets its contract. Assumes nothing.
use mathlib.Core.Path.{sym, ◌∙◌}
use Rattle.grafts.proofs.StepLaws.{row_branch, row_beyond, row_entry, row_none}
use Rattle.grafts.proofs.kids.at.Goals as goal

pub returns-then-is_branch : goal.returns-then-is_branch
returns-then-is_branch c = c.kid.ensures ∙ sym (row_branch _ _ _ _ (sym c.is_branch.ensures ∙ c.if-is_branch.true))

pub returns-then-place-ne0 : goal.returns-then-place-ne0
returns-then-place-ne0 c = sym (row_beyond _ _ _ _ (sym c.is_branch.ensures ∙ c.if-is_branch.false) c.if-place-ne0.true)

pub returns-then-is_entry : goal.returns-then-is_entry
returns-then-is_entry c = sym (row_entry _ _ _ _ (sym c.is_branch.ensures ∙ c.if-is_branch.false) (sym c.is_entry.ensures ∙ c.if-is_entry.true) c.if-place-ne0.false)

pub returns-else-is_entry : goal.returns-else-is_entry
returns-else-is_entry c = sym (row_none _ _ _ _ (sym c.is_branch.ensures ∙ c.if-is_branch.false) (sym c.is_entry.ensures ∙ c.if-is_entry.false))
