-- `tallies::are_counts` meets its contract: the branches are looked at, and then the entries. Assumes nothing.
use mathlib.Core.Path.{sym, ◌∙◌}
use Rattle.tallies.proofs.CountsLaws.{branches_wrong, branches_right}
use Rattle.tallies.proofs.are_counts.Goals as goal

pub returns-then-are_counts_of : goal.returns-then-are_counts_of
returns-then-are_counts_of c =
    c.are_counts_of-then-are_counts_of.ensures
    ∙ sym (branches_right _ _ _ (sym c.are_counts_of.ensures ∙ c.if-are_counts_of.true))

pub returns-else-are_counts_of : goal.returns-else-are_counts_of
returns-else-are_counts_of c =
    let wrong = sym c.are_counts_of.ensures ∙ c.if-are_counts_of.false in
    c.if-are_counts_of.false ∙ sym (branches_wrong _ _ _ wrong)
