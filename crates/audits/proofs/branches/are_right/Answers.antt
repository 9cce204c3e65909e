use mathlib.Core.Path.{sym, ◌∙◌}
use native.Mathlib.Omega.{arith}
use Rattle.audits.specs.Audits.{branch_right, branches_right}
use Rattle.audits.proofs.AllLaws.{all_over}
use Rattle.audits.proofs.StepLaws.{branch_cell, all_first, cells_on, cells_stop}
use Rattle.audits.proofs.branches.are_right.Goals as goal

pub loop-i-init : goal.loop-i-init
unfolding branches_right
loop-i-init c = all_first _ _

pub is_right-requires : goal.is_right-requires
is_right-requires c = record { lent = c.requires; is_branch = branch_cell _ _ _ c.loop-i-test.true (omega arith) }

pub returns-then-not-is_right : goal.returns-then-not-is_right
returns-then-not-is_right c =
    let l = c.loop-i in
    sym
    (l.invariant
    ∙ cells_stop (branch_right _ _) 0 _ _ _ _ c.loop-i-test.true (omega arith) c.is_right.ensures
    (c.if-not-is_right.true))

pub loop-i-preserved : goal.loop-i-preserved
loop-i-preserved c =
    let l = c.loop-i in
    l.invariant
    ∙ cells_on (branch_right _ _) 0 _ _ _ _ c.loop-i-test.true (omega arith) c.is_right.ensures
    (c.if-not-is_right.false)

pub returns : goal.returns
returns c = sym (c.loop-i.invariant ∙ all_over _ _ _ c.loop-i-test.false)
