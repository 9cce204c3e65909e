-- `grafts::new_branch` meets its contract. Assumes nothing.
use Rattle.cells.proofs.KeptLaws.{lent_same}
use Rattle.grafts.proofs.StepLaws.{branch_over, branch_on, named_room}
use native.Mathlib.Omega.{arith}
use Rattle.grafts.proofs.new_branch.Goals as goal

pub returns-then-r-eq0 : goal.returns-then-r-eq0
returns-then-r-eq0 c = branch_over _ _ _ _ _ _ _ c.take-r.ensures.answers c.take-r.ensures.leaves c.if-r-eq0.true

pub fill_branch-requires : goal.fill_branch-requires
fill_branch-requires c = record { lent = lent_same (omega (arith, c.take-r.auto.a)) c.requires; row_fills_branch = named_room _ c.args.a.now _ c.args.row.now c.requires c.take-r.ensures.answers c.if-r-eq0.false (omega arith) }

pub returns : goal.returns
returns c = branch_on _ _ _ _ _ _ _ _ c.take-r.ensures.answers c.take-r.ensures.leaves c.if-r-eq0.false c.fill_branch.ensures
