-- `updates::write` meets its contract. Assumes nothing.
use native.Mathlib.Omega.{arith}
use Rattle.cells.proofs.KeptLaws.{lent_same}
use Rattle.updates.proofs.StepLaws.{leaf_none, root_held}
use Rattle.updates.proofs.write.Goals as goal

pub returns-then-leaf-eq0 : goal.returns-then-leaf-eq0
returns-then-leaf-eq0 c = leaf_none _ _ _ _ _ _ _ c.push_front-leaf.ensures c.if-leaf-eq0.true

pub hold_root-requires : goal.hold_root-requires
hold_root-requires c = record { lent = lent_same (omega (arith, c.graft-root.auto.a, c.push_front-leaf.auto.a)) c.requires.lent; in_slots = c.requires.in_slots }

pub returns : goal.returns
returns c = root_held _ _ _ _ _ _ _ c.push_front-leaf.ensures c.if-leaf-eq0.false _ _ c.graft-root.ensures _ c.more-entries.ensures _ c.hold_root.ensures
