-- `chains::push_front` meets its contract. Assumes nothing.
use native.Mathlib.Omega.{arith}
use mathlib.Core.Path.{◌∙◌}
use Rattle.chains.proofs.StepLaws.{new_names, push_none, push_done}
use Rattle.cells.proofs.KeptLaws.{lent_same}
use Rattle.chains.proofs.push_front.Goals as goal

pub returns-then-first-eq0 : goal.returns-then-first-eq0
returns-then-first-eq0 c = push_none _ _ _ _ _ _ _ _ _ c.new_entry-first.ensures c.if-first-eq0.true

pub stand_behind-requires : goal.stand_behind-requires
stand_behind-requires c = record { lent = lent_same (omega (arith, c.new_entry-first.auto.a)) c.requires; is_entry = new_names _ _ _ _ _ _ c.new_entry-first.ensures c.if-first-eq0.false }

pub returns : goal.returns
returns c = c.stand_behind.ensures ∙ push_done _ _ _ _ _ _ _ _ _ c.new_entry-first.ensures c.if-first-eq0.false
