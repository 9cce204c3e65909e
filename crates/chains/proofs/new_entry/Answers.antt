-- `chains::new_entry` meets its contract. Assumes nothing.
use native.Mathlib.Omega.{arith}
use Rattle.cells.proofs.KeptLaws.{lent_same}
use Rattle.cells.proofs.TakeLaws.{taken_cell}
use Rattle.chains.proofs.StepLaws.{new_over, new_on}
use Rattle.chains.proofs.new_entry.Goals as goal

pub returns-then-r-eq0 : goal.returns-then-r-eq0
returns-then-r-eq0 c = new_over _ _ _ _ _ _ c.take-r.ensures.answers c.take-r.ensures.leaves c.if-r-eq0.true

pub fill_entry-requires : goal.fill_entry-requires
fill_entry-requires c = record { lent = lent_same (omega (arith, c.take-r.auto.a)) c.requires; is_entry = taken_cell _ _ _ _ c.take-r.ensures.answers c.if-r-eq0.false }

pub returns : goal.returns
returns c = new_on _ _ _ _ _ _ _ c.take-r.ensures.answers c.take-r.ensures.leaves c.if-r-eq0.false c.fill_entry.ensures
