-- `levels::see_level` meets its contract: the branches before the one at hand are seen and kept. Assumes nothing.
use Rattle.levels.proofs.StepLaws.{Through}
use Rattle.levels.proofs.see_level.Given as given

abbrev pub invariant-loop-i : given.invariant-loop-i
invariant-loop-i l = Through l.z l.a l.depth l.initial.work l.i l.work
