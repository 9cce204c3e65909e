-- `tallies::work_at` meets its contract: a cell that is named has a number, and the branches come first. Assumes nothing.
use Rattle.layout.proofs.OffsetLaws.{names_says}
use native.Mathlib.Omega.{arith}
use Rattle.tallies.proofs.work_at.Goals as goal

pub overflow_sub-result : goal.overflow_sub-result
overflow_sub-result c = omega (arith, (names_says _ _ c.requires.is_cell).low)

pub overflow_sub-result-in-Entry : goal.overflow_sub-result-in-Entry
overflow_sub-result-in-Entry c = omega (arith, (names_says _ _ c.requires.is_cell).low)
