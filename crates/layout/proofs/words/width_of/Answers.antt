-- `layout::words::width_of` meets its contract: a degree is at most 64, so the sum does not overflow. Assumes nothing.
use native.Mathlib.Omega.{arith}
use Rattle.layout.proofs.SizeLaws.{small}
use Rattle.layout.proofs.words.width_of.Goals as goal

pub overflow_add-result : goal.overflow_add-result
overflow_add-result c = omega (arith, small _ c.requires)
