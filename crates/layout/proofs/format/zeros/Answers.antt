-- `layout::format::zeros` meets its contract: the part that is filled is the run of zeros. Assumes nothing.
use native.Mathlib.Omega.{arith}
use Rattle.layout.proofs.WriteLaws.{zeros_filled}
use Rattle.layout.proofs.format.zeros.Goals as goal

pub returns : goal.returns
returns c = zeros_filled _ _ _ _ _ c.requires (omega arith) (c.fill.ensures.after (λ y h. h))
