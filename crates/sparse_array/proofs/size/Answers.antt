-- `sparse_array::size` meets its contract: the machine's count of ones is the sum of the 64 bits. Assumes nothing.
use native.Mathlib.Omega.{arith}
use Rattle.sparse_array.proofs.Bitmap.{ones_all, below_le}
use Rattle.sparse_array.proofs.size.Goals as goal

pub overflow_cast-result : goal.overflow_cast-result
overflow_cast-result c = omega (arith, ones_all c.args.bitmap c.ranges.bitmap.fits, below_le c.args.bitmap 64)

pub returns : goal.returns
returns c = ones_all c.args.bitmap c.ranges.bitmap.fits
