-- `sparse_array::rank` meets its contract: the remainder by a power of two is the part of the bitmap below a place, and the
-- machine counts its ones; from 64 on there is no bit left to count. Assumes nothing.
use Rattle.std.proofs.lemmas.Nat.{one_shl}
use Rattle.std.proofs.Common.{◌≡◌, ℕ, ◌*◌, ◌%◌, ◌^◌, ◌<◌, sym, ap, ◌∙◌, arith, pow_pos}
use lib.Count.{ones}
use Rattle.sparse_array.specs.Bitmap.{below}
use Rattle.sparse_array.proofs.Bitmap.{ones_mod, below_le, below_out}
use Rattle.sparse_array.proofs.rank.Goals as goal

counted : (n i : ℕ) → i < 64 → ones (n % (1 * 2 ^ i % 2 ^ 64)) ≡ below n i
counted n i h = ap (λ (x : ℕ). ones (n % x)) (one_shl i 64 h) ∙ ones_mod n i

pub returns-then-index-ge-WIDTH : goal.returns-then-index-ge-WIDTH
returns-then-index-ge-WIDTH c =
    let a = c.args in
    c.size.ensures ∙ sym (below_out a.bitmap 64 a.index c.ranges.bitmap.fits (omega arith))

pub nonzero_rem-result : goal.nonzero_rem-result
nonzero_rem-result c = omega (arith, one_shl c.args.index 64 (omega arith), pow_pos c.args.index)

pub overflow_cast-result : goal.overflow_cast-result
overflow_cast-result c = omega (arith, counted c.args.bitmap c.args.index (omega arith), below_le c.args.bitmap c.args.index)

pub returns : goal.returns
returns c = counted c.args.bitmap c.args.index (omega arith)
