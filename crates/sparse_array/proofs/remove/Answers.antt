-- `sparse_array::remove` meets its contract: the word at the place that `map_index` gives is taken out and the index's bit
-- cleared, or there is nothing to do. Assumes nothing.
use Rattle.std.proofs.lemmas.Nat.{one_shl}
use Rattle.std.proofs.Common.{◌*◌, ◌%◌, ◌^◌, arith}
use Rattle.sparse_array.proofs.Bitmap.{below_size}
use Rattle.sparse_array.proofs.Places.{there, free, no_index, refused_is}
use Rattle.sparse_array.proofs.Changes.{remove_Refused, remove_Nothing, remove_At}
use Rattle.sparse_array.proofs.remove.Goals as goal

pub returns-in_err-i : goal.returns-in_err-i
returns-in_err-i c =
    let a = c.args in
    rw (← refused_is c.from_residual.result c.from_residual.ensures.0)
    (remove_Refused a.bitmap a.words.now a.index (no_index a.bitmap a.index _ c.map_index.ensures c.in_err-i.was))

pub remove_word-requires : goal.remove_word-requires
remove_word-requires c =
    let p = there c.args.bitmap c.args.index c.map_index.ensures c.in_ok-i.was c.in-Some.is in
    (omega (arith, below_size c.args.bitmap c.args.index c.ranges.bitmap.fits p.1), omega arith)

pub overflow_shl-result : goal.overflow_shl-result
overflow_shl-result c = (there c.args.bitmap c.args.index c.map_index.ensures c.in_ok-i.was c.in-Some.is).0

pub returns-in-Some : goal.returns-in-Some
returns-in-Some c =
    let p = there c.args.bitmap c.args.index c.map_index.ensures c.in_ok-i.was c.in-Some.is in
    remove_At c.args.bitmap c.args.words.now c.args.index c.in-Some.i (1 * 2 ^ c.args.index % 2 ^ 64)
    c.remove_word.new.words c.ranges.bitmap.fits p (omega arith)
    (rw c.size-count.ensures at c.remove_word.ensures)
    (one_shl c.args.index 64 p.0)

pub returns-in-None : goal.returns-in-None
returns-in-None c =
    remove_Nothing c.args.bitmap c.args.words.now c.args.index c.ranges.bitmap.fits
    (free c.args.bitmap c.args.index c.map_index.ensures c.in_ok-i.was c.in-None.is)
    (omega arith)
