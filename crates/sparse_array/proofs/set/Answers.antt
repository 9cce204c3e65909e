-- `sparse_array::set` meets its contract: a word is stored at the place that `map_index` gives, or inserted at the index's
-- rank with the index's bit set. Assumes nothing.
use Rattle.std.proofs.lemmas.Nat.{one_shl}
use Rattle.std.proofs.Common.{◌*◌, ◌%◌, ◌^◌, arith}
use Rattle.sparse_array.proofs.Bitmap.{below_le, below_mono, below_size}
use Rattle.sparse_array.proofs.Places.{there, free, no_index, refused_is}
use Rattle.sparse_array.proofs.Changes.{set_Refused, set_At-Refused, set_at, set_new_Refused, set_new}
use Rattle.sparse_array.proofs.set.Goals as goal

pub returns-in_err-i : goal.returns-in_err-i
returns-in_err-i c =
    let a = c.args in
    rw (← refused_is c.from_residual.result c.from_residual.ensures.0)
    (set_Refused a.bitmap a.words.now a.index a.value (no_index a.bitmap a.index _ c.map_index.ensures c.in_err-i.was))

pub returns-then-words-count : goal.returns-then-words-count
returns-then-words-count c =
    let a = c.args in
    let p = there a.bitmap a.index c.map_index.ensures c.in_ok-i.was c.in-Some.is in
    set_At-Refused a.bitmap a.words.now a.index a.value c.in-Some.i p (omega arith)

pub offset_bounds-words-i : goal.offset_bounds-words-i
offset_bounds-words-i c =
    let p = there c.args.bitmap c.args.index c.map_index.ensures c.in_ok-i.was c.in-Some.is in
    omega (arith, below_le c.args.bitmap c.args.index)

pub bounds-words-i : goal.bounds-words-i
bounds-words-i c =
    let p = there c.args.bitmap c.args.index c.map_index.ensures c.in_ok-i.was c.in-Some.is in
    omega (arith, below_size c.args.bitmap c.args.index c.ranges.bitmap.fits p.1)

pub returns-else-words-count : goal.returns-else-words-count
returns-else-words-count c =
    let p = there c.args.bitmap c.args.index c.map_index.ensures c.in_ok-i.was c.in-Some.is in
    set_at c.args.bitmap c.args.words.now c.args.index c.args.value c.in-Some.i c.ranges.bitmap.fits p (omega arith)

pub returns-then-words-count-2 : goal.returns-then-words-count-2
returns-then-words-count-2 c =
    let a = c.args in
    let p = free a.bitmap a.index c.map_index.ensures c.in_ok-i.was c.in-None.is in
    set_new_Refused a.bitmap a.words.now a.index a.value p (omega arith)

pub insert_word-requires : goal.insert_word-requires
insert_word-requires c =
    let a = c.args in
    let p = free a.bitmap a.index c.map_index.ensures c.in_ok-i.was c.in-None.is in
    (omega (arith, below_mono a.bitmap {i = a.index} 64 (omega (arith, p.0))), omega arith)

pub overflow_shl-result : goal.overflow_shl-result
overflow_shl-result c = (free c.args.bitmap c.args.index c.map_index.ensures c.in_ok-i.was c.in-None.is).0

pub returns-else-words-count-2 : goal.returns-else-words-count-2
returns-else-words-count-2 c =
    let p = free c.args.bitmap c.args.index c.map_index.ensures c.in_ok-i.was c.in-None.is in
    set_new c.args.bitmap c.args.words.now c.args.index c.args.value (1 * 2 ^ c.args.index % 2 ^ 64) c.insert_word.new.words c.ranges.bitmap.fits p (omega arith)
    (rw (c.rank.ensures, c.size-count.ensures) at c.insert_word.ensures)
    (one_shl c.args.index 64 p.0)
