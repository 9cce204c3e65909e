-- `sparse_array::get` meets its contract: a word is read at the place that `map_index` gives, which lies among the packed
-- words. Assumes nothing.
use mathlib.Core.Path.{sym, ◌∙◌}
use native.Mathlib.Omega.{arith}
use Rattle.sparse_array.specs.Bitmap.{size_of}
use Rattle.sparse_array.proofs.Bitmap.{below_le, below_size}
use Rattle.sparse_array.proofs.Places.{there, free, no_index, refused_is}
use Rattle.sparse_array.proofs.Room.{refused_index}
use Rattle.sparse_array.proofs.Finds.{get_Word, get_Nothing, get_refused}
use Rattle.sparse_array.proofs.get.Goals as goal

pub returns-in_err-i : goal.returns-in_err-i
returns-in_err-i c =
    let a = c.args in
    sym
    (get_refused a.bitmap a.words.now a.index
    (refused_index a.index (size_of a.bitmap) a.words.now (no_index a.bitmap a.index _ c.map_index.ensures c.in_err-i.was))
    ∙ refused_is c.from_residual.result c.from_residual.ensures.0)

pub offset_bounds-words-i : goal.offset_bounds-words-i
offset_bounds-words-i c =
    let p = there c.args.bitmap c.args.index c.map_index.ensures c.in_ok-i.was c.in-Some.is in
    omega (arith, below_le c.args.bitmap c.args.index)

pub bounds-words-i : goal.bounds-words-i
bounds-words-i c =
    let p = there c.args.bitmap c.args.index c.map_index.ensures c.in_ok-i.was c.in-Some.is in
    omega (arith, below_size c.args.bitmap c.args.index c.ranges.bitmap.fits p.1)

pub returns-in-Some : goal.returns-in-Some
returns-in-Some c =
    let a = c.args in
    sym (get_Word a.bitmap a.words.now a.index _ (there a.bitmap a.index c.map_index.ensures c.in_ok-i.was c.in-Some.is) (omega arith))

pub returns-in-None : goal.returns-in-None
returns-in-None c =
    let a = c.args in
    sym (get_Nothing a.bitmap a.words.now a.index (free a.bitmap a.index c.map_index.ensures c.in_ok-i.was c.in-None.is) (omega arith))
