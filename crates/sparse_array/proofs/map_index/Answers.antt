-- `sparse_array::map_index` meets its contract: the mask of one bit is 0 just where the index's bit is. Assumes nothing.
use mathlib.Core.Path.{sym, ap, ◌∙◌}
use Prim.Native.Nat.{◌<◌}
use native.Mathlib.Omega.{arith}
use Rattle.std.specs.Prelude.{Ok, Some}
use Rattle.sparse_array.proofs.Bitmap.{mask_clear, mask_set}
use Rattle.sparse_array.proofs.Places.{place_Refused, place_Nothing, place_at}
use Rattle.sparse_array.proofs.map_index.Goals as goal

pub returns-then-index-ge-WIDTH : goal.returns-then-index-ge-WIDTH
returns-then-index-ge-WIDTH c = sym (place_Refused c.args.bitmap c.args.index (omega arith))

pub returns-then-bitmap-index-eq0 : goal.returns-then-bitmap-index-eq0
returns-then-bitmap-index-eq0 c =
    let a = c.args in
    let h : a.index < 64 = omega arith in
    sym (place_Nothing a.bitmap a.index h (mask_clear a.bitmap a.index h c.if-bitmap-index-eq0.true))

pub returns : goal.returns
returns c =
    let a = c.args in
    let h : a.index < 64 = omega arith in
    ap (λ k. Ok (Some k)) c.rank.ensures ∙ sym (place_at a.bitmap a.index h (mask_set a.bitmap a.index h c.if-bitmap-index-eq0.false))
