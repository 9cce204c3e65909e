-- `grafts::put_child` meets its contract: the row without the new child is shared as far as it is filled, and with the child fills
-- the new branch. Assumes nothing.
use mathlib.Core.Path.{◌∙◌}
use Rattle.sparse_array.proofs.Bitmap.{below_le}
use Rattle.layout.proofs.SizeLaws.{small, has_segment}
use Rattle.lookup.proofs.Meaning.{segment_low}
use Rattle.cells.proofs.KeptLaws.{lent_same}
use Rattle.grafts.proofs.StepLaws.{place_low, gap_few, share_up_to, put_is}
use Rattle.grafts.proofs.LoadLaws.{zeros_Blank}
use native.Mathlib.Omega.{arith}
use Rattle.grafts.proofs.put_child.Goals as goal

pub segment_at-segment-requires : goal.segment_at-segment-requires
segment_at-segment-requires c = has_segment _ c.requires.lent.allowed _ c.requires.in_depths

pub gap-gap-requires : goal.gap-gap-requires
gap-gap-requires c = rw c.segment_at-segment.ensures (segment_low _ c.requires.lent.allowed _ _)

pub load-requires : goal.load-requires
load-requires c =
    record { lent = c.requires.lent; blank = zeros_Blank; in_row = place_low _ _ _ _ _ _ c.requires.lent.allowed c.segment_at-segment.ensures c.rank-at.ensures; small_gap = gap_few _ _ _ c.gap-gap.ensures }

pub overflow_add-size : goal.overflow_add-size
overflow_add-size c = omega (arith, c.size.ensures, below_le c.bits-bits.result 64, gap_few _ _ _ c.gap-gap.ensures)

pub offset_bounds-row-at : goal.offset_bounds-row-at
offset_bounds-row-at c = omega (arith, place_low _ _ _ _ _ _ c.requires.lent.allowed c.segment_at-segment.ensures c.rank-at.ensures, (small _ c.requires.lent.allowed).degree_high)

pub bounds-row-at : goal.bounds-row-at
bounds-row-at c = omega (arith, place_low _ _ _ _ _ _ c.requires.lent.allowed c.segment_at-segment.ensures c.rank-at.ensures, (small _ c.requires.lent.allowed).degree_high)

pub with-requires : goal.with-requires
with-requires c =
    record { in_bitmap = rw c.segment_at-segment.ensures (segment_low _ c.requires.lent.allowed _ _); gap_is = c.gap-gap.ensures }

pub new_branch-requires : goal.new_branch-requires
new_branch-requires c =
    lent_same (omega (arith, c.share_row.auto.a)) c.requires.lent

pub returns : goal.returns
returns c =
    put_is _ _ _ _ _ _ _ _ _ _ _ c.load.new.row _ _ _
    c.segment_at-segment.ensures c.bits-bits.ensures c.gap-gap.ensures c.rank-at.ensures
    c.with.ensures
    (omega (arith, place_low _ _ _ _ _ _ c.requires.lent.allowed c.segment_at-segment.ensures c.rank-at.ensures, (small _ c.requires.lent.allowed).degree_high))
    c.load.ensures
    (c.share_row.ensures ∙ share_up_to _ _ _ _ _ c.filled-n.ensures.in_row c.filled-n.ensures.none_behind)
    c.new_branch.ensures
