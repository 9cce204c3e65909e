-- `prunes::place` meets its contract. Assumes nothing.
use Rattle.layout.proofs.SizeLaws.{has_segment}
use Rattle.prunes.proofs.place.Goals as goal

pub segment_at-segment-requires : goal.segment_at-segment-requires
segment_at-segment-requires c = has_segment _ c.requires.lent.allowed _ c.requires.in_depths
