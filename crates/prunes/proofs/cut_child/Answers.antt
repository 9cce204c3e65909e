-- `prunes::cut_child` meets its contract. Assumes nothing.
use Rattle.layout.proofs.SizeLaws.{has_segment}
use Rattle.prunes.proofs.cut_child.Goals as goal

pub segment_at-requires : goal.segment_at-requires
segment_at-requires c = has_segment _ c.requires.lent.allowed _ c.requires.in_depths
