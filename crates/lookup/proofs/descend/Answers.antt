use Rattle.layout.proofs.SizeLaws.{has_segment}
use Rattle.lookup.proofs.descend.Goals as goal

pub segment_at-requires : goal.segment_at-requires
segment_at-requires c = has_segment _ c.requires.allowed _ c.loop-depth-test.true
