use mathlib.Core.Path.{◌∙◌}
use Rattle.reads.proofs.WriteLaws.{in_same, every_next}
use Rattle.reads.proofs.agrees.Goals as goal

pub loop-z-preserved : goal.loop-z-preserved
loop-z-preserved c = (c.loop-z.invariant.0 ∙ every_next _ c.next.ensures.gives_first (in_same _ _ _ c.entry.ensures c.is_in.ensures c.if-not-is_in.false), c.next.ensures.settled)
