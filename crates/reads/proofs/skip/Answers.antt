use mathlib.Core.Path.{sym, ◌∙◌}
use Rattle.reads.proofs.WriteLaws.{skip_next}
use Rattle.reads.proofs.skip.Goals as goal

pub loop-preserved : goal.loop-preserved
loop-preserved c = (sym (skip_next c.loop-test.true c.next.ensures.gives_first) ∙ c.loop.invariant.0, c.next.ensures.settled)
