-- `grafts::put_below` meets its contract. Assumes nothing.
use Rattle.grafts.proofs.StepLaws.{below_none, below_some}
use Rattle.grafts.proofs.put_below.Goals as goal

pub returns-then-below-eq0 : goal.returns-then-below-eq0
returns-then-below-eq0 c = below_none _ _ _ c.if-below-eq0.true

pub returns : goal.returns
returns c = below_some _ _ _ _ c.if-below-eq0.false c.put_child.ensures
