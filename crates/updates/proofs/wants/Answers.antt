-- `updates::wants` meets its contract. Assumes nothing.
use Rattle.updates.proofs.StepLaws.{wanted_change, wanted_insert}
use Rattle.updates.proofs.wants.Goals as goal

pub returns-then-present : goal.returns-then-present
returns-then-present c = wanted_change _ _ c.if-present.true

pub returns-else-present : goal.returns-else-present
returns-else-present c = wanted_insert _ _ c.if-present.false
