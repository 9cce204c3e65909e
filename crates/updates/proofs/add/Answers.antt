-- `updates::add` meets its contract. Assumes nothing.
use Rattle.updates.proofs.StepLaws.{add_is}
use Rattle.updates.proofs.add.Goals as goal

pub returns : goal.returns
returns c = add_is _ _ _ _ _ _ _ _ _ c.extent-reach.ensures c.more.ensures c.length.ensures c.more-2.ensures
