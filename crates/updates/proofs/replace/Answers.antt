-- `updates::replace` meets its contract. Assumes nothing.
use Rattle.updates.proofs.StepLaws.{replace_is}
use Rattle.updates.proofs.replace.Goals as goal

pub returns : goal.returns
returns c = replace_is _ _ _ _ _ _ _ _ _ _ _ _ c.length-length.ensures c.extent-reach.ensures c.length.ensures c.less.ensures c.kid.ensures
