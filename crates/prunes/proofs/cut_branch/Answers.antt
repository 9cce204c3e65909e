-- `prunes::cut_branch` meets its contract: the row without the child is shared, and fills the new branch. Assumes nothing.
use Rattle.prunes.proofs.StepLaws.{cut_at_is}
use Rattle.prunes.proofs.cut_branch.Goals as goal

pub returns : goal.returns
returns c = cut_at_is _ _ _ _ _ _ _ _ _ c.load.new.row _ _ c.bits-bits.ensures c.without.ensures c.load.ensures c.share_row.ensures c.new_branch.ensures
