-- `prunes::prune` meets its contract: the depths left fall from branch to child. Assumes nothing.
use Rattle.prunes.proofs.+prune.Given as given

abbrev pub decreases-prune : given.decreases-prune
decreases-prune l = l.left
