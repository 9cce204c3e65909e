-- `prunes::left_of` meets its contract: the depths left fall from branch to child. Assumes nothing.
use Rattle.prunes.proofs.+left_of.Given as given

abbrev pub decreases-left_of : given.decreases-left_of
decreases-left_of l = l.left
