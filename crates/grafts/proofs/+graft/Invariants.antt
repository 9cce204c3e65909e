-- `grafts::graft` meets its contract: the depths left fall from branch to child. Assumes nothing.
use Rattle.grafts.proofs.+graft.Given as given

abbrev pub decreases-graft : given.decreases-graft
decreases-graft l = l.left
