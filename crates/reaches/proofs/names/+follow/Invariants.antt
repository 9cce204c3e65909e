-- `reaches::names::follow` ends: the fuel falls from word to word. Assumes nothing.
use Rattle.reaches.proofs.names.+follow.Given as given

abbrev pub decreases-follow : given.decreases-follow
decreases-follow l = l.fuel
