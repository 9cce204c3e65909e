-- `reaches::shows::entries_below` ends: the depths left fall from branch to child. Assumes nothing.
use Prim.Native.Nat.{◌-◌}
use Rattle.reaches.proofs.shows.+entries_below.Given as given

abbrev pub decreases-entries_below : given.decreases-entries_below
decreases-entries_below l = 64 - l.depth
