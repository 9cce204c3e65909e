-- `Walk::climb` meets its contract: a place without a child is given up, and the rest climbs as the whole does. Assumes nothing.
use Prim.Native.Nat.{◌≤◌}
use mathlib.Core.Path.{◌≡◌}
use Rattle.layout.specs.Columns.{columns}
use Rattle.iter.specs.Met.{waiting, climbed}
use Rattle.iter.proofs.Walk.climb.Given as given

abbrev pub invariant-loop-depth : given.invariant-loop-depth
invariant-loop-depth l = (climbed (columns l.z l.a) (waiting l.initial.self.stack l.initial.self.depth) ≡ climbed (columns l.z l.a) (waiting l.self.stack l.depth))
    × (l.depth ≤ 65)
    × (l.self.left ≡ l.initial.self.left)

abbrev pub decreases-loop-depth : given.decreases-loop-depth
decreases-loop-depth l = l.depth
