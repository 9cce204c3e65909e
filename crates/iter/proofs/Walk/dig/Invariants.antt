-- `Walk::dig` meets its contract: with each branch that waits, what is still met stays what it was. Assumes nothing.
use Prim.Native.Nat.{◌≤◌}
use mathlib.Core.Path.{◌≡◌}
use Rattle.layout.specs.Columns.{columns}
use Rattle.iter.specs.Met.{waiting, met_from, still}
use Rattle.iter.proofs.Walk.dig.Given as given

abbrev pub invariant-loop-left : given.invariant-loop-left
invariant-loop-left l = (met_from l.z (columns l.z l.a) l.left l.at (waiting l.self.stack l.depth) ≡ still l.z l.a l.initial.self)
    × (l.depth ≤ 65)
    × (l.left ≤ l.initial.self.left)

abbrev pub decreases-loop-left : given.decreases-loop-left
decreases-loop-left l = l.left
