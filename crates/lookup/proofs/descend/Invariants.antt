-- `lookup::descend` meets its contract: what is left of the path ends where the whole path ends. Assumes nothing.
use Rattle.lookup.specs.Lookup.{path_end}
use mathlib.Core.Path.{◌≡◌}
use Prim.Native.Nat.{◌-◌}
use Rattle.layout.specs.Columns.{columns}
use Rattle.lookup.proofs.descend.Given as given

abbrev pub invariant-loop-depth : given.invariant-loop-depth
invariant-loop-depth l = path_end l.z (columns l.z l.a) l.hash l.z.depths 0 l.root ≡ path_end l.z (columns l.z l.a) l.hash (l.z.depths - l.depth) l.depth l.r
