-- `grafts::extent` meets its contract: what is left of the path reaches as far as the whole. Assumes nothing.
use Rattle.grafts.specs.Grafts.{reach_from}
use Rattle.layout.specs.Columns.{columns}
use Prim.Native.Nat.{◌-◌}
use mathlib.Core.Path.{◌≡◌}
use Rattle.grafts.proofs.extent.Given as given

abbrev pub invariant-loop-depth : given.invariant-loop-depth
invariant-loop-depth l = reach_from l.z (columns l.z l.a) l.hash l.replaced l.z.depths 0 l.root ≡ reach_from l.z (columns l.z l.a) l.hash l.replaced (l.z.depths - l.depth) l.depth l.r
