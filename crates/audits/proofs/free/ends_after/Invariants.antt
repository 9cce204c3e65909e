-- `audits::free::ends_after` meets its contract: what is left of the walk ends as the whole walk does. Assumes nothing.
use Prim.Native.Nat.{◌-◌}
use mathlib.Core.Path.{◌≡◌}
use Rattle.layout.specs.Layout.{number_of_kind}
use Rattle.layout.specs.Columns.{columns}
use Rattle.audits.specs.Audits.{walk}
use Rattle.audits.proofs.free.ends_after.Given as given

abbrev pub invariant-loop : given.invariant-loop
invariant-loop l = walk l.z (columns l.z l.a) (number_of_kind l.kind) l.n l.first ≡ walk l.z (columns l.z l.a) (number_of_kind l.kind) (l.n - l.counter) l.r
