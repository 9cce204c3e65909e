-- `lookup::find` meets its contract: what is left of the search finds what the whole search finds. Assumes nothing.
use Prim.Native.Nat.{◌-◌}
use mathlib.Core.Path.{◌≡◌}
use Rattle.layout.specs.Columns.{columns}
use Rattle.lookup.specs.Lookup.{longest, hit_from}
use Rattle.lookup.proofs.find.Given as given

abbrev pub invariant-loop : given.invariant-loop
invariant-loop l = hit_from l.z (columns l.z l.a) l.hash l.key (longest l.z) l.front ≡ hit_from l.z (columns l.z l.a) l.hash l.key (l.end - l.counter) l.r
