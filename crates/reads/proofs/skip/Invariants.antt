-- `reads::skip` meets its contract: each turn takes one entry off those still to come. Assumes nothing.
use Prim.Native.Nat.{◌-◌}
use mathlib.Core.Path.{◌≡◌}
use Rattle.iter.specs.Met.{still, Settled}
use lib.ListN.{drop}
use Rattle.reads.proofs.skip.Given as given

abbrev pub invariant-loop : given.invariant-loop
invariant-loop l = (drop (l.n - l.counter) (still l.z l.a l.walk) ≡ drop l.n (still l.z l.a l.initial.walk)) × Settled l.z l.walk
