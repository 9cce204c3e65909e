-- `releases::pass` meets its contract: each turn leaves what the row comes to with one place more. Assumes nothing.
use Prim.Native.Nat.{◌-◌}
use mathlib.Core.Path.{◌≡◌}
use lib.ListN.{length}
use Rattle.releases.specs.Releases.{RowGoesOn, release_from}
use Rattle.releases.proofs.pass.Given as given

abbrev pub invariant-loop-k : given.invariant-loop-k
invariant-loop-k l = (RowGoesOn (release_from l.z l.left (l.z.depths - l.left)) l.z l.r l.from l.k l.initial.a l.a) × (length l.a ≡ length l.initial.a)
