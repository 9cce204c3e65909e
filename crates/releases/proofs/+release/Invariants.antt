-- `releases::release` meets its contract: the depths left fall from branch to child. Assumes nothing.
use Rattle.releases.specs.Releases.{RowGoesOn, release_from}
use lib.ListN.{length}
use Prim.Native.Nat.{◌-◌, ◌≤◌}
use mathlib.Core.Path.{◌≡◌}
use Rattle.releases.proofs.+release.Given as given

abbrev pub invariant-loop-k : given.invariant-loop-k
invariant-loop-k l = (RowGoesOn (release_from l.z (l.left - 1) (l.z.depths - (l.left - 1))) l.z l.r l.initial.k l.k l.initial.a l.a) × (length l.a ≡ length l.initial.a) × (l.k ≤ l.z.degree)

abbrev pub decreases-loop-k : given.decreases-loop-k
decreases-loop-k l = l.z.degree - l.k

abbrev pub decreases-release : given.decreases-release
decreases-release l = l.left
