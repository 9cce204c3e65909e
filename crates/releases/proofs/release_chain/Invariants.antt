-- `releases::release_chain` meets its contract: what is left of the chain comes to the same as the whole. Assumes nothing.
use mathlib.Core.Path.{◌≡◌}
use Prim.Native.Nat.{◌-◌}
use lib.ListN.{length}
use Rattle.releases.specs.Releases.{chain_from}
use Rattle.releases.proofs.release_chain.Given as given

abbrev pub invariant-loop : given.invariant-loop
invariant-loop l = (chain_from l.z l.z.entries l.front l.initial.a ≡ chain_from l.z (l.end - l.counter) l.r l.a) × (length l.a ≡ length l.initial.a)
