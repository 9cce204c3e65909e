-- `chains::copy_on` meets its contract: what is left to copy, from the last copy on, comes to the same as the whole. Assumes nothing.
use Rattle.chains.specs.Chains.{copied_on}
use Rattle.lookup.specs.Lookup.{names_kind}
use Prim.Native.Nat.{◌-◌}
use mathlib.Core.Bool.{true}
use mathlib.Core.Path.{◌≡◌}
use Rattle.chains.proofs.copy_on.Given as given

abbrev pub invariant-loop : given.invariant-loop
invariant-loop l = (copied_on l.z l.count l.first l.from l.initial.a ≡ copied_on l.z (l.count - l.counter) l.last l.r l.a) × (names_kind l.z 1 l.last ≡ true)
