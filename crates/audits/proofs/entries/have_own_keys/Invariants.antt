-- `audits::entries::have_own_keys` meets its contract: what is left of the entries decides as all do. Assumes nothing.
use Prim.Native.Nat.{◌-◌}
use mathlib.Core.Path.{◌≡◌}
use Rattle.layout.specs.Layout.{reference}
use Rattle.layout.specs.Columns.{columns}
use Rattle.audits.specs.Audits.{all_from, key_right, keys_right}
use Rattle.audits.proofs.entries.have_own_keys.Given as given

abbrev pub invariant-loop-i : given.invariant-loop-i
invariant-loop-i l = keys_right l.z (columns l.z l.a) ≡ all_from (λ j. key_right l.z (columns l.z l.a) (reference 1 j)) l.i (l.z.entries - l.i)
