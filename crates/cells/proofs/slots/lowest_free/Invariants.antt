-- `cells::slots::lowest_free` meets its contract: what is still to be searched gives what the whole search gives. Assumes
-- nothing.
use Rattle.cells.specs.Slots.{free_from, free_slot}
use mathlib.Core.Path.{◌≡◌}
use Prim.Native.Nat.{◌-◌}
use Rattle.cells.proofs.slots.lowest_free.Given as given

abbrev pub invariant-loop-s : given.invariant-loop-s
invariant-loop-s l = free_slot l.z l.a ≡ free_from l.z l.a l.s (l.z.slots - l.s)
