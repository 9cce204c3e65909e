-- `replay::editions::in_order` is safe and ends: the depth rises with each turn and stays at most 64.
-- Assumes nothing.
use Prim.Native.Nat.{◌-◌, ◌≤◌}
use Rattle.replay.proofs.editions.in_order.Given as given

abbrev pub invariant-loop-depth : given.invariant-loop-depth
invariant-loop-depth l = l.depth ≤ 64

abbrev pub decreases-loop-depth : given.decreases-loop-depth
decreases-loop-depth l = 64 - l.depth
