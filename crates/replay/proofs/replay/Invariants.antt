-- `replay::replay` is safe and ends: each line begins behind the one before it, and none behind the text. The words and
-- the output stay as many as they were.
-- Assumes nothing.
use mathlib.Core.Path.{◌≡◌}
use Prim.Native.Nat.{◌-◌, ◌≤◌}
use lib.ListN.{length}
use Rattle.replay.proofs.replay.Given as given

abbrev pub invariant-loop-at : given.invariant-loop-at
invariant-loop-at g l = (l.at ≤ length l.text) × (length l.words ≡ length l.initial.words) × (length l.out ≡ length l.initial.out)

abbrev pub decreases-loop-at : given.decreases-loop-at
decreases-loop-at g l = length l.text - l.at
