use Rattle.iter.proofs.WalkLaws.{found_at, found_places}
use Prim.Native.Nat.{◌≤◌}
use lib.ListN.{length}
use mathlib.Core.Path.{refl}
use native.Mathlib.Omega.{arith}
use borrow.Author.Rules.{rules}
use Rattle.iter.proofs.Walk.climb.Goals as goal

pub returns-then-r-ne0-clause-climbed_to : goal.returns-then-r-ne0-clause-climbed_to
returns-then-r-ne0-clause-climbed_to c = found_at _ _ _ _ _ c.loop-depth-test.true refl c.kid-r.ensures _ c.loop-depth.invariant.0 c.if-r-ne0.true

pub returns-then-r-ne0-clause-places_left : goal.returns-then-r-ne0-clause-places_left
returns-then-r-ne0-clause-places_left c =
    let full : c.loop-depth.depth ≤ length c.loop-depth.self.stack = search rules in
    found_places _ _ _ _ _ c.loop-depth-test.true refl c.kid-r.ensures _ c.loop-depth.invariant.0 c.if-r-ne0.true _ (omega arith) full
