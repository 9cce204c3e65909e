use Prim.Native.Nat.{ℕ}
use mathlib.Core.Path.{sym, ap, ◌∙◌}
use Rattle.grafts.specs.Grafts.{reaches}
use Rattle.grafts.proofs.StepLaws.{reach_stops, reach_Missing, reach_on, reach_over}
use native.Mathlib.Omega.{arith}
use Rattle.grafts.proofs.extent.Goals as goal

pub returns-then-is_end : goal.returns-then-is_end
returns-then-is_end c = sym (c.loop-depth.invariant ∙ reach_stops _ _ _ _ _ _ _ c.loop-depth-test.true (sym c.is_end.ensures ∙ c.if-is_end.true))

pub returns-in-None : goal.returns-in-None
returns-in-None c = sym (c.loop-depth.invariant ∙ reach_Missing _ _ _ _ _ _ _ c.loop-depth-test.true (sym c.is_end.ensures ∙ c.if-is_end.false) (sym c.follow.ensures ∙ c.in-None.is))

pub loop-depth-preserved : goal.loop-depth-preserved
loop-depth-preserved c = c.loop-depth.invariant ∙ reach_on _ _ _ _ _ _ _ _ c.loop-depth-test.true (sym c.is_end.ensures ∙ c.if-is_end.false) (sym c.follow.ensures ∙ c.in-Some.is)

pub returns : goal.returns
returns c =
    sym (c.loop-depth.invariant ∙ reach_over _ _ _ _ _ _ _ (omega (arith, c.loop-depth-test.false))
    ∙ ap (λ (n : ℕ). reaches n c.loop-depth.r) {x = c.loop-depth.depth} {y = c.args.z.depths} (omega arith))
