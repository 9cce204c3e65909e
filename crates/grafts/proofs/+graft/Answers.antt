use mathlib.Core.Path.{refl, sym, ◌∙◌}
use Rattle.grafts.proofs.StepLaws.{graft_over, graft_stops, graft_Child, graft_Missing}
use Rattle.grafts.proofs.+graft.Goals as goal

pub returns-then-left-eq0 : goal.returns-then-left-eq0
returns-then-left-eq0 t c = graft_over _ _ _ _ _ _ _ _ c.if-left-eq0.true

pub returns-then-is_end : goal.returns-then-is_end
returns-then-is_end t c = graft_stops _ _ _ _ _ _ _ _ c.if-left-eq0.false (sym c.is_end.ensures ∙ c.if-is_end.true)

pub returns-in-Some : goal.returns-in-Some
returns-in-Some t c = graft_Child _ _ _ _ _ _ c.args.z.depths _ _ _ _ _ _ c.if-left-eq0.false c.requires.in_depths refl (sym c.is_end.ensures ∙ c.if-is_end.false) (sym c.follow.ensures ∙ c.in-Some.is) c.graft-below.ensures c.put_below.ensures

pub returns-in-None : goal.returns-in-None
returns-in-None t c = graft_Missing _ _ _ _ _ _ _ _ _ c.if-left-eq0.false (sym c.is_end.ensures ∙ c.if-is_end.false) (sym c.follow.ensures ∙ c.in-None.is) c.put_below-in-None.ensures
