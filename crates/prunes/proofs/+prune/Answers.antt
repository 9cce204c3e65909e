use Rattle.prunes.proofs.StepLaws.{prune_over, prune_entry, prune_Missing, prune_cut, prune_Child}
use Rattle.std.proofs.Common.{sym, refl, ◌∙◌}
use Rattle.prunes.proofs.+prune.Goals as goal

pub returns-then-left-eq0 : goal.returns-then-left-eq0
returns-then-left-eq0 t c = prune_over _ _ _ _ _ _ _ c.if-left-eq0.true

pub returns-then-is_entry : goal.returns-then-is_entry
returns-then-is_entry t c = prune_entry _ _ _ _ _ _ _ (sym c.is_entry.ensures ∙ c.if-is_entry.true)

pub returns-then-becomes_empty : goal.returns-then-becomes_empty
returns-then-becomes_empty t c = prune_cut _ _ _ _ _ _ _ _ _ c.if-left-eq0.false (sym c.is_entry.ensures ∙ c.if-is_entry.false) (sym c.follow.ensures ∙ c.in-Some.is) (sym c.becomes_empty.ensures ∙ c.if-becomes_empty.true) c.cut_child.ensures

pub returns-else-becomes_empty : goal.returns-else-becomes_empty
returns-else-becomes_empty t c = prune_Child _ _ _ _ _ _ c.args.z.depths _ _ _ _ _ c.if-left-eq0.false c.requires.in_depths refl (sym c.is_entry.ensures ∙ c.if-is_entry.false) (sym c.follow.ensures ∙ c.in-Some.is) (sym c.becomes_empty.ensures ∙ c.if-becomes_empty.false) c.prune-below.ensures c.settle_below.ensures

pub returns-in-None : goal.returns-in-None
returns-in-None t c = prune_Missing _ _ _ _ _ _ _ c.if-left-eq0.false (sym c.is_entry.ensures ∙ c.if-is_entry.false) (sym c.follow.ensures ∙ c.in-None.is)
