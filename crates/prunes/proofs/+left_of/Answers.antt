use Rattle.prunes.proofs.StepLaws.{left_over, left_entry, left_Missing, left_Child}
use Rattle.std.proofs.Common.{sym, refl, ◌∙◌}
use Rattle.prunes.proofs.+left_of.Goals as goal

pub returns-then-left-eq0 : goal.returns-then-left-eq0
returns-then-left-eq0 t c = left_over _ _ _ _ _ _ _ _ c.if-left-eq0.true c.chain_left.ensures

pub returns-then-is_entry : goal.returns-then-is_entry
returns-then-is_entry t c = left_entry _ _ _ _ _ _ _ _ (sym c.is_entry.ensures ∙ c.if-is_entry.true) c.chain_left-then-is_entry.ensures

pub returns-in-Some : goal.returns-in-Some
returns-in-Some t c = left_Child _ _ _ _ _ _ c.args.z.depths _ _ _ _ c.if-left-eq0.false c.requires.in_depths refl (sym c.is_entry.ensures ∙ c.if-is_entry.false) (sym c.follow.ensures ∙ c.in-Some.is) c.left_of-below.ensures c.settled_left.ensures

pub returns-in-None : goal.returns-in-None
returns-in-None t c = left_Missing _ _ _ _ _ _ _ c.if-left-eq0.false (sym c.is_entry.ensures ∙ c.if-is_entry.false) (sym c.follow.ensures ∙ c.in-None.is)
