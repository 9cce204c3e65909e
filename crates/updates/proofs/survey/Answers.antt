-- `updates::survey` meets its contract. Assumes nothing.
use mathlib.Core.Path.{sym, ◌∙◌}
use Rattle.lookup.proofs.FindLaws.{survey_is}
use Rattle.updates.specs.Calls.{plan_by, plan_of}
use Rattle.updates.proofs.survey.Goals as goal

pub returns-in-Some : goal.returns-in-Some
unfolding plan_of
returns-in-Some c = survey_is plan_by _ _ _ _ _ _ _ _ _ _ c.slot_word-root.ensures c.slot_word-size.ensures c.descend-front.ensures (sym c.find.ensures ∙ c.in-Some.is) c.replace.ensures

pub returns-in-None : goal.returns-in-None
unfolding plan_of
returns-in-None c = survey_is plan_by _ _ _ _ _ _ _ _ _ _ c.slot_word-root.ensures c.slot_word-size.ensures c.descend-front.ensures (sym c.find.ensures ∙ c.in-None.is) c.add.ensures
