use Rattle.std.proofs.Common.{sym, ◌∙◌}
use Rattle.audits.proofs.AllLaws.{all_stops, all_over}
use Rattle.audits.proofs.StepLaws.{all_first}
use Rattle.levels.specs.Levels.{slot_right, slots_right}
use Rattle.levels.proofs.CaseLaws.{slots_on}
use Rattle.levels.proofs.are_slots_right.Goals as goal

pub loop-s-init : goal.loop-s-init
unfolding slots_right
loop-s-init c = all_first _ _

pub returns-then-not-is_slot_right : goal.returns-then-not-is_slot_right
returns-then-not-is_slot_right c =
    let l = c.loop-s in
    sym
    (l.invariant
    ∙ all_stops (slot_right _ _) _ _ c.loop-s-test.true
    (sym c.is_slot_right.ensures ∙ c.if-not-is_slot_right.true))

pub loop-s-preserved : goal.loop-s-preserved
loop-s-preserved c =
    let l = c.loop-s in
    l.invariant
    ∙ slots_on _ _ _ c.loop-s-test.true
    (sym c.is_slot_right.ensures ∙ c.if-not-is_slot_right.false)

pub returns : goal.returns
returns c = sym (c.loop-s.invariant ∙ all_over _ _ _ c.loop-s-test.false)
