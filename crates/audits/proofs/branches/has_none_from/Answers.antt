use mathlib.Core.Path.{sym, ◌∙◌}
use Rattle.layout.specs.Columns.{columns}
use Rattle.audits.proofs.AllLaws.{all_over}
use Rattle.audits.proofs.StepLaws.{none_on, none_stops}
use Rattle.audits.proofs.branches.has_none_from.Goals as goal

pub returns-then-kid-ne0 : goal.returns-then-kid-ne0
returns-then-kid-ne0 c =
    let s = c.args in
    let l = c.loop-k in
    sym
    (l.invariant
    ∙ none_stops ((columns s.z s.a.now).kid s.r) _ _ _ c.loop-k-test.true c.kid.ensures
    c.if-kid-ne0.true)

pub loop-k-preserved : goal.loop-k-preserved
loop-k-preserved c =
    let s = c.args in
    let l = c.loop-k in
    l.invariant
    ∙ none_on ((columns s.z s.a.now).kid s.r) _ _ _ c.loop-k-test.true c.kid.ensures
    c.if-kid-ne0.false

pub returns : goal.returns
returns c = sym (c.loop-k.invariant ∙ all_over _ _ _ c.loop-k-test.false)
