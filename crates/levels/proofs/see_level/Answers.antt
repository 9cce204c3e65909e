use Rattle.std.proofs.Common.{sym, ◌∙◌, arith}
use Rattle.std.proofs.lemmas.Bool.{false≢true}
use Rattle.levels.proofs.StepLaws.{Through-first, Through-next, through_stops, through_only, Through-all}
use Rattle.levels.proofs.see_level.Goals as goal

pub loop-i-init : goal.loop-i-init
loop-i-init c = Through-first _ _ _ _ c.requires.known

pub returns-then-not-see_branch : goal.returns-then-not-see_branch
returns-then-not-see_branch c =
    record {
      answers = sym
          (through_stops _ _ _ _ _ _ _ c.loop-i.invariant
          c.loop-i-test.true c.see_branch.ensures.only_at
          (sym c.see_branch.ensures.answers ∙ c.if-not-see_branch.true));
      is_known = λ y. absurd (false≢true y);
      only_branches = through_only _ _ _ _ _ _ _ c.loop-i.invariant
          c.loop-i-test.true c.see_branch.ensures.only_at;
    }

pub loop-i-preserved : goal.loop-i-preserved
loop-i-preserved c =
    Through-next _ _ _ _ _ _ _ c.loop-i.invariant
    c.loop-i-test.true c.see_branch.ensures.only_at
    (sym c.see_branch.ensures.answers ∙ c.if-not-see_branch.false)
    (c.see_branch.ensures.kept_at (c.if-not-see_branch.false)) _ (omega arith)

pub returns : goal.returns
returns c =
    let e = Through-all _ _ _ _ _ _ c.loop-i.invariant (omega (arith, c.loop-i-test.false)) in
    record { answers = sym e.0; is_known = λ y. e.1; only_branches = c.loop-i.invariant.only }
