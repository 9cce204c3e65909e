use Rattle.std.proofs.Common.{sym, ◌∙◌, arith}
use Rattle.std.proofs.lemmas.Bool.{false≢true}
use Rattle.levels.proofs.StepLaws.{known_at, only_both, levels_on, levels_stop, levels_all}
use Rattle.levels.proofs.see_levels.Goals as goal

pub returns-then-not-see_level : goal.returns-then-not-see_level
returns-then-not-see_level c =
    record {
      answers = sym
          (c.loop-depth.invariant.same ∙ levels_stop _ _ _ _
          (omega (arith, c.loop-depth-test))
          (sym c.see_level.ensures.answers ∙ c.if-not-see_level.true));
      is_known = λ y. absurd (false≢true y);
      only_branches = (only_both _ _ _ _ c.loop-depth.invariant.only
          c.see_level.ensures.only_branches);
    }

pub loop-depth-preserved : goal.loop-depth-preserved
loop-depth-preserved c =
    record {
      same = c.loop-depth.invariant.same ∙ levels_on _ _ _ _
          (omega (arith, c.loop-depth-test))
          (sym c.see_level.ensures.answers ∙ c.if-not-see_level.false);
      known = c.see_level.ensures.is_known c.if-not-see_level.false;
      only = only_both _ _ _ _ c.loop-depth.invariant.only c.see_level.ensures.only_branches;
    }

pub returns : goal.returns
returns c =
    record { answers = sym (c.loop-depth.invariant.same ∙ levels_all _ _ _ (omega (arith, c.loop-depth-test))); is_known = λ y. known_at _ _ _ _ _ (omega (arith, c.loop-depth-test)) c.loop-depth.invariant.known; only_branches = c.loop-depth.invariant.only }
