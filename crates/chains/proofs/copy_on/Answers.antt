use Rattle.chains.proofs.StepLaws.{new_names, on_fails, on_turn}
use mathlib.Core.Path.{sym, ◌∙◌}
use native.Mathlib.Omega.{arith}
use Rattle.chains.proofs.copy_on.Goals as goal

pub returns-then-copy-eq0 : goal.returns-then-copy-eq0
returns-then-copy-eq0 c = sym (c.loop.invariant.0 ∙ on_fails _ _ _ _ _ _ _ (omega (arith, c.loop-test.true)) (sym c.is_entry.ensures ∙ c.if-not-is_entry.false) c.copy_entry-copy.ensures c.if-copy-eq0.true)

pub loop-preserved : goal.loop-preserved
loop-preserved c = (c.loop.invariant.0 ∙ on_turn _ _ _ _ _ _ _ _ _ _ c.loop-test.true (sym c.is_entry.ensures ∙ c.if-not-is_entry.false) c.copy_entry-copy.ensures c.if-copy-eq0.false c.kid-next.ensures c.put_in.ensures, new_names _ _ _ _ _ _ c.copy_entry-copy.ensures c.if-copy-eq0.false)
