use mathlib.Core.Path.{sym, ◌∙◌}
use Rattle.releases.proofs.StepLaws.{chain_over, chain_shared, chain_turn}
use Rattle.releases.proofs.CaseLaws.{chain_ends}
use Rattle.lookup.proofs.FindLaws.{kind_says}
use Rattle.cells.proofs.StepColumns.{Lent-refs}
use Rattle.cells.proofs.KeptLaws.{lent_same}
use native.Mathlib.Omega.{arith}
use Rattle.releases.proofs.release_chain.Goals as goal

pub returns-then-not-is_entry : goal.returns-then-not-is_entry
returns-then-not-is_entry c = sym (c.loop.invariant.0 ∙ chain_ends _ _ _ _ (sym c.is_entry.ensures ∙ c.if-not-is_entry.true))

pub is_last-requires : goal.is_last-requires
is_last-requires c = record { lent = lent_same c.loop.invariant.1 c.requires; is_cell = (kind_says _ _ _ (sym c.is_entry.ensures ∙ c.if-not-is_entry.false)).0 }

pub returns-then-not-is_last : goal.returns-then-not-is_last
returns-then-not-is_last c = sym (c.loop.invariant.0 ∙ chain_shared _ _ _ _ _ (omega (arith, c.loop-test)) (sym c.is_entry.ensures ∙ c.if-not-is_entry.false) (sym c.is_last.ensures.answers ∙ c.if-not-is_last.true) c.is_last.ensures.leaves)

pub take_out-next-requires : goal.take_out-next-requires
take_out-next-requires c = record { lent = lent_same (omega (arith, c.is_last.auto.a, c.loop.invariant.1)) c.requires; has_ref = Lent-refs c.requires _ (kind_says _ _ _ (sym c.is_entry.ensures ∙ c.if-not-is_entry.false)).0 }

pub give_back-requires : goal.give_back-requires
give_back-requires c = record { lent = lent_same (omega (arith, c.take_out-next.auto.a, c.is_last.auto.a, c.loop.invariant.1)) c.requires; is_cell = (kind_says _ _ _ (sym c.is_entry.ensures ∙ c.if-not-is_entry.false)).0 }

pub loop-preserved : goal.loop-preserved
loop-preserved c = (c.loop.invariant.0 ∙ chain_turn _ _ _ _ _ _ _ _ _ c.loop-test.true (sym c.is_entry.ensures ∙ c.if-not-is_entry.false) (sym c.is_last.ensures.answers ∙ c.if-not-is_last.false) c.is_last.ensures.leaves c.take_out-next.ensures.answers c.take_out-next.ensures.leaves c.give_back.ensures, omega (arith, c.give_back.auto.a, c.take_out-next.auto.a, c.is_last.auto.a, c.loop.invariant.1))

pub returns : goal.returns
returns c = sym (c.loop.invariant.0 ∙ chain_over _ _ _ _ (omega (arith, c.loop-test)))
