use Rattle.releases.proofs.CaseLaws.{branch_place, place_says, release_entry, release_none}
use Rattle.releases.proofs.StepLaws.{row_none, row_next, release_over, release_shared, release_done}
use Rattle.layout.proofs.SizeLaws.{small}
use Rattle.cells.proofs.KeptLaws.{lent_same}
use Rattle.lookup.proofs.FindLaws.{kind_says}
use mathlib.Core.Path.{refl, sym, ◌∙◌}
use native.Mathlib.Omega.{arith}
use Rattle.releases.proofs.+release.Goals as goal

pub release_chain-requires : goal.release_chain-requires
release_chain-requires t c = c.requires.lent

pub returns-then-is_entry : goal.returns-then-is_entry
returns-then-is_entry t c = c.release_chain.ensures ∙ sym (release_entry _ _ _ _ _ (sym c.is_entry.ensures ∙ c.if-is_entry.true))

pub returns-then-left-eq0 : goal.returns-then-left-eq0
returns-then-left-eq0 t c = release_over _ _ _ _ (sym c.is_entry.ensures ∙ c.if-is_entry.false) _ c.if-left-eq0.true

pub is_at_place-requires : goal.is_at_place-requires
is_at_place-requires t c = c.requires.lent

pub returns-then-not-is_at_place : goal.returns-then-not-is_at_place
returns-then-not-is_at_place t c = sym (release_none _ _ _ _ _ (sym c.is_entry.ensures ∙ c.if-is_entry.false) (sym c.is_at_place.ensures ∙ c.if-not-is_at_place.true))

pub is_last-requires : goal.is_last-requires
is_last-requires t c = record { lent = c.requires.lent; is_cell = (kind_says _ _ _ (place_says _ _ _ _ (sym c.is_at_place.ensures ∙ c.if-not-is_at_place.false)).0).0 }

pub returns-then-not-is_last : goal.returns-then-not-is_last
returns-then-not-is_last t c = release_shared _ _ _ _ (sym c.is_entry.ensures ∙ c.if-is_entry.false) (sym c.is_at_place.ensures ∙ c.if-not-is_at_place.false) _ _ c.if-left-eq0.false (sym c.is_last.ensures.answers ∙ c.if-not-is_last.true) c.is_last.ensures.leaves

pub pass-k-requires : goal.pass-k-requires
pass-k-requires t c = record { lent = lent_same (omega (arith, c.is_last.auto.a)) c.requires.lent; rest_of_branch = ((place_says _ _ _ _ (sym c.is_at_place.ensures ∙ c.if-not-is_at_place.false)).0, omega (arith, c.requires.in_depths), omega arith) }

pub loop-k-init : goal.loop-k-init
loop-k-init t c = ((λ w g. g), refl, c.pass-k.ensures.in_row.1)

pub take_out-child-requires : goal.take_out-child-requires
take_out-child-requires t c = record { lent = lent_same (omega (arith, c.loop-k.invariant.1, c.pass-k.auto.a, c.is_last.auto.a)) c.requires.lent; has_ref = branch_place _ _ _ (place_says _ _ _ _ (sym c.is_at_place.ensures ∙ c.if-not-is_at_place.false)).0 c.loop-k-test.true }

pub release-requires : goal.release-requires
release-requires t c = (omega (arith, c.if-left-eq0.false, c.decreases), (lent_same (omega (arith, c.take_out-child.auto.a, c.loop-k.invariant.1, c.pass-k.auto.a, c.is_last.auto.a)) c.requires.lent, omega (arith, c.requires.in_depths)))

pub overflow_sub-left-in-loop-k-2 : goal.overflow_sub-left-in-loop-k-2
overflow_sub-left-in-loop-k-2 t c = omega (arith, c.if-left-eq0.false)

pub overflow_add-k : goal.overflow_add-k
overflow_add-k t c = omega (arith, c.loop-k-test.true, small _ c.requires.lent.allowed)

pub pass-k-requires-in-loop-k : goal.pass-k-requires-in-loop-k
pass-k-requires-in-loop-k t c = record { lent = lent_same (omega (arith, c.release.auto.a, c.take_out-child.auto.a, c.loop-k.invariant.1, c.pass-k.auto.a, c.is_last.auto.a)) c.requires.lent; rest_of_branch = ((place_says _ _ _ _ (sym c.is_at_place.ensures ∙ c.if-not-is_at_place.false)).0, omega (arith, c.requires.in_depths), omega (arith, c.loop-k-test.true)) }

pub loop-k-smaller : goal.loop-k-smaller
loop-k-smaller t c = omega (arith, c.loop-k-test.true, c.pass-k-in-loop-k.ensures.in_row.0)

pub loop-k-preserved : goal.loop-k-preserved
loop-k-preserved t c = ((λ w g. c.pass-k-in-loop-k.ensures.row_goes_on w (row_next _ _ _ _ _ _ _ _ _ (c.loop-k.invariant.0 w g) c.take_out-child.ensures.answers c.take_out-child.ensures.leaves c.release.ensures)), omega (arith, c.pass-k-in-loop-k.auto.a, c.release.auto.a, c.take_out-child.auto.a, c.loop-k.invariant.1), c.pass-k-in-loop-k.ensures.in_row.1)

pub give_back-requires : goal.give_back-requires
give_back-requires t c = record { lent = lent_same (omega (arith, c.loop-k.invariant.1, c.pass-k.auto.a, c.is_last.auto.a)) c.requires.lent; is_cell = (kind_says _ _ _ (place_says _ _ _ _ (sym c.is_at_place.ensures ∙ c.if-not-is_at_place.false)).0).0 }

pub returns : goal.returns
returns t c = release_done _ _ _ _ (sym c.is_entry.ensures ∙ c.if-is_entry.false) (sym c.is_at_place.ensures ∙ c.if-not-is_at_place.false) _ c.args.z.depths _ _ _ _ c.if-left-eq0.false c.requires.in_depths refl (sym c.is_last.ensures.answers ∙ c.if-not-is_last.false) c.is_last.ensures.leaves (c.loop-k.invariant.0 _ (c.pass-k.ensures.row_goes_on _ (row_none _ _ _ _))) (omega (arith, c.loop-k.invariant.2, c.loop-k-test.false)) c.give_back.ensures
