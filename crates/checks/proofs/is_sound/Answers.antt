-- `checks::is_sound` meets its contract: a test that fails is one that a sound arena passes. Assumes nothing.
use Rattle.std.proofs.Common.{sym, ◌∙◌, arith}
use Rattle.checks.proofs.JudgeLaws.{Stays, Stays-none, Stays-levels, Stays-Works, no_entries, no_branches, no_levels, no_slots, no_counts, no_chain, Judged-by_keys}
use Rattle.checks.proofs.is_sound.Goals.{After-tally}
use Rattle.checks.proofs.is_sound.Goals as goal

pub returns-then-not-are_right : goal.returns-then-not-are_right
returns-then-not-are_right c =
    no_entries _ _ c.requires.header (Stays-none _ _) (sym c.are_right.ensures.answers ∙ c.if-not-are_right.true)

pub returns-then-not-are_right-2 : goal.returns-then-not-are_right-2
returns-then-not-are_right-2 c =
    no_branches _ _ c.requires.header (Stays-none _ _) (sym c.are_right-2.ensures ∙ c.if-not-are_right-2.true)

pub returns-then-not-see_levels : goal.returns-then-not-see_levels
returns-then-not-see_levels c =
    no_levels _ _ c.requires.header (Stays-levels c.see_levels.ensures.only_branches)
    (sym c.see_levels.ensures.answers ∙ c.if-not-see_levels.true)

pub returns-then-not-are_slots_right : goal.returns-then-not-are_slots_right
returns-then-not-are_slots_right c =
    no_slots _ _ c.requires.header (Stays-levels c.see_levels.ensures.only_branches)
    (sym c.are_slots_right.ensures ∙ c.if-not-are_slots_right.true)

-- once the counts are taken, the work words behind the cells' are as they were
stays : (c : After-tally) → Stays c.args.z c.args.work.now c.tally.new.work
stays c = Stays-Works (Stays-levels c.see_levels.ensures.only_branches) c.tally.ensures

pub returns-then-not-are_counts : goal.returns-then-not-are_counts
returns-then-not-are_counts c =
    no_counts _ _ c.requires.header (stays (goal.at.returns-then-not-are_counts c).After-tally) c.tally.ensures
    (sym c.are_counts.ensures ∙ c.if-not-are_counts.true)

pub returns-then-not-is_right : goal.returns-then-not-is_right
returns-then-not-is_right c =
    no_chain _ _ c.requires.header (stays (goal.at.returns-then-not-is_right c).After-tally) 0 (omega arith)
    (sym c.is_right.ensures ∙ c.if-not-is_right.true)

pub returns-then-not-is_right-2 : goal.returns-then-not-is_right-2
returns-then-not-is_right-2 c =
    no_chain _ _ c.requires.header (stays (goal.at.returns-then-not-is_right-2 c).After-tally) 1 (omega arith)
    (sym c.is_right-2.ensures ∙ c.if-not-is_right-2.true)

pub returns : goal.returns
returns c =
    Judged-by_keys _ _ c.requires.header (stays (goal.at.returns c).After-tally) c.tally.ensures
    (c.are_right.ensures.entries_fit (c.if-not-are_right.false))
    (sym c.are_right.ensures.answers ∙ c.if-not-are_right.false)
    (sym c.are_right-2.ensures ∙ c.if-not-are_right-2.false)
    (sym c.see_levels.ensures.answers ∙ c.if-not-see_levels.false)
    (sym c.are_slots_right.ensures ∙ c.if-not-are_slots_right.false)
    (sym c.are_counts.ensures ∙ c.if-not-are_counts.false)
    (sym c.is_right.ensures ∙ c.if-not-is_right.false)
    (sym c.is_right-2.ensures ∙ c.if-not-is_right-2.false) _ c.have_own_keys.ensures
