-- `levels::read_branch` meets its contract. Assumes nothing.
use Rattle.std.proofs.Common.{sym, refl, ◌∙◌, arith}
use Rattle.levels.proofs.StepLaws.{child_Fault, child_seen, lead_named, branch_none, branch_Fault, branch_row}
use Rattle.levels.proofs.read_branch.Goals as goal

pub returns-then-child-eq0 : goal.returns-then-child-eq0
returns-then-child-eq0 c = sym (branch_none _ _ _ _ _ (sym c.kid-child.ensures ∙ c.if-child-eq0.true))

pub returns-in_err-seen : goal.returns-in_err-seen
returns-in_err-seen c =
    c.from_residual.ensures ∙ sym
    (branch_Fault _ _ _ _ _ (λ e. c.if-child-eq0.false (c.kid-child.ensures ∙ e))
    (child_Fault _ _ _ _ _ _ (omega arith) c.see.ensures _ c.kid-child.ensures c.in_err-seen.was))

pub read_row-requires : goal.read_row-requires
read_row-requires c =
    record { lent = c.requires.lent; known = c.requires.known; work_fits = c.requires.work_fits; in_depths = c.requires.in_depths; is_branch = c.requires.is_branch; lead_is_entry = lead_named _ _ _ _ _ _ refl c.see.ensures _ _ c.in_ok-seen.was }

pub returns : goal.returns
returns c =
    c.read_row.ensures ∙ sym
    (branch_row _ _ _ _ _
    (λ e. c.if-child-eq0.false (c.kid-child.ensures ∙ e)) _ _
    (child_seen _ _ _ _ _ _ (omega arith) c.see.ensures _ c.in_ok-seen.seen.lead c.in_ok-seen.seen.size
    c.kid-child.ensures c.in_ok-seen.was))
