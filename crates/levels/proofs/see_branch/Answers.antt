-- `levels::see_branch` meets its contract. Assumes nothing.
use Rattle.std.proofs.Common.{[], sym, ◌∙◌, arith}
use Rattle.levels.proofs.StepLaws.{branch_at, Sees-off, Sees-fault, Sees-kept, keep_fits}
use Rattle.levels.proofs.see_branch.Goals as goal

as-answers-kept_at-only_at : {T0 T1 T2 : Type 0} → T0 × (T1 × T2) → record { answers : T0; kept_at : T1; only_at : T2 }
as-answers-kept_at-only_at p = record { answers = p.0; kept_at = p.1.0; only_at = p.1.1 }

pub stands_at-requires : goal.stands_at-requires
stands_at-requires c = record { lent = c.requires.lent; is_branch = branch_at _ _ _ c.requires.in_branches (omega arith) }

pub returns-then-not-stands_at : goal.returns-then-not-stands_at
returns-then-not-stands_at c = as-answers-kept_at-only_at (Sees-off _ _ _ _ _ _ (omega arith) (sym c.stands_at.ensures ∙ c.if-not-stands_at.true))

pub read_branch-requires : goal.read_branch-requires
read_branch-requires c =
    record { lent = c.requires.lent; known = c.requires.known; work_fits = c.requires.work_fits; in_depths = c.requires.in_depths; is_branch = branch_at _ _ _ c.requires.in_branches (omega arith) }

pub returns-in_default : goal.returns-in_default
returns-in_default c =
    as-answers-kept_at-only_at (Sees-fault _ _ _ _ _ _ (omega arith) c.requires.in_branches
    c.requires.in_depths
    (sym c.stands_at.ensures ∙ c.if-not-stands_at.false)
    _ c.read_branch.ensures c.in_default.is)

pub keep-requires : goal.keep-requires
keep-requires c =
    let fits = keep_fits _ _ _ _ _ [] (omega arith)
    c.requires.in_branches
    c.requires.in_depths
    (sym c.stands_at.ensures ∙ c.if-not-stands_at.false)
    _ c.read_branch.ensures _ _ c.in-Some.is c.requires.lent.allowed in
    record { lead_fits = fits.0; size_fits = fits.1 }

pub returns : goal.returns
returns c =
    as-answers-kept_at-only_at (Sees-kept _ _ _ _ _ _ (omega arith)
    c.requires.in_branches
    c.requires.in_depths
    (sym c.stands_at.ensures ∙ c.if-not-stands_at.false)
    _ c.read_branch.ensures _ _ c.in-Some.is
    c.requires.lent.allowed _ c.keep.ensures
    (omega (
      arith,
      c.requires.in_branches,
      c.requires.work_fits,
    )))
