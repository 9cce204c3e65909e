-- `levels::see_kept` meets its contract: what is kept of a branch is what it is, where its depth is its place. Assumes nothing.
use mathlib.Core.Path.{refl, sym}
use native.Mathlib.Omega.{arith}
use Rattle.layout.proofs.ColumnLaws.{has_low}
use Rattle.lookup.proofs.FindLaws.{kind_says}
use Rattle.levels.proofs.CaseLaws.{see_elsewhere, branch_live, see_kept, kept_at}
use Rattle.levels.proofs.see_kept.Goals as goal

pub word-requires : goal.word-requires
word-requires c =
    record { lent = c.requires.lent; has_word = has_low _ _ _ (kind_says _ _ _ c.requires.is_branch).0 (omega arith) }

pub returns-then-word-depth : goal.returns-then-word-depth
returns-then-word-depth c =
    let w = kind_says _ _ _ c.requires.is_branch in
    sym
    (see_elsewhere _ _ _ _ w.0 refl (λ q. omega (arith, q, c.requires.is_in_use)) _ _ _ (λ q. omega (arith, q, w.1))
    c.word.ensures c.if-word-depth.true)

pub overflow_sub-kept : goal.overflow_sub-kept
overflow_sub-kept c =
    let w = kind_says _ _ _ c.requires.is_branch in
    omega (arith, (kept_at _ _ c.requires.lent.allowed w.0 (λ q. omega (arith, q, w.1))).low)

pub offset_bounds-work-r : goal.offset_bounds-work-r
offset_bounds-work-r c =
    let w = kind_says _ _ _ c.requires.is_branch in
    omega (arith, (kept_at _ _ c.requires.lent.allowed w.0 (λ q. omega (arith, q, w.1))).small)

pub bounds-work-r : goal.bounds-work-r
bounds-work-r c =
    let w = kind_says _ _ _ c.requires.is_branch in
    omega (arith, (kept_at _ _ c.requires.lent.allowed w.0 (λ q. omega (arith, q, w.1))).inside, c.requires.work_fits)

pub returns : goal.returns
returns c =
    let w = kind_says _ _ _ c.requires.is_branch in
    let y = branch_live _ _ _ _ w.0 refl (λ q. omega (arith, q, c.requires.is_in_use)) (λ q. omega (arith, q, w.1)) in
    sym (see_kept _ _ _ _ _ _ _ c.requires.known y c.word.ensures c.if-word-depth.false refl)
