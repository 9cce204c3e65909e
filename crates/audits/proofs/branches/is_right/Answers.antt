-- `audits::branches::is_right` meets its contract: the count tells what is asked of the cell. Assumes nothing.
use mathlib.Core.Path.{sym, ◌∙◌}
use native.Mathlib.Omega.{arith}
use borrow.Author.Tests.{ne_eqb}
use Rattle.layout.proofs.ColumnLaws.{has_low}
use Rattle.lookup.proofs.FindLaws.{kind_says}
use Rattle.audits.proofs.StepLaws.{bitmap_word, branch_used, branch_marked, branch_empty}
use Rattle.audits.proofs.branches.is_right.Goals as goal

pub word-requires : goal.word-requires
word-requires c = record { lent = c.requires.lent; has_word = has_low _ _ _ (kind_says _ _ _ c.requires.is_branch).0 (omega arith) }

pub word-requires-then-word-ne0 : goal.word-requires-then-word-ne0
word-requires-then-word-ne0 c = record { lent = c.requires.lent; has_word = has_low _ _ _ (kind_says _ _ _ c.requires.is_branch).0 (omega arith) }

pub returns-then-word-ne0 : goal.returns-then-word-ne0
returns-then-word-ne0 c = branch_used _ _ _ _ c.word.ensures _ c.if-word-ne0.true c.word-then-word-ne0.ensures

pub word-requires-2 : goal.word-requires-2
word-requires-2 c = record { lent = c.requires.lent; has_word = has_low _ _ _ (kind_says _ _ _ c.requires.is_branch).0 (omega arith) }

pub returns-else-word-eq0 : goal.returns-else-word-eq0
returns-else-word-eq0 c =
    let bitmap = c.word-2.ensures ∙ bitmap_word _ _ _ c.requires.is_branch in
    rw (ne_eqb c.word-2.result 0 c.if-word-eq0.false)
    (sym (branch_marked _ _ _ _ c.word.ensures _ c.if-word-ne0.false bitmap c.if-word-eq0.false))

pub returns-then-word-eq0 : goal.returns-then-word-eq0
returns-then-word-eq0 c =
    let bitmap = c.word-2.ensures
    ∙ bitmap_word _ _ _ c.requires.is_branch in
    branch_empty _ _ _ _ c.word.ensures _ _ c.if-word-ne0.false bitmap
    c.if-word-eq0.true c.has_none_from.ensures
