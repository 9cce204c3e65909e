-- `releases::is_last` meets its contract. Assumes nothing.
use Rattle.releases.proofs.StepLaws.{more_names, few_names}
use Rattle.layout.proofs.ColumnLaws.{has_low}
use native.Mathlib.Omega.{arith}
use Rattle.releases.proofs.is_last.Goals as goal

as-answers-leaves : {T0 T1 : Type 0} → T0 × T1 → record { answers : T0; leaves : T1 }
as-answers-leaves p = record { answers = p.0; leaves = p.1 }

pub word-count-requires : goal.word-count-requires
word-count-requires c = record { lent = c.requires.lent; has_word = has_low _ _ _ c.requires.is_cell (omega arith) }

pub unshare-requires : goal.unshare-requires
unshare-requires c = record { lent = c.requires.lent; is_cell = c.requires.is_cell }

pub returns-then-count-gt1 : goal.returns-then-count-gt1
returns-then-count-gt1 c = as-answers-leaves (more_names _ _ _ _ c.word-count.ensures _ c.if-count-gt1.true c.unshare.ensures)

pub returns : goal.returns
returns c = as-answers-leaves (few_names _ _ _ _ c.word-count.ensures (omega (arith, c.if-count-gt1.false)))
