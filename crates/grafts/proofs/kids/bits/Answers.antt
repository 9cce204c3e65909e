-- `grafts::kids::bits` meets its contract. Assumes nothing.
use native.Mathlib.Omega.{arith}
use Rattle.lookup.proofs.Meaning.{segment_low}
use Rattle.lookup.proofs.FindLaws.{kind_says, has_part}
use Rattle.layout.proofs.SizeLaws.{has_segment}
use Rattle.layout.proofs.ColumnLaws.{has_low}
use mathlib.Core.Path.{sym, ◌∙◌}
use Rattle.grafts.proofs.StepLaws.{bits_branch, entry_bits, bits_none}
use Rattle.grafts.proofs.kids.bits.Goals as goal

pub word-requires : goal.word-requires
word-requires c = record { lent = c.requires.lent; has_word = has_low _ _ _ (kind_says _ _ _ (sym c.is_branch.ensures ∙ c.if-is_branch.true)).0 (omega arith) }

pub returns-then-is_branch : goal.returns-then-is_branch
returns-then-is_branch c = c.word.ensures ∙ sym (bits_branch _ _ _ _ (sym c.is_branch.ensures ∙ c.if-is_branch.true))

pub word-requires-then-is_entry : goal.word-requires-then-is_entry
word-requires-then-is_entry c = record { lent = c.requires.lent; has_word = has_part _ _ _ (sym c.is_entry.ensures ∙ c.if-is_entry.true) (omega arith) }

pub segment_at-requires : goal.segment_at-requires
segment_at-requires c = has_segment _ c.requires.lent.allowed _ c.requires.in_depths

pub overflow_shl-result : goal.overflow_shl-result
overflow_shl-result c = omega (arith, segment_low _ c.requires.lent.allowed c.args.depth c.word-then-is_entry.result, c.segment_at.ensures)

pub returns-then-is_entry : goal.returns-then-is_entry
returns-then-is_entry c = entry_bits _ _ _ _ _ _ (sym c.is_branch.ensures ∙ c.if-is_branch.false) (sym c.is_entry.ensures ∙ c.if-is_entry.true) c.requires.lent.allowed c.word-then-is_entry.ensures c.segment_at.ensures

pub returns : goal.returns
returns c = sym (bits_none _ _ _ _ (sym c.is_branch.ensures ∙ c.if-is_branch.false) (sym c.is_entry.ensures ∙ c.if-is_entry.false))
