-- `layout::table::word` meets its contract: a word of a cell lies inside the slice. Assumes nothing.
use Rattle.layout.proofs.StoreLaws.{word_in}
use mathlib.Core.Path.{sym}
use native.Mathlib.Omega.{arith}
use Rattle.layout.proofs.OffsetLaws.{word_Lent}
use Rattle.layout.proofs.table.word.Goals as goal

pub offset_bounds-a-i : goal.offset_bounds-a-i
offset_bounds-a-i c = omega (arith, word_Lent _ _ _ _ _ c.requires.lent.0 c.requires.has_word c.word_at-i.ensures)

pub bounds-a-i : goal.bounds-a-i
bounds-a-i c = omega (arith, word_Lent _ _ _ _ _ c.requires.lent.0 c.requires.has_word c.word_at-i.ensures)

pub returns : goal.returns
returns c = rw c.word_at-i.ensures (sym (word_in _ _ _ _ c.requires.has_word))
