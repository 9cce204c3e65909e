-- `layout::words::slot_word` meets its contract: a word of a slot lies inside the slice. Assumes nothing.
use Rattle.layout.proofs.StoreLaws.{slot_in}
use mathlib.Core.Path.{sym}
use native.Mathlib.Omega.{arith}
use Rattle.layout.proofs.OffsetLaws.{slot_lent}
use Rattle.layout.proofs.words.slot_word.Goals as goal

pub offset_bounds-a-i : goal.offset_bounds-a-i
offset_bounds-a-i c = omega (arith, slot_lent _ _ _ _ _ c.requires.lent c.requires.in_slots.0 c.requires.in_slots.1 c.slot_at-i.ensures)

pub bounds-a-i : goal.bounds-a-i
bounds-a-i c = omega (arith, slot_lent _ _ _ _ _ c.requires.lent c.requires.in_slots.0 c.requires.in_slots.1 c.slot_at-i.ensures)

pub returns : goal.returns
returns c = rw c.slot_at-i.ensures (sym (slot_in _ _ _ _ c.requires.in_slots.0))
