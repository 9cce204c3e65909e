-- `layout::words::slot_at` meets its contract: a word of a slot lies before the branch cells, so no sum on the way to its
-- offset overflows. Assumes nothing.
use native.Mathlib.Omega.{arith}
use Rattle.layout.proofs.OffsetLaws.{place_lt}
use Rattle.layout.specs.Layout.{slot_at}
use Rattle.layout.proofs.SizeLaws.{small}
use borrow.Author.Rules.{rules}
use Rattle.layout.proofs.words.slot_at.Goals as goal

pub overflow_mul-result : goal.overflow_mul-result
overflow_mul-result c = omega (arith, small _ c.requires.allowed, place_lt _ _ _ _ c.requires.in_slots.0 c.requires.in_slots.1)

pub overflow_add-result : goal.overflow_add-result
overflow_add-result c = omega (arith, small _ c.requires.allowed, place_lt _ _ _ _ c.requires.in_slots.0 c.requires.in_slots.1)

pub overflow_add-result-2 : goal.overflow_add-result-2
overflow_add-result-2 c = omega (arith, small _ c.requires.allowed, place_lt _ _ _ _ c.requires.in_slots.0 c.requires.in_slots.1)

pub returns : goal.returns
unfolding slot_at
returns c = search rules
