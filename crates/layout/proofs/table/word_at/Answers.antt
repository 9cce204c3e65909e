-- `layout::table::word_at` meets its contract: the table has what the offset is made of, and a word of a cell lies inside the arena, so no
-- sum on the way overflows. Assumes nothing.
use native.Mathlib.Omega.{arith}
use Rattle.layout.specs.Layout.{word_at}
use Prim.Native.Nat.{ℕ, ◌-◌, ◌*◌, ◌/◌}
use mathlib.Core.Path.{ap, ◌∙◌}
use lib.ListN.{length}
use Rattle.layout.proofs.OffsetLaws.{word_room}
use Rattle.layout.proofs.TableLaws.{place_picked, width_picked}
use Rattle.layout.proofs.table.word_at.Goals as goal

pub picked-requires : goal.picked-requires
picked-requires c = (ap length c.requires.allowed.1, omega arith)

pub overflow_sub-result : goal.overflow_sub-result
overflow_sub-result c = omega (arith, word_room _ _ _ c.requires.allowed.0 c.requires.has_word)

pub picked-requires-2 : goal.picked-requires-2
picked-requires-2 c = (ap length c.requires.allowed.1, omega arith)

pub overflow_mul-result : goal.overflow_mul-result
overflow_mul-result c = omega (arith, word_room _ _ _ c.requires.allowed.0 c.requires.has_word, place_picked _ _ c.args.r c.requires.allowed.1, c.picked.ensures, ap (λ (x : ℕ). (c.args.r / 2 - 1) * x) (c.picked-2.ensures ∙ width_picked _ _ c.args.r c.requires.allowed.1))

pub overflow_add-result : goal.overflow_add-result
overflow_add-result c = omega (arith, word_room _ _ _ c.requires.allowed.0 c.requires.has_word, place_picked _ _ c.args.r c.requires.allowed.1, c.picked.ensures, ap (λ (x : ℕ). (c.args.r / 2 - 1) * x) (c.picked-2.ensures ∙ width_picked _ _ c.args.r c.requires.allowed.1))

pub overflow_add-result-2 : goal.overflow_add-result-2
overflow_add-result-2 c = omega (arith, word_room _ _ _ c.requires.allowed.0 c.requires.has_word, place_picked _ _ c.args.r c.requires.allowed.1, c.picked.ensures, ap (λ (x : ℕ). (c.args.r / 2 - 1) * x) (c.picked-2.ensures ∙ width_picked _ _ c.args.r c.requires.allowed.1))

pub returns : goal.returns
unfolding word_at
returns c = omega (arith, word_room _ _ _ c.requires.allowed.0 c.requires.has_word, place_picked _ _ c.args.r c.requires.allowed.1, c.picked.ensures, ap (λ (x : ℕ). (c.args.r / 2 - 1) * x) (c.picked-2.ensures ∙ width_picked _ _ c.args.r c.requires.allowed.1))
