-- `layout::words::word_at` meets its contract: a word of a cell lies inside the arena, so no sum on the way to its offset
-- overflows. Assumes nothing.
use native.Mathlib.Omega.{arith}
use Rattle.layout.specs.Layout.{width_of, cells_at, word_at}
use Prim.Native.Nat.{ℕ, ◌-◌, ◌*◌, ◌/◌}
use mathlib.Core.Path.{ap, ◌∙◌}
use Rattle.layout.proofs.OffsetLaws.{word_room}
use Rattle.layout.proofs.words.word_at.Goals as goal

pub overflow_sub-result : goal.overflow_sub-result
overflow_sub-result c = omega (arith, word_room _ _ _ c.requires.allowed c.requires.has_word)

pub overflow_mul-result : goal.overflow_mul-result
overflow_mul-result c = omega (arith, word_room _ _ _ c.requires.allowed c.requires.has_word, ap (λ (x : ℕ). (c.args.r / 2 - 1) * x) (c.width_of-width.ensures ∙ ap (width_of c.args.z) c.of-kind.ensures), c.at_cells-base.ensures ∙ ap (cells_at c.args.z) c.of-kind.ensures)

pub overflow_add-result : goal.overflow_add-result
overflow_add-result c = omega (arith, word_room _ _ _ c.requires.allowed c.requires.has_word, ap (λ (x : ℕ). (c.args.r / 2 - 1) * x) (c.width_of-width.ensures ∙ ap (width_of c.args.z) c.of-kind.ensures), c.at_cells-base.ensures ∙ ap (cells_at c.args.z) c.of-kind.ensures)

pub overflow_add-result-2 : goal.overflow_add-result-2
overflow_add-result-2 c = omega (arith, word_room _ _ _ c.requires.allowed c.requires.has_word, ap (λ (x : ℕ). (c.args.r / 2 - 1) * x) (c.width_of-width.ensures ∙ ap (width_of c.args.z) c.of-kind.ensures), c.at_cells-base.ensures ∙ ap (cells_at c.args.z) c.of-kind.ensures)

pub returns : goal.returns
unfolding word_at
returns c = omega (arith, word_room _ _ _ c.requires.allowed c.requires.has_word, ap (λ (x : ℕ). (c.args.r / 2 - 1) * x) (c.width_of-width.ensures ∙ ap (width_of c.args.z) c.of-kind.ensures), c.at_cells-base.ensures ∙ ap (cells_at c.args.z) c.of-kind.ensures)
