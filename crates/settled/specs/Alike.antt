-- What docs/EXCEPTIONS.md leaves open in an arena, and nothing else: document 01, "which free cell is taken and the order of free
-- chains". Two arenas are alike if all their other words agree.
use Rattle.std.specs.Prelude.{ℕ, ◌+◌, ◌<◌, ◌≡◌, true, List, length, get_or}
use Rattle.layout.specs.declared.Shape.{Shape}
use Rattle.layout.specs.Layout.{names, word_at}
use Rattle.layout.specs.Columns.{columns}

-- word j is one that the order of the free chains is in: word 8 or 9, or the second word of a free cell
pub data Open (z : Shape) (a : List ℕ) : ℕ → Type 0 where
  first_free : (k : ℕ) → k < 2 → Open z a (8 + k)
  next_free : (r : ℕ) → names z r ≡ true → (columns z a).count r ≡ 0 → Open z a (word_at z r 1)

pub record Alike (z : Shape) (a b : List ℕ) : Type 0 where
  pub same_length : length b ≡ length a
  pub same_words : (j : ℕ) → (Open z a j → ⊥) → get_or b j 0 ≡ get_or a j 0
