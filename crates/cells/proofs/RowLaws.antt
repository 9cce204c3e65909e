-- A row is written one child at a time.
use Prim.Native.Nat.{ℕ, zero, suc, ◌+◌, ◌<◌}
use mathlib.Core.Path.{◌≡◌, refl}
use mathlib.Core.List.{List}
use native.Mathlib.Omega.{arith}
use native.Mathlib.Numerals.{add-one}
use Rattle.layout.specs.declared.Shape.{Shape}
use Rattle.layout.specs.Columns.{word_set}
use Rattle.cells.specs.Mirrors.{row_words}

module _ (z : Shape) (r : ℕ) (row : ℕ → ℕ) (a : List ℕ) where
  pub row_none : row_words z r row 0 a ≡ a
  unfolding row_words
  row_none = refl

  pub row_next : (k : ℕ) → row_words z r row (k + 1) a ≡ word_set z (row_words z r row k a) r (3 + k) (row k)
  unfolding row_words
  row_next k = rw add-one

-- only what the row has at the places that are written matters
pub row_same : (z : Shape) (r : ℕ) (f g : ℕ → ℕ) (a : List ℕ) (n : ℕ) → ((k : ℕ) → k < n → f k ≡ g k)
    → row_words z r f n a ≡ row_words z r g n a
unfolding row_words
row_same z r f g a zero e = refl
row_same z r f g a (suc n) e =
    rw (row_same z r f g a n (λ k l. e k (omega arith)), e n (omega arith))
