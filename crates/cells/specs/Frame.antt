-- What every writer leaves alone: words 0 to 7, and the words beyond the total.
use Rattle.std.specs.Prelude.{ℕ, ◌≤◌, ◌<◌, ◌≡◌, List, length, get_or}
use Rattle.layout.specs.declared.Shape.{Shape}
use Rattle.layout.specs.Layout.{total}

pub record Kept (z : Shape) (a b : List ℕ) : Type 0 where
  pub same_length : length b ≡ length a
  pub same_header : (i : ℕ) → i < 8 → get_or b i 0 ≡ get_or a i 0
  pub same_beyond : (i : ℕ) → total z ≤ i → get_or b i 0 ≡ get_or a i 0
