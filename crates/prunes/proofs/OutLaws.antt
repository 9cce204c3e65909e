-- A row with one word taken out: the words before it stay, and those behind it come down by one place.
use Rattle.std.proofs.Common.{◌≡◌, ℕ, suc, ◌<◌, ◌≤◌, le-ltb, lt-ltb}
use Rattle.prunes.specs.Prunes.{row_out}

module _ (f : ℕ → ℕ) (p k : ℕ) where
  pub out_before : k < p → row_out f p k ≡ f k
  unfolding row_out
  out_before l = rw (lt-ltb k p l)

  pub out_behind : p ≤ k → row_out f p k ≡ f (suc k)
  unfolding row_out
  out_behind l = rw (le-ltb k p l)
