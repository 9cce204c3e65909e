-- What is left of a slice's words when one is inserted among the first n, or taken out of them: "Vec children become
-- packed words" (document 01, "Shapes that change").
use Rattle.std.specs.Prelude.{ℕ, suc, ◌≤◌, ◌<◌, ◌≡◌, List, length, get_or}

-- v stands at `at`, and those of the first n words that stood from there on stand one place further up.
pub record Inserted (w : List ℕ) (at n v : ℕ) (w' : List ℕ) : Type 0 where
  pub before : (k : ℕ) → k < at → get_or w' k 0 ≡ get_or w k 0
  pub there : get_or w' at 0 ≡ v
  pub behind : (k : ℕ) → at ≤ k → k < n → get_or w' (suc k) 0 ≡ get_or w k 0
  pub rest : (k : ℕ) → n < k → get_or w' k 0 ≡ get_or w k 0
  pub long : length w' ≡ length w

-- Those of the first n words that stood behind `at` stand one place further down, and the last place is 0.
pub record TakenOut (w : List ℕ) (at n : ℕ) (w' : List ℕ) : Type 0 where
  pub before : (k : ℕ) → k < at → get_or w' k 0 ≡ get_or w k 0
  pub behind : (k : ℕ) → at ≤ k → suc k < n → get_or w' k 0 ≡ get_or w (suc k) 0
  pub given_up : (k : ℕ) → suc k ≡ n → get_or w' k 0 ≡ 0
  pub rest : (k : ℕ) → n ≤ k → get_or w' k 0 ≡ get_or w k 0
  pub long : length w' ≡ length w
