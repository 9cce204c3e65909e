-- How many entries the search for a key looks at: the same recursion as `hit_from`, counting.
use Rattle.std.specs.Prelude.{ℕ, zero, suc, cond}
use Rattle.trie.specs.Entry.{matches}
use Rattle.layout.specs.declared.Shape.{Shape}
use Rattle.layout.specs.Columns.{State}
use Rattle.lookup.specs.Lookup.{names_kind, entry_at}

unfoldable pub looked_from : Shape → State → ℕ → ℕ → ℕ → ℕ → ℕ
looked_from z σ h k zero r = 0
looked_from z σ h k (suc n) r =
    cond (names_kind z 1 r) (cond (matches h k (entry_at σ r)) 1 (suc (looked_from z σ h k n (σ.kid r 0)))) 0
