-- The editions of a sound arena, with its header and what lies beyond it, settle every word but those of the free chains.
use Prim.Native.Nat.{ℕ, ◌≤◌}
use mathlib.Core.Path.{◌≡◌}
use mathlib.Core.List.{List}
use lib.ListN.{length, get_or}
use Rattle.trie.specs.Trie.{Map}
use Rattle.layout.specs.declared.Shape.{Shape}
use Rattle.layout.specs.Layout.{total}
use Rattle.layout.specs.Header.{Header}
use Rattle.arena.specs.Sound.{Sound}
use Rattle.arena.specs.Holds.{Holds}
use Rattle.settled.specs.Alike.{Alike}
use Rattle.settled.proofs.SameLaws.{same_cells}
use Rattle.settled.proofs.WordLaws.{alike}

-- the editions settle every word but the free chains
pub settled : (a b : List ℕ) → Sound a → Sound b → (z : Shape) → Header a z → Header b z → length b ≡ length a
    → ((i : ℕ) → total z ≤ i → get_or b i 0 ≡ get_or a i 0)
    → ((i : ℕ) (m : Map ℕ) → Holds z a i m → Holds z b i m) → ((i : ℕ) (m : Map ℕ) → Holds z b i m → Holds z a i m) → Alike z a b
settled a b sa sb z h k e out to from = alike z a b h k e out (same_cells a b sa sb z h k to from)
