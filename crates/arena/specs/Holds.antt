-- An edition in an arena of words. The meaning of a call is stated for the edition in every slot, as the named trie that it shows:
-- the same cells and not only the same entries.
use Rattle.std.specs.Prelude.{ℕ, ◌<◌, ◌≡◌, List}
use Rattle.segments.specs.Segments.{segment}
use Rattle.trie.specs.Trie.{Map}
use Rattle.trie.specs.Names.{forget}
use Rattle.trie.specs.Built.{Built}
use Rattle.layout.specs.declared.Shape.{Shape}
use Rattle.layout.specs.Header.{Header}
use Rattle.layout.specs.Columns.{columns, word_of_slot}
use Rattle.arena.specs.Shows.{Edition}

-- slot e of an arena with this header holds the map m
abbrev pub Holds : Shape → List ℕ → ℕ → Map ℕ → Type 0
Holds z a e m = Edition z (columns z a) e m

-- every edition that was held is held, as the same named trie
abbrev pub Keeps : List ℕ → List ℕ → Type 0
Keeps a b = (z : Shape) → Header a z → (e : ℕ) (m : Map ℕ) → Holds z a e m → Holds z b e m

-- no slot but s is written
abbrev pub OtherSlots : Shape → List ℕ → List ℕ → ℕ → Type 0
OtherSlots z a b s = (i p : ℕ) → (i ≡ s → ⊥) → p < 3 → word_of_slot z b i p ≡ word_of_slot z a i p

-- slot e holds the map m, "a trie that the rules above can build"; in a sound arena every held slot holds one
pub record Shelves (z : Shape) (a : List ℕ) (e : ℕ) (m : Map ℕ) : Type 0 where
  pub holds : Holds z a e m
  pub built : Built (segment z.bits) z.depths (forget m)
