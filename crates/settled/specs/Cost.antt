-- What an edition costs. Document 01, demand 3: an edition costs exactly what it does not share. Cells are counted by listing them, each
-- once.
use Rattle.std.specs.Prelude.{ℕ, ◌≤◌, ◌<◌, ◌≡◌, List, ◌↔◌, length}
use Rattle.counts.specs.Counts.{ind, among}
use Rattle.trie.specs.Trie.{Map}
use Rattle.trie.specs.Names.{cells, total, on_map}
use Rattle.layout.specs.declared.Shape.{Shape}
use Rattle.layout.specs.Layout.{reference, kind_of}
use Rattle.arena.specs.Holds.{Holds}

-- n is how many numbers have P
pub record Number (P : ℕ → Type 0) (n : ℕ) : Type 0 where
  pub listed : List ℕ
  pub exactly : (r : ℕ) → P r ↔ (0 < among listed r)
  pub once : (r : ℕ) → among listed r ≤ 1
  pub many : length listed ≡ n

-- how often the cell that r names stands in a map
abbrev pub stands : ℕ → Map ℕ → ℕ
stands r m = on_map (total (λ c. ind r (reference 0 c)) (cells (λ c. ind r (reference 1 c)))) m

-- r names a cell of the edition in slot e
pub record CellOf (z : Shape) (a : List ℕ) (e r : ℕ) : Type 0 where
  pub map : Map ℕ
  pub holds : Holds z a e map
  pub within : 0 < stands r map

-- a cell of kind k that a held edition reaches, and one that the edition in slot e shares with no other
pub record Reaches (z : Shape) (a : List ℕ) (k r : ℕ) : Type 0 where
  pub kind : kind_of r ≡ k
  pub slot : ℕ
  pub cell : CellOf z a slot r

pub record Own (z : Shape) (a : List ℕ) (e k r : ℕ) : Type 0 where
  pub kind : kind_of r ≡ k
  pub cell : CellOf z a e r
  pub unshared : (i : ℕ) → (i ≡ e → ⊥) → CellOf z a i r → ⊥

-- what the edition in slot e does not share: so many branches, so many entries
pub record Costs (z : Shape) (a : List ℕ) (e branches entries : ℕ) : Type 0 where
  pub own_branches : Number (Own z a e 0) branches
  pub own_entries : Number (Own z a e 1) entries

-- q holds every edition that p holds, as the same named trie, and beside these only the one in slot s
pub record Beside (z : Shape) (p q : List ℕ) (s : ℕ) : Type 0 where
  pub away : (m : Map ℕ) → Holds z p s m → ⊥
  pub more : (i : ℕ) (m : Map ℕ) → Holds z p i m → Holds z q i m
  pub others : (i : ℕ) (m : Map ℕ) → (i ≡ s → ⊥) → Holds z q i m → Holds z p i m
