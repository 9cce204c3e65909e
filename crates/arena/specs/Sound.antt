-- Document 01, SOUND, in its own order; what stands in quotes is document 01's.
use Rattle.std.specs.Prelude.{ℕ, ◌+◌, ◌*◌, ◌<◌, ◌≡◌, Bool, true, false, cond, ◌&&◌, [], List, ◌∷◌, ◌⊎◌, ◌↔◌, eqb}
use Rattle.counts.specs.Counts.{ind, sum_to, times, among}
use Rattle.segments.specs.Segments.{segment}
use Rattle.trie.specs.Trie.{Map}
use Rattle.trie.specs.Names.{forget}
use Rattle.trie.specs.Built.{Built}
use Rattle.layout.specs.declared.Shape.{Shape}
use Rattle.layout.specs.Layout.{kind_of, names}
use Rattle.layout.specs.Header.{Header}
use Rattle.layout.specs.Columns.{State, columns, refs}
use Rattle.arena.specs.Shows.{Edition}

-- every reference that names a cell is below this
abbrev pub top : Shape → ℕ
top z = 2 * (z.branches + z.entries) + 4

-- "Slot: held (0 or 1), root, size; all 0 if not held."
pub record FreeSlot (σ : State) (s : ℕ) : Type 0 where
  pub not_held : σ.held s ≡ 0
  pub no_root : σ.root s ≡ 0
  pub no_size : σ.size s ≡ 0

-- "every held root shows a trie that the rules above can build, with its size". How its cells are laid out, that "a branch's depth
-- word is its place" and that "a cell's chain length is one more than that of its next, or 1" is in `Shows`.
pub record HeldSlot (z : Shape) (σ : State) (s : ℕ) : Type 0 where
  pub map : Map ℕ
  pub edition : Edition z σ s map
  pub built : Built (segment z.bits) z.depths (forget map)

-- the cells that are reached from a held slot
pub data Reached (z : Shape) (σ : State) : ℕ → Type 0 where
  from_slot : (s : ℕ) → s < z.slots → σ.held s ≡ 1 → (σ.root s ≡ 0 → ⊥) → Reached z σ (σ.root s)
  from_cell : (q k : ℕ) → Reached z σ q → (σ.kid q k ≡ 0 → ⊥) → Reached z σ (σ.kid q k)

-- "the number of slots, child words and next words, in held slots and reached cells, that name the cell"
unfoldable pub naming : Shape → State → (ℕ → Bool) → ℕ → ℕ
naming z σ reached r =
    sum_to z.slots (λ s. cond (eqb (σ.held s) 1) (ind r (σ.root s)) 0)
    + sum_to (top z) (λ q. cond (reached q) (times (refs z q) (σ.kid q) r) 0)

-- how many cells of a kind are reached
unfoldable pub reached_of : Shape → (ℕ → Bool) → ℕ → ℕ
reached_of z reached k = sum_to (top z) (λ r. cond (eqb (kind_of r) k && reached r) 1 0)

-- a free chain: the list of the references on it, from its first on
abbrev pub Chain : (ℕ → ℕ) → ℕ → List ℕ → Type 0
Chain next r [] = r ≡ 0
Chain next r (c ∷ cs) = (r ≡ c) × Chain next (next c) cs

-- the cells, with the slots that reach them: which are reached, how often each is named, and the rest on the free chains
pub record Cells (z : Shape) (σ : State) : Type 0 where
  pub reached : ℕ → Bool
  pub reached_is : (r : ℕ) → (reached r ≡ true) ↔ Reached z σ r
  -- "each count is the number of slots, child words and next words, in held slots and reached cells, that name the cell"
  pub counts : (r : ℕ) → names z r ≡ true → σ.count r ≡ naming z σ reached r
  -- "exactly the cells not reached from a held slot have count 0"
  pub not_reached : (r : ℕ) → names z r ≡ true → (reached r ≡ false) ↔ (σ.count r ≡ 0)
  -- "and each of them stands once on its free chain"
  pub free : ℕ → List ℕ
  pub chained : (k : ℕ) → Chain σ.mark (σ.first k) (free k)
  pub on_chain : (k r : ℕ) → 0 < among (free k) r → (names z r ≡ true) × (kind_of r ≡ k)
  pub once : (r : ℕ) → names z r ≡ true → among (free (kind_of r)) r ≡ cond (reached r) 0 1
  -- "Free cell: first word 0, second the next free reference, the rest 0."
  pub rest_kids : (r k : ℕ) → names z r ≡ true → reached r ≡ false → σ.kid r k ≡ 0
  pub rest_plain : (r k : ℕ) → names z r ≡ true → reached r ≡ false → σ.plain r k ≡ 0
  -- "words 10 and 11 count the reached cells"
  pub in_use : (k : ℕ) → σ.used k ≡ reached_of z reached k

pub record Sound (a : List ℕ) : Type 0 where
  pub shape : Shape
  pub header : Header a shape
  pub slots : (s : ℕ) → s < shape.slots → FreeSlot (columns shape a) s ⊎ HeldSlot shape (columns shape a) s
  pub cells : Cells shape (columns shape a)
