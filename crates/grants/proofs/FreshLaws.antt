-- The cells that an update takes: free ones from the fronts of the free chains, no two the same, and the in-use counts rise by
-- as many.
use Rattle.std.proofs.Common.{◌≡◌, ℕ, suc, ◌+◌, ◌-◌, ◌<◌, ◌≤◌, List, length, get_or, sym, arith, length-drop}
use Rattle.layout.specs.declared.Shape.{Shape}
use Rattle.layout.specs.Layout.{cell_of, Lent}
use Rattle.layout.specs.Columns.{columns}
use Rattle.layout.proofs.SizeLaws.{small}
use Rattle.trie.specs.Trie.{Map}
use Rattle.arena.specs.Shows.{Edition}
use Rattle.arena.specs.Local.{Local, Grow}
use Rattle.arena.proofs.Frames.{SameSlot}
use Rattle.arena.proofs.FreeCells.{free_named, free_unused, free_distinct}
use Rattle.arena.proofs.LocalLaws.{free_length}
use Rattle.cells.specs.Frame.{Kept}
use Rattle.cells.proofs.Made.{left, taking}
use Rattle.grants.specs.Rooms.{free_cell_count}
use Rattle.grants.specs.Terms.{Fresh}

-- THE NEW CELLS, from the fronts of the free chains: the entries in their order, of n branches the deepest first
abbrev pub names_of_branches : (ℕ → List ℕ) → ℕ → ℕ → ℕ
names_of_branches free n t = cell_of (get_or (free 0) (n - suc t) 0)

abbrev pub names_of_entries : (ℕ → List ℕ) → ℕ → ℕ
names_of_entries free u = cell_of (get_or (free 1) u 0)

-- what is left of the free chains
abbrev pub left_by : ℕ → ℕ → (ℕ → List ℕ) → ℕ → List ℕ
left_by branches entries free = left (taking 0 branches) (left (taking 1 entries) free)

-- the free cells of a kind are those on its chain
pub free_cell_count_lem : {z : Shape} {a : List ℕ} {H : ℕ → ℕ} {free : ℕ → List ℕ} → Lent z a → Local z (columns z a) H free
    → (k : ℕ) → k < 2 → free_cell_count z a k ≡ length (free k)
unfolding free_cell_count
free_cell_count_lem {z} l I k lk = sym (free_length I (omega (arith, (small z l.allowed).degree_low)) k lk)

-- WHAT THE WRITING COMES TO, from the words a with these free cells: the map m in slot s
pub record Written (z : Shape) (a : List ℕ) (free : ℕ → List ℕ) (branches entries s : ℕ) (m : Map ℕ) (b : List ℕ) : Type 0 where
  pub kept : Kept z a b
  pub local : Local z (columns z b) (λ r. 0) (left_by branches entries free)
  pub grow : Grow (columns z a) (columns z b)
  pub others : (j : ℕ) → (j ≡ s → ⊥) → SameSlot (columns z a) (columns z b) j
  pub edition : Edition z (columns z b) s m

module _ {z : Shape} {a : List ℕ} {free : ℕ → List ℕ} (I : Local z (columns z a) (λ r. 0) free) where
  -- at the places g 0, g 1, .. of a free chain
  fresh_at : (k n : ℕ) (g : ℕ → ℕ) → ((i : ℕ) → i < n → g i < length (free k)) → ((i j : ℕ) → i < n → j < n → g i ≡ g j → i ≡ j)
      → Fresh z a k n (λ i. cell_of (get_or (free k) (g i) 0))
  fresh_at k n g inside apart =
      record {
        are_cells = λ i l. free_named I k (g i) (inside i l);
        were_free = λ i l. free_unused I k (g i) (inside i l);
        distinct = λ i j li lj e. apart i j li lj (free_distinct I k (g i) (g j) (inside i li) (inside j lj) e);
      }

  pub Fresh-entries : (n : ℕ) → n ≤ length (free 1) → Fresh z a 1 n (names_of_entries free)
  Fresh-entries n l = fresh_at 1 n (λ i. i) (λ i li. omega arith) (λ i j li lj e. e)

  pub Fresh-branches : (n : ℕ) → n ≤ length (free 0) → Fresh z a 0 n (names_of_branches free n)
  Fresh-branches n l = fresh_at 0 n (λ i. n - suc i) (λ i li. omega arith) (λ i j li lj e. omega arith)

  module _ {branches entries s : ℕ} {m : Map ℕ} {b : List ℕ} (W : Written z a free branches entries s m b) where
    pub branches_risen : branches ≤ length (free 0) → (columns z b).used 0 ≡ (columns z a).used 0 + branches
    branches_risen l = omega (arith, I.used_ok 0, W.local.used_ok 0, length-drop branches (free 0))

    pub entries_risen : entries ≤ length (free 1) → (columns z b).used 1 ≡ (columns z a).used 1 + entries
    entries_risen l = omega (arith, I.used_ok 1, W.local.used_ok 1, length-drop entries (free 1))
