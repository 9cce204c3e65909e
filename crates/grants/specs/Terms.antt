-- What insert, change and remove promise alike: the answer and every word that they leave, and what that means on a sound arena.
-- What stands in quotes is document 01's.
use Rattle.std.specs.Prelude.{ℕ, ◌+◌, ◌≤◌, ◌<◌, ◌≡◌, true, List, Some, Result}
use Rattle.trie.specs.Trie.{Map, Updated, updated}
use Rattle.trie.specs.Cells.{Taken}
use Rattle.layout.specs.declared.Shape.{Shape}
use Rattle.layout.specs.Layout.{reference, names}
use Rattle.layout.specs.Header.{Header}
use Rattle.layout.specs.Columns.{columns}
use Rattle.arena.specs.Sound.{Sound}
use Rattle.arena.specs.Holds.{Holds, Keeps, OtherSlots}
use Rattle.cells.specs.Frame.{Kept}
use Rattle.cells.specs.Slots.{free_slot}
use Rattle.replies.specs.Answers as A
use Rattle.replies.specs.Outcomes.{Outcome, leaves}
use Rattle.replies.specs.declared.Refusal.{Refusal}
use Rattle.replies.specs.Answers.{took}
use Rattle.replies.specs.declared.Updated as U

-- n new names g 0, g 1, .. for cells of a kind: cells that were free, no two of them the same
pub record Fresh (z : Shape) (a : List ℕ) (kind n : ℕ) (g : ℕ → ℕ) : Type 0 where
  pub are_cells : (i : ℕ) → i < n → names z (reference kind (g i)) ≡ true
  pub were_free : (i : ℕ) → i < n → (columns z a).count (reference kind (g i)) ≡ 0
  pub distinct : (i j : ℕ) → i < n → j < n → g i ≡ g j → i ≡ j

-- What an update makes of a map, of names for new branches and new entries, and the cells that it takes: for insert, change and
-- remove these are the trie's own definitions.
pub record Step : Type 0 where
  pub makes : (ℕ → ℕ) → (ℕ → ℕ) → Map ℕ → Updated ℕ
  pub takes : (ℕ → ℕ) → (ℕ → ℕ) → Map ℕ → Taken

-- Slot s holds what the step makes of the map m. "Everything else is shared. .. The answer reports the cells taken of each kind; the
-- arena's in-use counts rise by these."
pub record NewEdition (z : Shape) (a b : List ℕ) (step : Step) (m : Map ℕ) (s branches entries : ℕ) : Type 0 where
  pub branch_names : ℕ → ℕ
  pub entry_names : ℕ → ℕ
  pub result : Map ℕ
  pub makes : step.makes branch_names entry_names m ≡ updated result
  pub holds : Holds z b s result
  pub counts : step.takes branch_names entry_names m ≡ record { branches = branches; entries = entries }
  pub within_depths : branches ≤ z.depths
  pub new_branches : Fresh z a 0 branches branch_names
  pub new_entries : Fresh z a 1 entries entry_names
  pub branches_rise : (columns z b).used 0 ≡ (columns z a).used 0 + branches
  pub entries_rise : (columns z b).used 1 ≡ (columns z a).used 1 + entries

-- An update of edition e, whose outcome is o. On any words: the answer and every word, words 0 to 7 and those beyond the total as
-- before, and "the result in the lowest free slot". On a sound arena: sound again, every edition that was held is the same named
-- trie, the new edition, and no other slot written.
pub record Updates (a : List ℕ) (e : ℕ) (step : Shape → Step) (o : Outcome) (r : Result U.Updated Refusal) (b : List ℕ) : Type 0 where
  pub outcome : leaves (A.update_answer r) b ≡ o
  pub inside : (z : Shape) → Header a z → Kept z a b
  pub lowest : (z : Shape) → Header a z → (s branches entries : ℕ) → r ≡ took s branches entries → free_slot z a ≡ Some s
  pub sound : Sound a → Sound b
  pub kept : Sound a → Keeps a b
  pub new : Sound a → (z : Shape) → Header a z → (m : Map ℕ) → Holds z a e m
      → (s branches entries : ℕ) → r ≡ took s branches entries → NewEdition z a b (step z) m s branches entries
  pub others : Sound a → (z : Shape) → Header a z
      → (s branches entries : ℕ) → r ≡ took s branches entries → OtherSlots z a b s
