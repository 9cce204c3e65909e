-- What drop promises: the answer and every word that it leaves, as specs/Calls.antt says, and what that means on a sound arena. What
-- stands in quotes is document 01's.
use Rattle.std.specs.Prelude.{ℕ, ◌+◌, ◌≡◌, List, Result}
use Rattle.trie.specs.Trie.{Map}
use Rattle.layout.specs.declared.Shape.{Shape}
use Rattle.layout.specs.Header.{Header}
use Rattle.layout.specs.Columns.{columns}
use Rattle.arena.specs.Sound.{FreeSlot, Sound}
use Rattle.arena.specs.Local.{Shrink}
use Rattle.arena.specs.Holds.{Holds, OtherSlots}
use Rattle.cells.specs.Frame.{Kept}
use Rattle.replies.specs.Answers.{cells_answer, cell_counts}
use Rattle.replies.specs.Outcomes.{Outcome, leaves}
use Rattle.drops.specs.Calls.{drop_of}
use Rattle.replies.specs.declared.Refusal.{Refusal}
use Rattle.replies.specs.declared.CellCounts.{CellCounts}

-- Slot e is empty, no other slot is written, "every cell no longer reached" is free and words 10 and 11 fall by as many as the answer
-- says; what still lives lived, with the same words. That exactly the cells which are not reached are free is what `sound` says.
pub record Gone (z : Shape) (a b : List ℕ) (e branches entries : ℕ) : Type 0 where
  pub empty : FreeSlot (columns z b) e
  pub others : OtherSlots z a b e
  pub branches_fall : (columns z a).used 0 ≡ (columns z b).used 0 + branches
  pub entries_fall : (columns z a).used 1 ≡ (columns z b).used 1 + entries
  pub same_cells : Shrink 0 (columns z a) (columns z b)

-- A drop of edition e, whose outcome is o. On any words: the answer and every word, words 0 to 7 and those beyond the total as before.
-- On a sound arena: sound again, every other edition is the same named trie, and the edition is gone.
pub record DropsTo (a : List ℕ) (e : ℕ) (o : Outcome) (r : Result CellCounts Refusal) (b : List ℕ) : Type 0 where
  pub outcome : leaves (cells_answer r) b ≡ o
  pub inside : (z : Shape) → Header a z → Kept z a b
  pub sound : Sound a → Sound b
  pub kept : Sound a → (z : Shape) → Header a z → (i : ℕ) (m : Map ℕ) → (i ≡ e → ⊥) → Holds z a i m → Holds z b i m
  pub gone : Sound a → (z : Shape) → Header a z → (branches entries : ℕ) → r ≡ cell_counts branches entries → Gone z a b e branches entries

abbrev pub Drops : List ℕ → ℕ → Result CellCounts Refusal → List ℕ → Type 0
Drops a e r b = DropsTo a e (drop_of a e) r b
