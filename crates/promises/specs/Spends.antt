-- Demand 3 in one place: an edition costs exactly what it does not share. What each public call spends on a sound arena of shape z:
-- the cells that its new edition shares with no other, which are those that the trie's definition counts and those by which words 10
-- and 11 rise; a drop gives back what the edition shared with no other; a refusal and a read spend nothing and write nothing.
use Rattle.std.specs.Prelude.{ℕ, ◌+◌, ◌≤◌, ◌<◌, ◌≡◌, List, ◌↔◌, Result, Ok, Err}
use Rattle.trie.specs.Trie.{Map}
use Rattle.trie.specs.Cells.{Taken}
use Rattle.layout.specs.declared.Shape.{Shape}
use Rattle.layout.specs.Header.{Header}
use Rattle.layout.specs.Columns.{columns}
use Rattle.arena.specs.Holds.{Holds}
use Rattle.chains.specs.Chains.{an_entry}
use Rattle.replies.specs.declared.Refusal.TheVariants as Why
use Rattle.grants.specs.Terms.{Step}
use Rattle.updates.specs.Terms.{insert_step}
use Rattle.removes.specs.Terms.{remove_step}
use Rattle.settled.specs.Cost.{Costs}
use Rattle.promises.specs.History.{Call, formats, makes_new, shares, inserts, changes, removes, drops, sizes, uses, gets, lists, compares, checks}
use Rattle.replies.specs.declared.Refusal.{Refusal}
use Rattle.replies.specs.declared.Updated.{Updated}
use Rattle.replies.specs.Answers.{took, cell_counts}
use Rattle.replies.specs.declared.CellCounts.{CellCounts}

-- words 10 and 11 of q are those of p and so much more
pub record Rises (z : Shape) (p q : List ℕ) (branches entries : ℕ) : Type 0 where
  pub branches_rise : (columns z q).used 0 ≡ (columns z p).used 0 + branches
  pub entries_rise : (columns z q).used 1 ≡ (columns z p).used 1 + entries

-- slot s of b holds a new edition that costs so much
pub record New (z : Shape) (a b : List ℕ) (s branches entries : ℕ) : Type 0 where
  pub costs : Costs z b s branches entries
  pub rises : Rises z a b branches entries

-- and, where it is what the step makes of edition e, by the definition's count, whatever the names
pub record Derived (z : Shape) (a b : List ℕ) (e : ℕ) (step : Step) (s branches entries : ℕ) : Type 0 where
  pub new : New z a b s branches entries
  pub counted : (m : Map ℕ) → Holds z a e m → (g f : ℕ → ℕ) → step.takes g f m ≡ record { branches = branches; entries = entries }

unfoldable pub Spends : Shape → Call → List ℕ → List ℕ → Type 0
Spends z (formats _ _ _ _ (Ok u)) a b = (y : Shape) → Header b y → (k : ℕ) → (columns y b).used k ≡ 0
Spends z (formats _ _ _ _ (Err _)) a b = b ≡ a
Spends z (makes_new (Ok s)) a b = New z a b s 0 0
Spends z (makes_new (Err _)) a b = b ≡ a
Spends z (shares _ (Ok s)) a b = New z a b s 0 0
Spends z (shares _ (Err _)) a b = b ≡ a
Spends z (inserts e h k v (Ok u)) a b = Derived z a b e (insert_step (an_entry h k v) z) u.edition u.branches u.entries
Spends z (inserts _ _ _ _ (Err _)) a b = b ≡ a
Spends z (changes e h k v (Ok u)) a b = Derived z a b e (insert_step (an_entry h k v) z) u.edition u.branches u.entries
Spends z (changes _ _ _ _ (Err _)) a b = b ≡ a
Spends z (removes e h k (Ok u)) a b = Derived z a b e (remove_step h k z) u.edition u.branches u.entries
Spends z (removes _ _ _ (Err _)) a b = b ≡ a
Spends z (drops e (Ok n)) a b = Costs z a e n.branches n.entries × Rises z b a n.branches n.entries
Spends z (drops _ (Err _)) a b = b ≡ a
Spends z (sizes _ _) a b = b ≡ a
Spends z (uses _) a b = b ≡ a
Spends z (gets _ _ _ _) a b = b ≡ a
Spends z (lists _ _ _ _ _) a b = b ≡ a
Spends z (compares _ _ _) a b = b ≡ a
Spends z (checks _ _ _) a b = b ≡ a

-- "Refusals for room are exact": 8 exactly where the definition counts more branch cells than are not in use, else 9 exactly where it
-- counts more entry cells, else the update is done
pub record Rooms (z : Shape) (a : List ℕ) (takes : Taken) (r : Result Updated Refusal) : Type 0 where
  pub no_branches : (r ≡ Err Why.NoBranchCells) ↔ (z.branches < (columns z a).used 0 + takes.branches)
  pub no_entries : (r ≡ Err Why.NoEntryCells)
      ↔ (((columns z a).used 0 + takes.branches ≤ z.branches) × (z.entries < (columns z a).used 1 + takes.entries))
  pub done : ((s : ℕ) × (r ≡ took s takes.branches takes.entries))
      ↔ (((columns z a).used 0 + takes.branches ≤ z.branches) × ((columns z a).used 1 + takes.entries ≤ z.entries))
