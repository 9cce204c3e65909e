-- Document 01, "What an update takes", restated; what stands in quotes is document 01's.
use Rattle.std.specs.Prelude.{cond, List, [], ◌∷◌, ℕ, zero, suc, ◌+◌}
use Rattle.trie.specs.declared.Entry.{Entry}
use Rattle.trie.specs.Entry.{matches, if_got}
use Rattle.trie.specs.Trie.{branch, Item, leaf, chain, Node, empty, root, Map, on_found, child, find, remove, Updated, not_there, updated, insert}

-- "The answer reports the cells taken of each kind."
pub record Taken : Type 0 where
  pub branches : ℕ
  pub entries : ℕ

-- how many entries of a chain stand before the first that matches
unfoldable pub ahead : {X : Type 0} → ℕ → ℕ → List (Item X) → ℕ
ahead h k [] = 0
ahead h k (x ∷ xs) = cond (matches h k x.entry) 0 (suc (ahead h k xs))

-- how many stand before the key; 0 where it is not there
unfoldable pub before : {X : Type 0} → ℕ → ℕ → List (Item X) → ℕ
before h k xs = if_got (find h k xs) (ahead h k xs) 0

-- the sum of w over the branches on a hash's path; with w = 1, how many they are
module _ (seg : ℕ → ℕ → ℕ) where
  unfoldable pub along : {X : Type 0} → (X → ℕ) → ℕ → ℕ → ℕ → Node X → ℕ
  along w zero t h m = 0
  along w (suc n) t h (leaf xs) = 0
  along w (suc n) t h (branch c ks) = w c + on_found 0 (along w n (suc t) h) (child (seg t h) ks)

module _ (seg : ℕ → ℕ → ℕ) (d : ℕ) where
  unfoldable pub branches_on : {X : Type 0} → ℕ → Map X → ℕ
  branches_on h empty = 0
  branches_on h (root m) = along seg (λ c. 1) d 0 h m

  unfoldable pub stand_before : {X : Type 0} → ℕ → ℕ → Map X → ℕ
  stand_before h k empty = 0
  stand_before h k (root m) = before h k (chain seg d 0 h m)

  -- "Insert: one branch cell for each branch on the new entry's path in the result, one cell for the entry, and one for each
  -- chain entry that stood before a replaced one."
  unfoldable pub insert_takes : {X : Type 0} → (b f : ℕ → X) → Entry → Map X → Taken
  insert_takes b f e m =
      record { branches = branches_on e.hash (insert seg d b f e m); entries = 1 + stand_before e.hash e.key m }

  -- "Remove: one branch cell for each branch left on the path in the result, and one entry cell for each chain entry that
  -- stood before the removed one; an empty result takes none."
  unfoldable pub left_takes : {X : Type 0} → ℕ → ℕ → Map X → Updated X → Taken
  left_takes h k m not_there = record { branches = 0; entries = 0 }
  left_takes h k m (updated m') = record { branches = branches_on h m'; entries = stand_before h k m }

  abbrev pub remove_takes : {X : Type 0} → (b f : ℕ → X) → ℕ → ℕ → Map X → Taken
  remove_takes b f h k m = left_takes h k m (remove seg d b f h k m)
