-- The names of a trie's cells: sums of a weight over them, and other names for them.
use Rattle.std.specs.Prelude.{cond, List, [], ◌∷◌, ℕ, zero, suc, ◌+◌}
use Rattle.trie.specs.Entry.{matches, if_got}
use Rattle.trie.specs.Trie.{branch, Item, leaf, Node, Kids, none, kid, empty, root, Map, Found, missing, found, item, find, Updated, not_there, updated}

-- SUMS. With the weight that is 1 at some names and 0 at the others, a sum says how often these names stand in the trie.
unfoldable pub cells : {X : Type 0} → (X → ℕ) → List (Item X) → ℕ
cells w [] = 0
cells w (x ∷ xs) = w x.cell + cells w xs

-- u over the branches and v over the leaves
unfoldable mutual
  pub total : {X : Type 0} → (X → ℕ) → (List (Item X) → ℕ) → Node X → ℕ
  total u v (leaf xs) = v xs
  total u v (branch c ks) = u c + totals u v ks

  pub totals : {X : Type 0} → (X → ℕ) → (List (Item X) → ℕ) → Kids X → ℕ
  totals u v none = 0
  totals u v (kid s m ks) = total u v m + totals u v ks

abbrev pub branch_sum : {X : Type 0} → (X → ℕ) → Node X → ℕ
branch_sum w m = total w (λ xs. 0) m

abbrev pub entry_sum : {X : Type 0} → (X → ℕ) → Node X → ℕ
entry_sum w m = total (λ c. 0) (cells w) m

unfoldable pub on_map : {X : Type 0} → (Node X → ℕ) → Map X → ℕ
on_map g empty = 0
on_map g (root m) = g m

-- w over the names f j, f (j + 1), .., c of them
unfoldable pub news : {X : Type 0} → (X → ℕ) → (ℕ → X) → ℕ → ℕ → ℕ
news w f j zero = 0
news w f j (suc c) = w (f j) + news w f (suc j) c

-- w over the entries of a chain up to the key and with it; 0 where it is not there
unfoldable pub upto : {X : Type 0} → (X → ℕ) → ℕ → ℕ → List (Item X) → ℕ
upto w h k [] = 0
upto w h k (x ∷ xs) = cond (matches h k x.entry) (w x.cell) (w x.cell + upto w h k xs)

unfoldable pub gone : {X : Type 0} → (X → ℕ) → ℕ → ℕ → List (Item X) → ℕ
gone w h k xs = if_got (find h k xs) (upto w h k xs) 0

-- OTHER NAMES
module _ {X Y : Type 0} (g : X → Y) where
  unfoldable pub rename_items : List (Item X) → List (Item Y)
  rename_items [] = []
  rename_items (x ∷ xs) = item (g x.cell) x.entry ∷ rename_items xs

  unfoldable mutual
    pub rename_node : Node X → Node Y
    rename_node (leaf xs) = leaf (rename_items xs)
    rename_node (branch c ks) = branch (g c) (rename_kids ks)

    pub rename_kids : Kids X → Kids Y
    rename_kids none = none
    rename_kids (kid s m ks) = kid s (rename_node m) (rename_kids ks)

  unfoldable pub rename_found : Found X → Found Y
  rename_found missing = missing
  rename_found (found m) = found (rename_node m)

  unfoldable pub rename : Map X → Map Y
  rename empty = empty
  rename (root m) = root (rename_node m)

  unfoldable pub rename_updated : Updated X → Updated Y
  rename_updated not_there = not_there
  rename_updated (updated m) = updated (rename m)

-- the trie without names
abbrev pub forget : {X : Type 0} → Map X → Map (Unit {0})
forget m = rename (λ c. tt) m
