-- Document 01, "The trie", restated; what stands in quotes is document 01's.
-- Each cell carries a name, of any type X. With X = Unit this is document 01's trie; with X = ℕ a name is the number of a cell
-- in an arena. An update takes new names from a supply: the branch that it makes at depth t is named b t, the entries f 0, f
-- 1, and so on. Whatever is shared keeps its name, so one definition says what an update shows, what it shares and what it
-- takes.
use Rattle.std.specs.Prelude.{Bool, true, false, cond, List, [], ◌∷◌, ◌++◌, ℕ, zero, suc, eqb, ltb, length}
use Rattle.trie.specs.declared.Entry.{Entry}
use Rattle.trie.specs.Entry.{matches, Got, absent, got, if_got}

pub record Item (X : Type 0) : Type 0 where
  pub cell : X
  pub entry : Entry

-- A leaf holds a single entry, or a chain with its front first. A branch holds its children, each with its segment.
mutual
  pub data Node (X : Type 0) : Type 0 where
    leaf : List (Item X) → Node X
    branch : X → Kids X → Node X

  pub data Kids (X : Type 0) : Type 0 where
    none : Kids X
    kid : ℕ → Node X → Kids X → Kids X

-- "The empty map is an empty root branch. Here it takes no cell."
pub data Map (X : Type 0) : Type 0 where
  empty : Map X
  root : Node X → Map X

-- CHILDREN. "A branch holds its children in ascending segment order."
pub data Found (X : Type 0) : Type 0 where
  missing : Found X
  found : Node X → Found X

unfoldable pub on_found : {X A : Type 0} → A → (Node X → A) → Found X → A
on_found a g missing = a
on_found a g (found m) = g m

unfoldable pub child : {X : Type 0} → ℕ → Kids X → Found X
child s none = missing
child s (kid i m ks) = cond (eqb i s) (found m) (child s ks)

unfoldable pub put : {X : Type 0} → ℕ → Node X → Kids X → Kids X
put s n none = kid s n none
put s n (kid i m ks) = cond (eqb i s) (kid s n ks) (cond (ltb s i) (kid s n (kid i m ks)) (kid i m (put s n ks)))

unfoldable pub take_out : {X : Type 0} → ℕ → Kids X → Kids X
take_out s none = none
take_out s (kid i m ks) = cond (eqb i s) ks (kid i m (take_out s ks))

-- CHAINS
abbrev pub item : {X : Type 0} → X → Entry → Item X
item c e = record { cell = c; entry = e }

abbrev pub single : {X : Type 0} → (ℕ → X) → Entry → Node X
single f e = leaf (item (f 0) e ∷ [])

unfoldable pub find : {X : Type 0} → ℕ → ℕ → List (Item X) → Got
find h k [] = absent
find h k (x ∷ xs) = cond (matches h k x.entry) (got x.entry.value) (find h k xs)

-- what stands before the key, copied under the names f j, f (j + 1), ..; what stands behind it, shared
unfoldable pub copied : {X : Type 0} → (ℕ → X) → ℕ → ℕ → ℕ → List (Item X) → List (Item X)
copied f j h k [] = []
copied f j h k (x ∷ xs) = cond (matches h k x.entry) xs (item (f j) x.entry ∷ copied f (suc j) h k xs)

-- the chain without the key; all of it is shared where the key is not there
unfoldable pub list_remove_first : {X : Type 0} → (ℕ → X) → ℕ → ℕ → ℕ → List (Item X) → List (Item X)
list_remove_first f j h k xs = if_got (find h k xs) (copied f j h k xs) xs

-- "At depth D a new key goes to the chain's front. A key already in the chain is replaced AND moved to the front; the others
-- keep their order."
unfoldable pub push_front : {X : Type 0} → (ℕ → X) → Entry → List (Item X) → List (Item X)
push_front f e xs = item (f 0) e ∷ list_remove_first f 1 e.hash e.key xs

-- PATHS. From here on seg t h is the segment of the hash h at depth t. The first number of a function on nodes is the depths
-- left and the second the depth, so that depth D is where none is left.
module _ (seg : ℕ → ℕ → ℕ) where
  -- the chain at the end of a hash's path
  unfoldable pub chain : {X : Type 0} → ℕ → ℕ → ℕ → Node X → List (Item X)
  chain zero t h (leaf xs) = xs
  chain zero t h (branch c ks) = []
  chain (suc n) t h (leaf xs) = xs
  chain (suc n) t h (branch c ks) = on_found [] (chain n (suc t) h) (child (seg t h) ks)

  abbrev pub get_node : {X : Type 0} → ℕ → ℕ → ℕ → ℕ → Node X → Got
  get_node n t h k m = find h k (chain n t h m)

-- INSERT. "Insert at a missing child places a single entry there. Insert at a single with the same hash and key replaces it.
-- Above depth D, at another key, branches are made until the segments differ; the old entry is shared. If all segments agree,
-- a chain stands at depth D, the new entry in front."
module _ (seg : ℕ → ℕ → ℕ) {X : Type 0} (b : ℕ → X) (f : ℕ → X) where
  unfoldable pub insert_node : ℕ → ℕ → Entry → Node X → Node X
  insert_node zero t e (leaf xs) = leaf (push_front f e xs)
  insert_node zero t e (branch c ks) = branch c ks
  insert_node (suc n) t e (leaf []) = single f e
  insert_node (suc n) t e (leaf (x ∷ xs)) =
      cond (matches e.hash e.key x.entry) (single f e)
      (cond (eqb (seg t x.entry.hash) (seg t e.hash))
      (branch (b t) (kid (seg t e.hash) (insert_node n (suc t) e (leaf (x ∷ xs))) none))
      (branch (b t) (put (seg t e.hash) (single f e) (kid (seg t x.entry.hash) (leaf (x ∷ xs)) none))))
  insert_node (suc n) t e (branch c ks) =
      branch (b t) (put (seg t e.hash) (on_found (single f e) (insert_node n (suc t) e) (child (seg t e.hash) ks)) ks)

-- REMOVE. "Remove takes an entry out; a chain of two becomes a single. An emptied child leaves its branch. Then, upwards, each
-- branch on the path whose only child is a single becomes that single, root included. A branch whose only child is a branch or
-- chain stays."
unfoldable pub is_empty : {X : Type 0} → Node X → Bool
is_empty (leaf []) = true
is_empty (leaf (x ∷ xs)) = false
is_empty (branch c none) = true
is_empty (branch c (kid i m ks)) = false

unfoldable pub is_single : {X : Type 0} → Node X → Bool
is_single (leaf []) = false
is_single (leaf (x ∷ [])) = true
is_single (leaf (x ∷ (y ∷ xs))) = false
is_single (branch c ks) = false

unfoldable pub settle : {X : Type 0} → ℕ → Kids X → Node X → Kids X
settle s ks m = cond (is_empty m) (take_out s ks) (put s m ks)

unfoldable pub compress : {X : Type 0} → X → Kids X → Node X
compress c none = branch c none
compress c (kid s m none) = cond (is_single m) m (branch c (kid s m none))
compress c (kid s m (kid i n ks)) = branch c (kid s m (kid i n ks))

module _ (seg : ℕ → ℕ → ℕ) {X : Type 0} (b : ℕ → X) (f : ℕ → X) where
  unfoldable pub remove_node : ℕ → ℕ → ℕ → ℕ → Node X → Node X
  remove_node zero t h k (leaf xs) = leaf (list_remove_first f 0 h k xs)
  remove_node zero t h k (branch c ks) = branch c ks
  remove_node (suc n) t h k (leaf xs) = leaf (list_remove_first f 0 h k xs)
  remove_node (suc n) t h k (branch c ks) =
      on_found (branch c ks) (λ m. compress (b t) (settle (seg t h) ks (remove_node n (suc t) h k m))) (child (seg t h) ks)

-- LISTING. "Listing goes through children in ascending order, chains front first."
unfoldable pub listing_chain : {X : Type 0} → List (Item X) → List Entry
listing_chain [] = []
listing_chain (x ∷ xs) = x.entry ∷ listing_chain xs

unfoldable mutual
  pub listing_node : {X : Type 0} → Node X → List Entry
  listing_node (leaf xs) = listing_chain xs
  listing_node (branch c ks) = listing_kids ks

  pub listing_kids : {X : Type 0} → Kids X → List Entry
  listing_kids none = []
  listing_kids (kid s m ks) = listing_node m ++ listing_kids ks

unfoldable pub listing : {X : Type 0} → Map X → List Entry
listing empty = []
listing (root m) = listing_node m

unfoldable pub size : {X : Type 0} → Map X → ℕ
size m = length (listing m)

-- MAPS. Change and remove answer 6 where the key is not there.
pub data Updated (X : Type 0) : Type 0 where
  not_there : Updated X
  updated : Map X → Updated X

-- a map of what is left: a node that is empty takes no cell
unfoldable pub tidy : {X : Type 0} → Node X → Map X
tidy m = cond (is_empty m) empty (root m)

unfoldable pub answers : Got → ℕ → Bool
answers absent v = false
answers (got w) v = eqb w v

unfoldable pub every : {A : Type 0} → (A → Bool) → List A → Bool
every p [] = true
every p (x ∷ xs) = cond (p x) (every p xs) false

-- the depths are d
module _ (seg : ℕ → ℕ → ℕ) (d : ℕ) where
  unfoldable pub get : {X : Type 0} → ℕ → ℕ → Map X → Got
  get h k empty = absent
  get h k (root m) = get_node seg d 0 h k m

  module _ {X : Type 0} (b : ℕ → X) (f : ℕ → X) where
    -- "So a first insert leaves a root branch, and removal down to one entry may leave a root that is an entry."
    unfoldable pub insert : Entry → Map X → Map X
    insert e empty = root (branch (b 0) (kid (seg 0 e.hash) (single f e) none))
    insert e (root m) = root (insert_node seg b f d 0 e m)

    unfoldable pub remove : ℕ → ℕ → Map X → Updated X
    remove h k empty = not_there
    remove h k (root m) = if_got (get_node seg d 0 h k m) (updated (tidy (remove_node seg b f d 0 h k m))) not_there

    -- "Change (`get_mut` followed by a write) is insert where the key is present, else answer 6."
    unfoldable pub change : Entry → Map X → Updated X
    change e m = if_got (get e.hash e.key m) (updated (insert e m)) not_there

  -- "Two editions are equal when sizes agree and each entry of one is in the other with the same value. Chain order doesn't
  -- matter."
  unfoldable pub equal : {X Y : Type 0} → Map X → Map Y → Bool
  equal m n = cond (eqb (size m) (size n)) (every (λ e. answers (get e.hash e.key n) e.value) (listing m)) false
