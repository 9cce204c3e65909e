-- The structural form of "a trie that the rules above can build" (document 01, SOUND): what every path, branch and chain of
-- such a trie looks like.
use Rattle.std.specs.Prelude.{◌≡◌, List, [], ◌∷◌, ℕ, zero, suc, ◌<◌, length}
use Rattle.trie.specs.declared.Entry.{Entry}
use Rattle.trie.specs.Entry.{absent}
use Rattle.trie.specs.Trie.{branch, Item, leaf, Node, Kids, none, kid, empty, root, Map, find}

-- every segment is above lo, and they ascend
unfoldable pub Above : {X : Type 0} → ℕ → Kids X → Type 0
Above lo none = Unit {0}
Above lo (kid i m ks) = (lo < i) × Above i ks

unfoldable pub Asc : {X : Type 0} → Kids X → Type 0
Asc none = Unit {0}
Asc (kid i m ks) = Above i ks

unfoldable pub AllKids : {X : Type 0} → (ℕ → Node X → Type 0) → Kids X → Type 0
AllKids P none = Unit {0}
AllKids P (kid i m ks) = P i m × AllKids P ks

-- not empty: what is asked of a root's children
unfoldable pub Some : {X : Type 0} → Kids X → Type 0
Some none = ⊥
Some (kid s m ks) = Unit {0}

-- a chain of two or more, or a branch
unfoldable pub Big : {X : Type 0} → Node X → Type 0
Big (leaf []) = ⊥
Big (leaf (x ∷ [])) = ⊥
Big (leaf (x ∷ (y ∷ xs))) = Unit {0}
Big (branch c ks) = Unit {0}

-- not empty, and no single as the only child: what is asked of the children of all other branches
unfoldable pub Busy : {X : Type 0} → Kids X → Type 0
Busy none = ⊥
Busy (kid s m none) = Big m
Busy (kid s m (kid i n ks)) = Unit {0}

unfoldable pub AllItems : {X : Type 0} → (Entry → Type 0) → List (Item X) → Type 0
AllItems P [] = Unit {0}
AllItems P (x ∷ xs) = P x.entry × AllItems P xs

-- no (hash, key) twice
unfoldable pub Distinct : {X : Type 0} → List (Item X) → Type 0
Distinct [] = Unit {0}
Distinct (x ∷ xs) = (find x.entry.hash x.entry.key xs ≡ absent) × Distinct xs

unfoldable pub NonEmpty : {X : Type 0} → List (Item X) → Type 0
NonEmpty [] = ⊥
NonEmpty (x ∷ xs) = Unit {0}

-- the hash has the segments of the path, of which the last stands first
module _ (seg : ℕ → ℕ → ℕ) where
  unfoldable pub Under : List ℕ → ℕ → Type 0
  Under [] h = Unit {0}
  Under (s ∷ ss) h = (seg (length ss) h ≡ s) × Under ss h

-- W is what is asked of every entry: that it is of 64-bit words
module _ (seg : ℕ → ℕ → ℕ) (W : Entry → Type 0) where
  abbrev pub In : List ℕ → Entry → Type 0
  In path e = Under seg path e.hash × W e

  -- n depths are left below the path; Q is what is asked of this branch's children
  unfoldable pub Canon : {X : Type 0} → (Kids X → Type 0) → ℕ → List ℕ → Node X → Type 0
  Canon Q zero path (leaf xs) = NonEmpty xs × AllItems (In path) xs × Distinct xs
  Canon Q zero path (branch c ks) = ⊥
  Canon Q (suc n) path (leaf []) = ⊥
  Canon Q (suc n) path (leaf (x ∷ [])) = In path x.entry
  Canon Q (suc n) path (leaf (x ∷ (y ∷ xs))) = ⊥
  Canon Q (suc n) path (branch c ks) = Q ks × Asc ks × AllKids (λ s m. Canon Busy n (s ∷ path) m) ks

  -- the depths are d
  unfoldable pub Canonical : {X : Type 0} → ℕ → Map X → Type 0
  Canonical d empty = Unit {0}
  Canonical d (root m) = Canon Some d [] m
