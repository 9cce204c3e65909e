-- A hash's path, one step down: the chain at its end is that of the child at the hash's segment. The chain at the end of a map's
-- path has what the map has.
use mathlib.Core.Path.{◌≡◌, refl, sym}
use mathlib.Core.List.{List, []}
use Prim.Native.Nat.{ℕ, zero, suc}
use Rattle.trie.specs.Cells.{before, stand_before}
use Rattle.trie.specs.Entry.{absent, if_got}
use Rattle.trie.specs.Trie.{branch, Item, leaf, chain, Node, Kids, Map, empty, root, Found, missing, found, on_found, child, find, get}

pub find_none : (X : Type 0) (h k : ℕ) → find {X = X} h k [] ≡ absent
unfolding find
find_none X h k = refl

module _ (seg : ℕ → ℕ → ℕ) {X : Type 0} where
  pub chain-leaf : (n t h : ℕ) (xs : List (Item X)) → chain seg n t h (leaf xs) ≡ xs
  unfolding chain
  chain-leaf zero t h xs = refl
  chain-leaf (suc n) t h xs = refl

  -- one step down
  pub hop : (n t h : ℕ) (c : X) (ks : Kids X) (o : Found X) → child (seg t h) ks ≡ o
      → chain seg (suc n) t h (branch c ks) ≡ on_found [] (chain seg n (suc t) h) o
  unfolding chain
  hop n t h c ks o e = rw e

  pub hop_found : (n t h : ℕ) (c : X) (ks : Kids X) (m : Node X) → child (seg t h) ks ≡ found m
      → chain seg (suc n) t h (branch c ks) ≡ chain seg n (suc t) h m
  unfolding on_found
  hop_found n t h c ks m e = hop n t h c ks (found m) e

  pub hop_missing : (n t h : ℕ) (c : X) (ks : Kids X) → child (seg t h) ks ≡ missing → chain seg (suc n) t h (branch c ks) ≡ []
  unfolding on_found
  hop_missing n t h c ks e = hop n t h c ks missing e

-- MAPS. The chain at the end of a hash's path, with d depths; the empty map has none.
unfoldable pub chain_of : (ℕ → ℕ → ℕ) → ℕ → ℕ → {X : Type 0} → Map X → List (Item X)
chain_of seg d h empty = []
chain_of seg d h (root m) = chain seg d 0 h m

module _ (seg : ℕ → ℕ → ℕ) (d h k : ℕ) {X : Type 0} where
  pub get_chain : (m : Map X) → get seg d h k m ≡ find h k (chain_of seg d h m)
  unfolding get chain_of
  get_chain empty = sym (find_none X h k)
  get_chain (root m) = refl

  pub before_chain : (m : Map X) → stand_before seg d h k m ≡ before h k (chain_of seg d h m)
  unfolding stand_before chain_of before if_got find
  before_chain empty = refl
  before_chain (root m) = refl
