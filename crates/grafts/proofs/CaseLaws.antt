-- What the cases of insert say of the new path: the chain at its end, which the entries of an update make, the entries behind
-- the new one, and the branches above it.
use mathlib.Core.Path.{◌≡◌, refl, sym, ap, ◌∙◌}
use mathlib.Core.Bool.{Bool, true, false}
use mathlib.Core.List.{List, [], ◌∷◌}
use Prim.Native.Nat.{ℕ, suc}
use native.Mathlib.Omega.{arith}
use lib.ListN.{length}
use Rattle.segments.specs.Segments.{segment}
use Rattle.layout.specs.declared.Shape.{Shape}
use Rattle.trie.specs.Cells.{along}
use Rattle.trie.specs.declared.Entry.{Entry}
use Rattle.trie.specs.Entry.{matches, Got, absent, got, if_got}
use Rattle.trie.specs.Trie.{Item, Node, leaf, branch, Kids, put, single, none, item, Map, chain, get_node, get, find, list_remove_first, push_front}
use Rattle.trie.proofs.ChainLaws.{find_hit, find_miss, copied_hit}
use Rattle.trie.proofs.InsertCases.{InsertCase, in_chain, replaced, deeper, apart, new_child, in_child}
use Rattle.trie.proofs.KidsLaws.{child_hit, child-put}
use Rattle.trie.proofs.PathLaws.{find_none, chain-leaf, hop_found, hop_missing}
use Rattle.trie.proofs.PathNames.{along-leaf, along-found}

-- whether a lookup found something
unfoldable pub is_there : Got → Bool
is_there (got v) = true
is_there absent = false

-- whether a map of this shape has a key
abbrev pub has_key : Shape → ℕ → ℕ → Map ℕ → Bool
has_key z h k m = is_there (get (segment z.bits) z.depths h k m)

pub got-absent : (v : ℕ) (g : Got) → g ≡ got v → g ≡ absent → ⊥
got-absent v g p q = let z : ◌≡◌ {A = ℕ} 0 1 = cc in omega arith

pub is_there_lem : (v : ℕ) {g : Got} {there : Bool} → there ≡ is_there g → g ≡ got v → there ≡ true
unfolding is_there
is_there_lem v e q = e ∙ ap is_there q

pub is_absent : {g : Got} {there : Bool} → there ≡ is_there g → g ≡ absent → there ≡ false
unfolding is_there
is_absent e q = e ∙ ap is_there q

-- THE FRONT of a chain that does not have the key, and of a chain whose front has it
module _ {X : Type 0} (f : ℕ → X) (e : Entry) where
  front_new : (xs : List (Item X)) → find e.hash e.key xs ≡ absent → push_front f e xs ≡ item (f 0) e ∷ xs
  unfolding push_front list_remove_first if_got
  front_new xs a = rw a

  front_again : (x : Item X) (xs : List (Item X)) → matches e.hash e.key x.entry ≡ true
      → push_front f e (x ∷ xs) ≡ item (f 0) e ∷ xs
  unfolding push_front list_remove_first if_got
  front_again x xs p = rw (find_hit e.hash e.key x xs p, copied_hit f 1 e.hash e.key x xs p)

module _ (seg : ℕ → ℕ → ℕ) {X : Type 0} (e : Entry) where
  -- a single of another key, seen from any depth
  pub missed : (n t : ℕ) (x : Item X) → matches e.hash e.key x.entry ≡ false
      → get_node seg n t e.hash e.key (leaf (x ∷ [])) ≡ absent
  missed n t x p =
      rw (chain-leaf seg n t e.hash (x ∷ [])) (find_miss e.hash e.key x [] p ∙ find_none X e.hash e.key)

  -- and of its own
  pub met : (n t : ℕ) (x : Item X) → matches e.hash e.key x.entry ≡ true
      → get_node seg n t e.hash e.key (leaf (x ∷ [])) ≡ got x.entry.value
  met n t x p = rw (chain-leaf seg n t e.hash (x ∷ [])) (find_hit e.hash e.key x [] p)

  -- one branch above a single
  one_above : (b f : ℕ → X) (n t : ℕ) (ks : Kids X)
      → 1 ≡ along seg (λ (x : X). 1) (suc n) t e.hash (branch (b t) (put (seg t e.hash) (single f e) ks))
  one_above b f n t ks =
      omega (
        arith,
        along-found seg (λ (x : X). 1) n t e.hash (b t) _ (single f e) (child-put (seg t e.hash) (single f e) ks),
        along-leaf seg (λ (x : X). 1) n (suc t) e.hash (item (f 0) e ∷ []),
      )

module _ {seg : ℕ → ℕ → ℕ} {W : Entry → Type 0} {X : Type 0} {b : ℕ → X} {f : ℕ → X} {e : Entry} where
  -- the chain at the end of the new path
  unfoldable pub leaf_of : {n : ℕ} {path : List ℕ} {m m' : Node X} → InsertCase seg W b f e n path m m' → List (Item X)
  leaf_of (in_chain xs) = push_front f e xs
  leaf_of (replaced x p) = item (f 0) e ∷ []
  leaf_of (deeper x p q r) = leaf_of r
  leaf_of (apart x p q) = item (f 0) e ∷ []
  leaf_of (new_child c ks asc all r) = item (f 0) e ∷ []
  leaf_of (in_child c ks asc all r i) = leaf_of i

  -- how many branches are made
  unfoldable pub cost_of : {n : ℕ} {path : List ℕ} {m m' : Node X} → InsertCase seg W b f e n path m m' → ℕ
  cost_of (in_chain xs) = 0
  cost_of (replaced x p) = 0
  cost_of (deeper x p q r) = suc (cost_of r)
  cost_of (apart x p q) = 1
  cost_of (new_child c ks asc all r) = 1
  cost_of (in_child c ks asc all r i) = suc (cost_of i)

  -- what stands behind the new entry, if its key was not there
  unfoldable pub rest_of : {n : ℕ} {path : List ℕ} {m m' : Node X} → InsertCase seg W b f e n path m m' → List (Item X)
  rest_of (in_chain xs) = xs
  rest_of (replaced x p) = []
  rest_of (deeper x p q r) = rest_of r
  rest_of (apart x p q) = []
  rest_of (new_child c ks asc all r) = []
  rest_of (in_child c ks asc all r i) = rest_of i

  -- as many as stand on the hash's path in the result
  pub cost_along : {n : ℕ} {path : List ℕ} {m m' : Node X} (c : InsertCase seg W b f e n path m m')
      → cost_of c ≡ along seg (λ (x : X). 1) n (length path) e.hash m'
  unfolding cost_of
  cost_along {path = path} (in_chain xs) = sym (along-leaf seg (λ (x : X). 1) 0 (length path) e.hash _)
  cost_along (replaced {n = n} {path = path} x p) = sym (along-leaf seg (λ (x : X). 1) (suc n) (length path) e.hash _)
  cost_along (deeper {n = n} {path = path} {m = m} x p q r) =
      omega (
        arith,
        cost_along r,
        along-found seg (λ (x : X). 1) n (length path) e.hash (b (length path)) _ m
            (child_hit (seg (length path) e.hash) (seg (length path) e.hash) m none refl),
      )
  cost_along (apart {n = n} {path = path} x p q) = one_above seg e b f n (length path) _
  cost_along (new_child {n = n} {path = path} c ks asc all r) = one_above seg e b f n (length path) ks
  cost_along (in_child {n = n} {path = path} {m' = m'} c ks asc all r i) =
      omega (
        arith,
        cost_along i,
        along-found seg (λ (x : X). 1) n (length path) e.hash (b (length path)) _ m'
            (child-put (seg (length path) e.hash) m' ks),
      )

  -- where the key is there, it is the old chain with the new entry in front
  pub leaf_there : {n : ℕ} {path : List ℕ} {m m' : Node X} (c : InsertCase seg W b f e n path m m') (v : ℕ)
      → get_node seg n (length path) e.hash e.key m ≡ got v
      → leaf_of c ≡ push_front f e (chain seg n (length path) e.hash m)
  unfolding leaf_of
  leaf_there {path = path} (in_chain xs) v g = ap (push_front f e) (sym (chain-leaf seg 0 (length path) e.hash xs))
  leaf_there (replaced {n = n} {path = path} x p) v g =
      rw (chain-leaf seg (suc n) (length path) e.hash (x ∷ []), front_again f e x [] p)
  leaf_there (deeper {n = n} {path = path} x p q r) v g = absurd (got-absent v _ g (missed seg e (suc n) (length path) x p))
  leaf_there (apart {n = n} {path = path} x p q) v g = absurd (got-absent v _ g (missed seg e (suc n) (length path) x p))
  leaf_there (new_child {n = n} {path = path} c ks asc all r) v g =
      absurd (got-absent v _ (rw (hop_missing seg n (length path) e.hash c ks r) at g) (find_none X e.hash e.key))
  leaf_there (in_child {n = n} {path = path} {m = m} c ks asc all r i) v g =
      rw (hop_found seg n (length path) e.hash c ks m r)
      (leaf_there i v (rw (hop_found seg n (length path) e.hash c ks m r) at g))

  -- where it is not, the new entry in front of what stands behind it
  pub leaf_new : {n : ℕ} {path : List ℕ} {m m' : Node X} (c : InsertCase seg W b f e n path m m')
      → get_node seg n (length path) e.hash e.key m ≡ absent → leaf_of c ≡ item (f 0) e ∷ rest_of c
  unfolding leaf_of rest_of
  leaf_new {path = path} (in_chain xs) a =
      front_new f e xs (rw (chain-leaf seg 0 (length path) e.hash xs) at a)
  leaf_new (replaced {n = n} {path = path} x p) a =
      absurd (got-absent x.entry.value _ (met seg e (suc n) (length path) x p) a)
  leaf_new (deeper {n = n} {path = path} x p q r) a = leaf_new r (missed seg e n (suc (length path)) x p)
  leaf_new (apart x p q) a = refl
  leaf_new (new_child c ks asc all r) a = refl
  leaf_new (in_child {n = n} {path = path} {m = m} c ks asc all r i) a =
      leaf_new i (rw (hop_found seg n (length path) e.hash c ks m r) at a)
