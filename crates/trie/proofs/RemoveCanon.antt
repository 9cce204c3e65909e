-- Remove keeps a trie canonical: what is left of a node is nothing, if it was a single, or a canonical node.
use mathlib.Core.Path.{◌≡◌, refl, ◌∙◌, ap}
use mathlib.Core.Bool.{true, false}
use mathlib.Core.Logic.{◌⊎◌, inl, inr, ⊎_elim}
use mathlib.Core.List.{List, [], ◌∷◌}
use Prim.Native.Nat.{ℕ, zero, suc}
use native.Mathlib.Omega.{arith}
use lib.ListN.{length}
use Rattle.cases.proofs.Cases.{split}
use Rattle.trie.specs.Canon.{Asc, AllKids, Some, Big, Busy, AllItems, NonEmpty, Under, In, Canon}
use Rattle.trie.specs.declared.Entry.{Entry}
use Rattle.trie.specs.Entry.{matches, got, if_got}
use Rattle.trie.specs.Trie.{branch, Item, leaf, Node, Kids, none, kid, found, child, put, take_out, list_remove_first, get_node, is_empty, is_single, settle, compress, remove_node, every}
use Rattle.trie.proofs.ChainLaws.{find_hit, find_miss, copied_hit, all_removed, Distinct-removed}
use Rattle.trie.proofs.InsertCanon.{Busy-Some, removed_two, removed_absent}
use Rattle.trie.proofs.KidsLaws.{Asc-put, Asc-take, all_put, all_take, all_child, Some-put, Some-take}
use Rattle.trie.proofs.PathLaws.{find_none, hop_missing}
use Rattle.trie.proofs.RemoveCases.{settle_empty, settle_full, RemoveCase, at_leaf, not_below, below, remove_case}

module _ (seg : ℕ → ℕ → ℕ) (W : Entry → Type 0) {X : Type 0} where
  pub single_up : (n : ℕ) (path : List ℕ) (s : ℕ) (x : Item X) → Canon seg W Busy n (s ∷ path) (leaf (x ∷ []))
      → (seg (length path) x.entry.hash ≡ s) × In seg W path x.entry
  unfolding Canon AllItems Under
  single_up zero path s x (a, (((q, u), w), y), d) = (q, (u, w))
  single_up (suc n) path s x ((q, u), w) = (q, (u, w))

  pub Canon-some : (n : ℕ) (path : List ℕ) (xs : List (Item X)) → Canon seg W Busy n path (leaf xs) → NonEmpty xs
  unfolding Canon NonEmpty
  Canon-some zero path xs (a, d, e) = a
  Canon-some (suc n) path [] a = a
  Canon-some (suc n) path (x ∷ []) a = tt
  Canon-some (suc n) path (x ∷ (y ∷ ys)) a = tt

  pub Canon-kids : (n : ℕ) (path : List ℕ) (c : X) (ks : Kids X) → Canon seg W Busy n path (branch c ks) → Some ks
  unfolding Canon Busy Some
  Canon-kids zero path c ks a = absurd a
  Canon-kids (suc n) path c none (q, a, b) = q
  Canon-kids (suc n) path c (kid s m ks) (q, a, b) = tt

  pub Canon-full : (n : ℕ) (path : List ℕ) (m : Node X) → Canon seg W Busy n path m → is_empty m ≡ false
  unfolding is_empty
  Canon-full n path (leaf []) c = absurd (unfold NonEmpty in (Canon-some n path [] c))
  Canon-full n path (leaf (x ∷ xs)) c = refl
  Canon-full n path (branch d none) c = absurd (unfold Some in (Canon-kids n path d none c))
  Canon-full n path (branch d (kid s m ks)) c = refl

  compress-Canon : (n : ℕ) (path : List ℕ) (c : X) (ks : Kids X) → Some ks → Asc ks
      → AllKids (λ s m. Canon seg W Busy n (s ∷ path) m) ks
      → Canon seg W Busy (suc n) path (compress c ks)
  unfolding Canon compress is_single Busy Some AllKids Big
  compress-Canon n path c none some asc all = absurd some
  compress-Canon n path c (kid s (leaf []) none) some asc all = absurd (unfold NonEmpty in (Canon-some n (s ∷ path) [] all.0))
  compress-Canon n path c (kid s (leaf (x ∷ [])) none) some asc all = (single_up n path s x all.0).1
  compress-Canon n path c (kid s (leaf (x ∷ (y ∷ xs))) none) some asc all = (tt, asc, all)
  compress-Canon n path c (kid s (branch d ks) none) some asc all = (tt, asc, all)
  compress-Canon n path c (kid s m (kid i l ks)) some asc all = (tt, asc, all)

  -- what is left of a canonical node
  abbrev pub Left : ℕ → List ℕ → Node X → Node X → Type 0
  Left n path m m' = ((m' ≡ leaf []) × (Big m → ⊥)) ⊎ Canon seg W Busy n path m'

  -- a child of which this is left is taken out, or put back
  pub settle-Left : (A : Kids X → Type 0) (n : ℕ) (path : List ℕ) (s : ℕ) (ks : Kids X) (m m' : Node X)
      → (m' ≡ leaf [] → (Big m → ⊥) → A (take_out s ks)) → (Canon seg W Busy n path m' → A (put s m' ks)) → Left n path m m'
      → A (settle s ks m')
  unfolding is_empty
  settle-Left A n path s ks m m' out back (inl (q, small)) = rw (q, settle_empty s ks (leaf []) refl) (out q small)
  settle-Left A n path s ks m m' out back (inr c) = rw (settle_full s ks m' (Canon-full n path m' c)) (back c)

  module _ (n : ℕ) (path : List ℕ) (s : ℕ) (ks : Kids X) (asc : Asc ks)
      (all : AllKids (λ s m. Canon seg W Busy n (s ∷ path) m) ks) (m m' : Node X) (l : Left n (s ∷ path) m m') where
    settle-Asc : Asc (settle s ks m')
    settle-Asc = settle-Left Asc n (s ∷ path) s ks m m' (λ q small. Asc-take s ks asc) (λ c. Asc-put s m' ks asc) l

    settle_all : AllKids (λ s m. Canon seg W Busy n (s ∷ path) m) (settle s ks m')
    settle_all =
        settle-Left (AllKids (λ s m. Canon seg W Busy n (s ∷ path) m)) n (s ∷ path) s ks m m'
        (λ q small. all_take (λ s m. Canon seg W Busy n (s ∷ path) m) s ks all)
        (λ c. all_put (λ s m. Canon seg W Busy n (s ∷ path) m) s m' ks c all) l

    settle-Some : Busy ks → child s ks ≡ found m → Some (settle s ks m')
    settle-Some busy r = settle-Left Some n (s ∷ path) s ks m m' (λ q small. Some-take s m ks busy r small)
        (λ c. Some-put s m' ks) l

module _ {X : Type 0} (f : ℕ → X) (j h k : ℕ) where
  -- only a single is emptied
  pub emptied : (xs : List (Item X)) → list_remove_first f j h k xs ≡ [] → Big (leaf xs) → ⊥
  unfolding Big NonEmpty
  emptied [] q a = a
  emptied (x ∷ []) q a = a
  emptied (x ∷ (y ∷ xs)) q a = rw q at (removed_two f j h k x y xs)

  pub removed_one : (x : Item X) → (list_remove_first f j h k (x ∷ []) ≡ []) ⊎ (list_remove_first f j h k (x ∷ []) ≡ x ∷ [])
  removed_one x =
      split (matches h k x.entry) (λ p. inl
      (unfold list_remove_first if_got in (rw (find_hit h k x [] p) (copied_hit f j h k x [] p))))
      (λ p. inr (removed_absent f j h k (x ∷ []) (find_miss h k x [] p ∙ find_none X h k)))

module _ (seg : ℕ → ℕ → ℕ) (W : Entry → Type 0) {X : Type 0} (b : ℕ → X) (f : ℕ → X) (h k : ℕ) where
  leaf-Left : (path : List ℕ) (xs : List (Item X)) → Canon seg W Busy 0 path (leaf xs) → (ys : List (Item X))
      → list_remove_first f 0 h k xs ≡ ys → Left seg W 0 path (leaf xs) (leaf ys)
  unfolding Canon NonEmpty
  leaf-Left path xs c [] q = inl (refl, emptied f 0 h k xs q)
  leaf-Left path xs (a, all, dist) (y ∷ ys) q =
      inr (tt, rw q at (all_removed (In seg W path) f 0 h k xs all), rw q at (Distinct-removed f 0 h k xs dist))

  pub remove_Left : {n : ℕ} {path : List ℕ} {m m' : Node X} → RemoveCase seg W b f h k n path m m' → Canon seg W Busy n path m
      → Left seg W n path m m'
  unfolding Canon Big
  remove_Left {n = zero} {path = path} (at_leaf xs) c = leaf-Left path xs c (list_remove_first f 0 h k xs) refl
  remove_Left {n = suc n} (at_leaf []) c = absurd c
  remove_Left {n = suc n} (at_leaf (x ∷ [])) c = ⊎_elim (λ q. inl (ap leaf q, λ z. z)) (λ q. inr (rw q c)) (removed_one f 0 h k x)
  remove_Left {n = suc n} (at_leaf (x ∷ (y ∷ xs))) c = absurd c
  remove_Left (not_below d ks asc all r) c = inr c
  remove_Left (below {n = n} {path = path} {m = m} {m' = m'} d ks asc all r i) (busy, up, every) =
      let l : Left seg W n (seg (length path) h ∷ path) m m' = remove_Left i (all_child _ (seg (length path) h) ks m all r) in
      inr (compress-Canon seg W n path (b (length path)) (settle (seg (length path) h) ks m')
      (settle-Some seg W n path (seg (length path) h) ks asc all m m' l busy r)
      (settle-Asc seg W n path (seg (length path) h) ks asc all m m' l)
      (settle_all seg W n path (seg (length path) h) ks asc all m m' l))

-- AT A ROOT nothing is left, or a node that asks for company as those below do: a lone single is never left under a root branch
module _ (seg : ℕ → ℕ → ℕ) (W : Entry → Type 0) {X : Type 0} where
  Canon-leaf : (n : ℕ) (path : List ℕ) (Q R : Kids X → Type 0) (xs : List (Item X)) → Canon seg W Q n path (leaf xs)
      → Canon seg W R n path (leaf xs)
  unfolding Canon
  Canon-leaf zero path Q R xs c = c
  Canon-leaf (suc n) path Q R [] c = c
  Canon-leaf (suc n) path Q R (x ∷ []) c = c
  Canon-leaf (suc n) path Q R (x ∷ (y ∷ xs)) c = c

  pub Canon-root : (n : ℕ) (path : List ℕ) (m : Node X) → Canon seg W Busy n path m → Canon seg W Some n path m
  unfolding Canon
  Canon-root n path (leaf xs) c = Canon-leaf n path Busy Some xs c
  Canon-root zero path (branch x ks) c = c
  Canon-root (suc n) path (branch x ks) (q, asc, all) = (Busy-Some ks q, asc, all)

module _ (seg : ℕ → ℕ → ℕ) (W : Entry → Type 0) {X : Type 0} (b : ℕ → X) (f : ℕ → X) (h k : ℕ) where
  root_kids : (n : ℕ) (path : List ℕ) (c : X) (ks : Kids X) → Asc ks → AllKids (λ s m. Canon seg W Busy n (s ∷ path) m) ks
      → (is_empty (compress c ks) ≡ true) ⊎ Canon seg W Busy (suc n) path (compress c ks)
  unfolding is_empty compress Some
  root_kids n path c none asc all = inl refl
  root_kids n path c (kid s m ks) asc all = inr (compress-Canon seg W n path c (kid s m ks) tt asc all)

  root_left : {n : ℕ} {path : List ℕ} {m m' : Node X} → RemoveCase seg W b f h k n path m m' → (v : ℕ)
      → get_node seg n (length path) h k m ≡ got v → Canon seg W Some n path m
      → (is_empty m' ≡ true) ⊎ Canon seg W Busy n path m'
  root_left {n = n} {path = path} (at_leaf xs) v g c =
      ⊎_elim (λ q. inl (rw q.0 (unfold is_empty in refl))) (λ a. inr a)
      (remove_Left seg W b f h k (at_leaf {n = n} {path = path} xs) (Canon-leaf seg W n path Some Busy xs c))
  root_left (not_below {n = n} {path = path} d ks asc all r) v g c = let z : ◌≡◌ {A = ℕ} 0 1
      = cc (find_none X h k, hop_missing seg n (length path) h d ks r) in absurd (omega arith)
  root_left (below {n = n} {path = path} {m = m} {m' = m'} d ks asc all r i) v g c =
      let l : Left seg W n (seg (length path) h ∷ path) m m'
      = remove_Left seg W b f h k i (all_child _ (seg (length path) h) ks m all r) in
      root_kids n path (b (length path)) (settle (seg (length path) h) ks m')
      (settle-Asc seg W n path (seg (length path) h) ks asc all m m' l)
      (settle_all seg W n path (seg (length path) h) ks asc all m m' l)

  pub root_remove : (n : ℕ) (path : List ℕ) (m : Node X) (v : ℕ) → Canon seg W Some n path m → get_node seg n (length path) h k m
      ≡ got v
      → (is_empty (remove_node seg b f n (length path) h k m) ≡ true)
      ⊎ Canon seg W Busy n path (remove_node seg b f n (length path) h k m)
  root_remove n path m v c g = root_left (remove_case seg W b f h k n path Some m c) v g c
