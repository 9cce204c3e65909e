-- What remove makes of a canonical node, case by case. A proof about remove goes by these cases; nothing else looks into its
-- definition.
use mathlib.Core.Path.{◌≡◌, refl, ◌∙◌, ap}
use mathlib.Core.Bool.{true, false}
use mathlib.Core.List.{List, [], ◌∷◌}
use Prim.Native.Nat.{ℕ, zero, suc}
use lib.ListN.{length}
use Rattle.cases.proofs.Cases.{split}
use Rattle.trie.specs.Canon.{Asc, AllKids, Busy, Canon}
use Rattle.trie.specs.declared.Entry.{Entry}
use Rattle.trie.specs.Trie.{branch, Item, leaf, Node, Kids, none, kid, Found, missing, found, on_found, child, put, take_out, list_remove_first, is_empty, is_single, settle, compress, remove_node}
use Rattle.trie.proofs.KidsLaws.{child-put_other, child_take_other, all_child}

-- at a branch, and at a leaf
module _ (seg : ℕ → ℕ → ℕ) {X : Type 0} (b : ℕ → X) (f : ℕ → X) (n t h k : ℕ) (c : X) (ks : Kids X) where
  pub remove_not : child (seg t h) ks ≡ missing → remove_node seg b f (suc n) t h k (branch c ks) ≡ branch c ks
  unfolding remove_node on_found
  remove_not q = rw q

  pub remove_at : (m : Node X) → child (seg t h) ks ≡ found m → remove_node seg b f (suc n) t h k (branch c ks)
      ≡ compress (b t) (settle (seg t h) ks (remove_node seg b f n (suc t) h k m))
  unfolding remove_node on_found
  remove_at m q = rw q

module _ (seg : ℕ → ℕ → ℕ) {X : Type 0} (b : ℕ → X) (f : ℕ → X) where
  pub remove_leaf : (n t h k : ℕ) (xs : List (Item X)) → remove_node seg b f n t h k (leaf xs)
      ≡ leaf (list_remove_first f 0 h k xs)
  unfolding remove_node
  remove_leaf zero t h k xs = refl
  remove_leaf (suc n) t h k xs = refl

-- compress alters only a branch over a lone single
pub data Pressed {X : Type 0} (c : X) : Kids X → Node X → Type 0 where
  lone : (s : ℕ) (x : Item X) → Pressed c (kid s (leaf (x ∷ [])) none) (leaf (x ∷ []))
  stays : (ks : Kids X) → Pressed c ks (branch c ks)

pub pressed : {X : Type 0} (c : X) (ks : Kids X) → Pressed c ks (compress c ks)
unfolding compress is_single
pressed c none = stays none
pressed c (kid s (leaf []) none) = stays (kid s (leaf []) none)
pressed c (kid s (leaf (x ∷ [])) none) = lone s x
pressed c (kid s (leaf (x ∷ (y ∷ xs))) none) = stays (kid s (leaf (x ∷ (y ∷ xs))) none)
pressed c (kid s (branch d ks) none) = stays (kid s (branch d ks) none)
pressed c (kid s n (kid i m ks)) = stays (kid s n (kid i m ks))

-- a settled child is put back, or taken out where it is empty
module _ {X : Type 0} (s : ℕ) (ks : Kids X) (m : Node X) where
  pub settle_empty : is_empty m ≡ true → settle s ks m ≡ take_out s ks
  unfolding settle
  settle_empty p = rw p

  pub settle_full : is_empty m ≡ false → settle s ks m ≡ put s m ks
  unfolding settle
  settle_full p = rw p

-- OFF THE PATH every child stays the node that it was, names and all
module _ {X : Type 0} (r s : ℕ) (ks : Kids X) (ne : s ≡ r → ⊥) where
  pub put_off_path : (m : Node X) → child r (put s m ks) ≡ child r ks
  put_off_path m = child-put_other r s m ks ne

  pub settle_off_path : (m : Node X) → child r (settle s ks m) ≡ child r ks
  settle_off_path m =
      split (is_empty m) (λ p. ap (child r) (settle_empty s ks m p) ∙ child_take_other r s ks ne)
      (λ p. ap (child r) (settle_full s ks m p) ∙ child-put_other r s m ks ne)

module _ (seg : ℕ → ℕ → ℕ) (W : Entry → Type 0) {X : Type 0} (b : ℕ → X) (f : ℕ → X) (h k : ℕ) where
  -- THE CASES: the depths left, the path above, the node before and the node after
  pub data RemoveCase : ℕ → List ℕ → Node X → Node X → Type 0 where
    at_leaf : {n : ℕ} {path : List ℕ} (xs : List (Item X)) → RemoveCase n path (leaf xs) (leaf (list_remove_first f 0 h k xs))
    not_below : {n : ℕ} {path : List ℕ} (c : X) (ks : Kids X) → Asc ks → AllKids (λ s m. Canon seg W Busy n (s ∷ path) m) ks
        → child (seg (length path) h) ks ≡ missing → RemoveCase (suc n) path (branch c ks) (branch c ks)
    below : {n : ℕ} {path : List ℕ} {m m' : Node X} (c : X) (ks : Kids X) → Asc ks
        → AllKids (λ s m. Canon seg W Busy n (s ∷ path) m) ks
        → child (seg (length path) h) ks ≡ found m → RemoveCase n (seg (length path) h ∷ path) m m'
        → RemoveCase (suc n) path (branch c ks) (compress (b (length path)) (settle (seg (length path) h) ks m'))

  pub remove_case : (n : ℕ) (path : List ℕ) (Q : Kids X → Type 0) (m : Node X) → Canon seg W Q n path m
      → RemoveCase n path m (remove_node seg b f n (length path) h k m)
  unfolding Canon
  remove_case zero path Q (leaf xs) c = rw (remove_leaf seg b f 0 (length path) h k xs) (at_leaf xs)
  remove_case zero path Q (branch d ks) c = absurd c
  remove_case (suc n) path Q (leaf xs) c = rw (remove_leaf seg b f (suc n) (length path) h k xs) (at_leaf xs)
  remove_case (suc n) path Q (branch d ks) (q, asc, all)
      = go (λ m c. remove_case n (seg (length path) h ∷ path) Busy m c) (child (seg (length path) h) ks) refl
    where
      go : ((m : Node X) → Canon seg W Busy n (seg (length path) h ∷ path) m
          → RemoveCase n (seg (length path) h ∷ path) m (remove_node seg b f n (suc (length path)) h k m))
          → (o : Found X) → child (seg (length path) h) ks ≡ o
          → RemoveCase (suc n) path (branch d ks) (remove_node seg b f (suc n) (length path) h k (branch d ks))
      go ih missing r = rw (remove_not seg b f n (length path) h k d ks r) (not_below d ks asc all r)
      go ih (found m) r = rw (remove_at seg b f n (length path) h k d ks m r)
          (below d ks asc all r (ih m (all_child _ (seg (length path) h) ks m all r)))
