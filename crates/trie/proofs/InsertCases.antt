-- What insert makes of a canonical node, case by case. A proof about insert goes by these cases; nothing else looks into its
-- definition.
use mathlib.Core.Path.{◌≡◌, refl}
use mathlib.Core.Bool.{true, false}
use mathlib.Core.Logic.{⊎_elim}
use mathlib.Core.List.{List, [], ◌∷◌}
use Prim.Native.Nat.{ℕ, zero, suc}
use lib.ListN.{length}
use borrow.Author.Tests.{eq-eqb, ne_eqb}
use Rattle.cases.proofs.Cases.{split, eq?}
use Rattle.trie.specs.Canon.{Asc, AllKids, Busy, AllItems, Distinct, NonEmpty, Under, In, Canon}
use Rattle.trie.specs.declared.Entry.{Entry}
use Rattle.trie.specs.Entry.{matches}
use Rattle.trie.specs.Trie.{branch, Item, leaf, single, Node, Kids, none, kid, Found, missing, found, on_found, child, put, push_front, insert_node}
use Rattle.trie.proofs.KidsLaws.{all_child}
use Rattle.trie.proofs.PathLaws.{find_none}

-- at a leaf above the last depth
module _ (seg : ℕ → ℕ → ℕ) {X : Type 0} (b : ℕ → X) (f : ℕ → X) (n t : ℕ) (e : Entry) (x : Item X) (xs : List (Item X)) where
  pub insert_same : matches e.hash e.key x.entry ≡ true → insert_node seg b f (suc n) t e (leaf (x ∷ xs)) ≡ single f e
  unfolding insert_node
  insert_same p = rw p

  pub insert_deep : matches e.hash e.key x.entry ≡ false → seg t x.entry.hash ≡ seg t e.hash
      → insert_node seg b f (suc n) t e (leaf (x ∷ xs))
      ≡ branch (b t) (kid (seg t e.hash) (insert_node seg b f n (suc t) e (leaf (x ∷ xs))) none)
  unfolding insert_node
  insert_deep p q = rw (p, eq-eqb (seg t x.entry.hash) (seg t e.hash) q)

  pub insert_apart : matches e.hash e.key x.entry ≡ false → (seg t x.entry.hash ≡ seg t e.hash → ⊥)
      → insert_node seg b f (suc n) t e (leaf (x ∷ xs))
      ≡ branch (b t) (put (seg t e.hash) (single f e) (kid (seg t x.entry.hash) (leaf (x ∷ xs)) none))
  unfolding insert_node
  insert_apart p q = rw (p, ne_eqb (seg t x.entry.hash) (seg t e.hash) q)

-- at a branch
module _ (seg : ℕ → ℕ → ℕ) {X : Type 0} (b : ℕ → X) (f : ℕ → X) (n t : ℕ) (e : Entry) (c : X) (ks : Kids X) where
  pub insert_new : child (seg t e.hash) ks ≡ missing → insert_node seg b f (suc n) t e (branch c ks)
      ≡ branch (b t) (put (seg t e.hash) (single f e) ks)
  unfolding insert_node on_found
  insert_new q = rw q

  pub insert_at : (m : Node X) → child (seg t e.hash) ks ≡ found m
      → insert_node seg b f (suc n) t e (branch c ks) ≡ branch (b t) (put (seg t e.hash) (insert_node seg b f n (suc t) e m) ks)
  unfolding insert_node on_found
  insert_at m q = rw q

module _ (seg : ℕ → ℕ → ℕ) (W : Entry → Type 0) {X : Type 0} where
  -- a single goes one depth down
  pub single_down : (n : ℕ) (path : List ℕ) (x : Item X) (s : ℕ) → seg (length path) x.entry.hash ≡ s
      → In seg W path x.entry → Canon seg W Busy n (s ∷ path) (leaf (x ∷ []))
  unfolding Canon NonEmpty AllItems Distinct Under
  single_down zero path x s e (u, w) = (tt, (((e, u), w), tt), (find_none X x.entry.hash x.entry.key, tt))
  single_down (suc n) path x s e (u, w) = ((e, u), w)

module _ (seg : ℕ → ℕ → ℕ) (W : Entry → Type 0) {X : Type 0} (b : ℕ → X) (f : ℕ → X) (e : Entry) where
  -- THE CASES: the depths left, the path above, the node before and the node after
  pub data InsertCase : ℕ → List ℕ → Node X → Node X → Type 0 where
    in_chain : {path : List ℕ} (xs : List (Item X)) → InsertCase zero path (leaf xs) (leaf (push_front f e xs))
    replaced : {n : ℕ} {path : List ℕ} (x : Item X) → matches e.hash e.key x.entry ≡ true
        → InsertCase (suc n) path (leaf (x ∷ [])) (single f e)
    deeper : {n : ℕ} {path : List ℕ} {m : Node X} (x : Item X) → matches e.hash e.key x.entry ≡ false
        → seg (length path) x.entry.hash ≡ seg (length path) e.hash
        → InsertCase n (seg (length path) e.hash ∷ path) (leaf (x ∷ [])) m
        → InsertCase (suc n) path (leaf (x ∷ [])) (branch (b (length path)) (kid (seg (length path) e.hash) m none))
    apart : {n : ℕ} {path : List ℕ} (x : Item X) → matches e.hash e.key x.entry ≡ false
        → (seg (length path) x.entry.hash ≡ seg (length path) e.hash → ⊥)
        → InsertCase (suc n) path (leaf (x ∷ []))
        (branch (b (length path)) (put (seg (length path) e.hash) (single f e)
        (kid (seg (length path) x.entry.hash) (leaf (x ∷ [])) none)))
    new_child : {n : ℕ} {path : List ℕ} (c : X) (ks : Kids X) → Asc ks → AllKids (λ s m. Canon seg W Busy n (s ∷ path) m) ks
        → child (seg (length path) e.hash) ks ≡ missing
        → InsertCase (suc n) path (branch c ks) (branch (b (length path)) (put (seg (length path) e.hash) (single f e) ks))
    in_child : {n : ℕ} {path : List ℕ} {m m' : Node X} (c : X) (ks : Kids X) → Asc ks
        → AllKids (λ s m. Canon seg W Busy n (s ∷ path) m) ks
        → child (seg (length path) e.hash) ks ≡ found m → InsertCase n (seg (length path) e.hash ∷ path) m m'
        → InsertCase (suc n) path (branch c ks) (branch (b (length path)) (put (seg (length path) e.hash) m' ks))

  pub insert_case : (n : ℕ) (path : List ℕ) (Q : Kids X → Type 0) (m : Node X) → Canon seg W Q n path m
      → InsertCase n path m (insert_node seg b f n (length path) e m)
  unfolding Canon
  insert_case zero path Q (leaf xs) c = unfold insert_node in (in_chain xs)
  insert_case zero path Q (branch d ks) c = absurd c
  insert_case (suc n) path Q (leaf []) c = absurd c
  insert_case (suc n) path Q (leaf (x ∷ (y ∷ xs))) c = absurd c
  insert_case (suc n) path Q (leaf (x ∷ [])) c =
      let t : ℕ = length path in
      split (matches e.hash e.key x.entry) (λ p. rw (insert_same seg b f n t e x [] p) (replaced x p))
      (λ p. ⊎_elim
      (λ q. rw (insert_deep seg b f n t e x [] p q)
      (deeper x p q (insert_case n (seg t e.hash ∷ path) Busy (leaf (x ∷ []))
      (single_down seg W n path x (seg t e.hash) q c))))
      (λ q. rw (insert_apart seg b f n t e x [] p q) (apart x p q)) (eq? (seg t x.entry.hash) (seg t e.hash)))
  insert_case (suc n) path Q (branch d ks) (q, asc, all)
      = go (λ m c. insert_case n (seg (length path) e.hash ∷ path) Busy m c) (child (seg (length path) e.hash) ks) refl
    where
      go : ((m : Node X) → Canon seg W Busy n (seg (length path) e.hash ∷ path) m
          → InsertCase n (seg (length path) e.hash ∷ path) m (insert_node seg b f n (suc (length path)) e m))
          → (o : Found X) → child (seg (length path) e.hash) ks ≡ o
          → InsertCase (suc n) path (branch d ks) (insert_node seg b f (suc n) (length path) e (branch d ks))
      go ih missing r = rw (insert_new seg b f n (length path) e d ks r) (new_child d ks asc all r)
      go ih (found m) r = rw (insert_at seg b f n (length path) e d ks m r)
          (in_child d ks asc all r (ih m (all_child _ (seg (length path) e.hash) ks m all r)))
