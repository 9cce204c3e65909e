-- Insert keeps a trie canonical: the new entry stands under its path, and a branch that it makes or meets has company below it.
use mathlib.Core.Path.{◌≡◌, refl, sym, ◌∙◌, subst}
use mathlib.Core.Bool.{false}
use mathlib.Core.List.{List, [], ◌∷◌}
use Prim.Native.Nat.{ℕ, zero, suc}
use native.Mathlib.Omega.{arith}
use lib.ListN.{length}
use Rattle.cases.proofs.Cases.{split, Tri, is_less, is_equal, is_more, tri}
use Rattle.trie.specs.Canon.{Above, Asc, AllKids, Some, Big, Busy, AllItems, Distinct, NonEmpty, Under, In, Canon}
use Rattle.trie.specs.declared.Entry.{Entry}
use Rattle.trie.specs.Entry.{matches, Got, absent, got, if_got}
use Rattle.trie.specs.Trie.{Item, leaf, single, Node, Kids, none, kid, found, child, put, item, find, copied, list_remove_first, push_front, insert_node, every}
use Rattle.trie.proofs.ChainLaws.{find_miss, copied_hit, copied_miss, find_removed_same, all_removed, Distinct-removed}
use Rattle.trie.proofs.InsertCases.{single_down, InsertCase, in_chain, replaced, deeper, apart, new_child, in_child, insert_case}
use Rattle.trie.proofs.KidsLaws.{put_less, put_more, Asc-put, all_put, all_child, Some-put, Busy-put}
use Rattle.trie.proofs.Matches.{not_both}
use Rattle.trie.proofs.PathLaws.{find_none}

-- what may be asked of a branch's children: of a root's, and of all others'
pub record Ask {X : Type 0} (Q : Kids X → Type 0) : Type 0 where
  pub of_busy : (ks : Kids X) → Busy ks → Q ks
  pub of_put : (s : ℕ) (n : Node X) (ks : Kids X) → Q ks → ((m : Node X) → child s ks ≡ found m → Big m → Big n) → Q (put s n ks)

pub Ask-Busy : (X : Type 0) → Ask {X = X} Busy
Ask-Busy X = record { of_busy = λ ks a. a; of_put = λ s n ks a big. Busy-put s n ks a big }

pub Busy-Some : {X : Type 0} (ks : Kids X) → Busy ks → Some ks
unfolding Busy Some
Busy-Some none a = a
Busy-Some (kid s m ks) a = tt

pub Ask-Some : (X : Type 0) → Ask {X = X} Some
Ask-Some X = record { of_busy = Busy-Some; of_put = λ s n ks a big. Some-put s n ks }

module _ {X : Type 0} where
  pub Big-two : (x : Item X) (xs : List (Item X)) → NonEmpty xs → Big (leaf (x ∷ xs))
  unfolding Big NonEmpty
  Big-two x [] a = a
  Big-two x (y ∷ ys) a = tt

  pub Busy-apart : (s i : ℕ) (n m : Node X) → (i ≡ s → ⊥) → Busy (put s n (kid i m none))
  unfolding Busy put
  Busy-apart s i n m ne = go (tri s i)
    where
      go : Tri s i → Busy (put s n (kid i m none))
      go (is_less q) = rw (put_less s i n m none q) tt
      go (is_equal q) = absurd (ne (sym q))
      go (is_more q) = rw (put_more s i n m none q) tt

  pub copied_two : (f : ℕ → X) (j h k : ℕ) (x y : Item X) (xs : List (Item X)) → NonEmpty (copied f j h k (x ∷ (y ∷ xs)))
  unfolding NonEmpty
  copied_two f j h k x y xs = split (matches h k x.entry) (λ p. rw (copied_hit f j h k x (y ∷ xs) p) tt)
      (λ p. rw (copied_miss f j h k x (y ∷ xs) p) tt)

  pub removed_two : (f : ℕ → X) (j h k : ℕ) (x y : Item X) (xs : List (Item X))
      → NonEmpty (list_remove_first f j h k (x ∷ (y ∷ xs)))
  unfolding list_remove_first if_got
  removed_two f j h k x y xs = go (find h k (x ∷ (y ∷ xs)))
    where
      go : (o : Got) → NonEmpty (if_got o (copied f j h k (x ∷ (y ∷ xs))) (x ∷ (y ∷ xs)))
      go absent = unfold NonEmpty in tt
      go (got v) = copied_two f j h k x y xs

  pub removed_absent : (f : ℕ → X) (j h k : ℕ) (xs : List (Item X)) → find h k xs ≡ absent → list_remove_first f j h k xs ≡ xs
  unfolding list_remove_first if_got
  removed_absent f j h k xs q = rw q

module _ (seg : ℕ → ℕ → ℕ) (W : Entry → Type 0) {X : Type 0} (b : ℕ → X) (f : ℕ → X) (e : Entry) where
  -- what is no single stays none
  Big-insert : {n : ℕ} {path : List ℕ} {m m' : Node X} → InsertCase seg W b f e n path m m' → Canon seg W Busy n path m → Big m
      → Big m'
  unfolding Big push_front
  Big-insert (in_chain []) c a = absurd a
  Big-insert (in_chain (x ∷ [])) c a = absurd a
  Big-insert (in_chain (x ∷ (y ∷ xs))) c a = Big-two (item (f 0) e) _ (removed_two f 1 e.hash e.key x y xs)
  Big-insert (replaced x p) c a = absurd a
  Big-insert (deeper x p q r) c a = absurd a
  Big-insert (apart x p q) c a = absurd a
  Big-insert (new_child d ks asc all r) c a = tt
  Big-insert (in_child d ks asc all r i) c a = tt

  -- a single that gets company is none
  Big-company : (x : Item X) → matches e.hash e.key x.entry ≡ false → {n : ℕ} {path : List ℕ} {m : Node X}
      → InsertCase seg W b f e n path (leaf (x ∷ [])) m → Big m
  unfolding Big push_front
  Big-company x ne (in_chain xs) =
      rw (removed_absent f 1 e.hash e.key (x ∷ []) (find_miss e.hash e.key x [] ne ∙ find_none X e.hash e.key))
      tt
  Big-company x ne (replaced y p) = absurd (not_both e.hash e.key x.entry p ne)
  Big-company x ne (deeper y p q r) = tt
  Big-company x ne (apart y p q) = tt

  -- a single, new
  pub Canon-single : (n : ℕ) (path : List ℕ) (Q : Kids X → Type 0) → In seg W path e → Canon seg W Q n path (single f e)
  unfolding Canon NonEmpty AllItems Distinct
  Canon-single zero path Q i = (tt, (i, tt), (find_none X e.hash e.key, tt))
  Canon-single (suc n) path Q i = i

  down : (path : List ℕ) → In seg W path e → In seg W (seg (length path) e.hash ∷ path) e
  unfolding Under
  down path (u, w) = ((refl, u), w)

  insert_Canon : {n : ℕ} {path : List ℕ} {m m' : Node X} → InsertCase seg W b f e n path m m' → (Q : Kids X → Type 0) → Ask Q
      → Canon seg W Q n path m → In seg W path e
      → Canon seg W Q n path m'
  unfolding Canon Asc Above AllKids NonEmpty AllItems Distinct
  insert_Canon {path = path} (in_chain xs) Q ask (some, all, dist) i =
      unfold push_front in (
        tt,
        (i, all_removed (In seg W path) f 1 e.hash e.key xs all),
        (find_removed_same f 1 e.hash e.key xs dist, Distinct-removed f 1 e.hash e.key xs dist),
      )
  insert_Canon (replaced x p) Q ask c i = i
  insert_Canon (deeper {n = n} {path = path} x p q r) Q ask c i = (
    ask.of_busy _ (unfold Busy in (Big-company x p r)),
    tt,
    (insert_Canon r Busy (Ask-Busy X) (single_down seg W n path x (seg (length path) e.hash) q c) (down path i), tt),
  )
  insert_Canon (apart {n = n} {path = path} x p q) Q ask c i =
      let ks : Kids X = kid (seg (length path) x.entry.hash) (leaf (x ∷ [])) none in (
        ask.of_busy _ (Busy-apart (seg (length path) e.hash) (seg (length path) x.entry.hash) (single f e) (leaf (x ∷ []))
            q),
        Asc-put (seg (length path) e.hash) (single f e) ks tt,
        all_put (λ s m. Canon seg W Busy n (s ∷ path) m) (seg (length path) e.hash) (single f e) ks
            (Canon-single n (seg (length path) e.hash ∷ path) Busy (down path i))
            (single_down seg W n path x (seg (length path) x.entry.hash) refl c, tt),
      )
  insert_Canon (new_child {n = n} {path = path} d ks asc all r) Q ask (q, up, every) i = (
    ask.of_put (seg (length path) e.hash) (single f e) ks q (λ m z. absurd (let w : ◌≡◌ {A = ℕ} 0 1 = cc in omega arith)),
    Asc-put (seg (length path) e.hash) (single f e) ks asc,
    all_put (λ s m. Canon seg W Busy n (s ∷ path) m) (seg (length path) e.hash) (single f e) ks
        (Canon-single n (seg (length path) e.hash ∷ path) Busy (down path i)) all,
  )
  insert_Canon (in_child {n = n} {path = path} {m = m} {m' = m'} d ks asc all r j) Q ask (q, up, every) i =
      let cm : Canon seg W Busy n (seg (length path) e.hash ∷ path) m
      = all_child _ (seg (length path) e.hash) ks m all r in (
        ask.of_put (seg (length path) e.hash) m' ks q (λ l y a. Big-insert j cm (subst Big (one l y) a)),
        Asc-put (seg (length path) e.hash) m' ks asc,
        all_put (λ s m. Canon seg W Busy n (s ∷ path) m) (seg (length path) e.hash) m' ks
            (insert_Canon j Busy (Ask-Busy X) cm (down path i)) all,
      )
    where
      one : (l : Node X) → child (seg (length path) e.hash) ks ≡ found l → l ≡ m
      one l y = cc

  pub Canon-insert : (n : ℕ) (path : List ℕ) (Q : Kids X → Type 0) → Ask Q → (m : Node X) → Canon seg W Q n path m
      → In seg W path e
      → Canon seg W Q n path (insert_node seg b f n (length path) e m)
  Canon-insert n path Q ask m c i = insert_Canon (insert_case seg W b f e n path Q m c) Q ask c i
