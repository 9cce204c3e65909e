-- The listing after an update: insert comes to place, remove to cut. At a branch both touch only what stands at the hash's
-- segment; the lower segments are earlier and the higher ones later.
use mathlib.Core.Path.{◌≡◌, refl, sym, ◌∙◌, ap}
use mathlib.Core.Bool.{true, false}
use mathlib.Core.List.{List, [], ◌∷◌, ◌++◌, append-nil}
use Prim.Native.Nat.{ℕ, suc, ◌<◌}
use lib.ListN.{length}
use Rattle.trie.specs.Canon.{Above, Asc, AllKids, Canon}
use Rattle.trie.specs.declared.Entry.{Entry}
use Rattle.trie.specs.Listing.{All, cut, earlier, place}
use Rattle.trie.specs.Trie.{leaf, single, Node, Kids, none, kid, Found, missing, found, on_found, child, put, insert_node, settle, remove_node, listing_chain, listing_node, listing_kids}
use Rattle.trie.proofs.InsertCases.{InsertCase, in_chain, replaced, deeper, apart, new_child, in_child, insert_case}
use Rattle.trie.proofs.KidsLaws.{child_only, all_child}
use Rattle.trie.proofs.ListLaws.{cut_hit, All-weak}
use Rattle.trie.proofs.ListingLaws.{around, chain_remove, chain_insert, Around, high-Unmatched, cut_around, child_segment, Canon-Around}
use Rattle.trie.proofs.OrderLaws.{earlier_low, earlier_high, matched_late, place_stop, place_none, place_skip, place_left, place_last, place_down}
use Rattle.trie.proofs.RemoveCanon.{Left, settle-Left, remove_Left}
use Rattle.trie.proofs.RemoveCases.{lone, Pressed, stays, pressed, RemoveCase, at_leaf, not_below, below, remove_case}

-- AFTER INSERT
module _ (seg : ℕ → ℕ → ℕ) {X : Type 0} (n t : ℕ) (e : Entry) where
  put_lists : (ks : Kids X) → Around seg t (seg t e.hash) ks → (m : Node X) → listing_node m
      ≡ place seg (suc n) t e (on_found [] listing_node (child (seg t e.hash) ks))
      → listing_kids (put (seg t e.hash) m ks) ≡ place seg (suc n) t e (listing_kids ks)
  put_lists ks a m q =
      let old : List Entry = on_found [] listing_node (child (seg t e.hash) ks) in
      let later : All (λ x. earlier seg (suc n) t x.hash e.hash ≡ false) a.high
      = All-weak (λ x. seg t e.hash < seg t x.hash) (λ x. earlier seg (suc n) t x.hash e.hash ≡ false)
      (λ x l. earlier_high seg n t x.hash e.hash l) a.high a.higher in
      let sooner : All (λ x. earlier seg (suc n) t x.hash e.hash ≡ true) a.low
      = All-weak (λ x. seg t x.hash < seg t e.hash) (λ x. earlier seg (suc n) t x.hash e.hash ≡ true)
      (λ x l. earlier_low seg n t x.hash e.hash l) a.low a.lower in
      a.putting m ∙ ap (λ (l : List Entry). a.low ++ (l ++ a.high)) q
      ∙ ap (λ (l : List Entry). a.low ++ l) (sym
      (place_left seg (suc n) t e old a.high later (high-Unmatched seg t e.hash e.key a)))
      ∙ sym (place_skip seg (suc n) t e a.low (old ++ a.high) sooner) ∙ sym (ap (place seg (suc n) t e) a.whole)

module _ (seg : ℕ → ℕ → ℕ) (W : Entry → Type 0) {X : Type 0} (b : ℕ → X) (f : ℕ → X) (e : Entry) where
  -- put at a missing child, and at one that is there
  put_new_lists : (n t : ℕ) (ks : Kids X) → Around seg t (seg t e.hash) ks → child (seg t e.hash) ks ≡ missing
      → listing_kids (put (seg t e.hash) (single f e) ks) ≡ place seg (suc n) t e (listing_kids ks)
  unfolding listing_node listing_chain on_found
  put_new_lists n t ks a r = put_lists seg n t e ks a (single f e) (rw r (sym (place_none seg (suc n) t e)))

  put_old_lists : (n t : ℕ) (ks : Kids X) → Around seg t (seg t e.hash) ks → (m m' : Node X) → child (seg t e.hash) ks
      ≡ found m
      → All (λ x. seg t x.hash ≡ seg t e.hash) (listing_node m) → listing_node m' ≡ place seg n (suc t) e (listing_node m)
      → listing_kids (put (seg t e.hash) m' ks) ≡ place seg (suc n) t e (listing_kids ks)
  unfolding on_found
  put_old_lists n t ks a m m' r same ih = put_lists seg n t e ks a m'
      (rw r (ih ∙ sym (place_down seg n t e (listing_node m) same)))

  -- INSERT COMES TO PLACE
  insert_lists : {n : ℕ} {path : List ℕ} {m m' : Node X} → InsertCase seg W b f e n path m m' → listing_node m'
      ≡ place seg n (length path) e (listing_node m)
  unfolding listing_node listing_chain
  insert_lists {path = path} (in_chain xs) = chain_insert f e xs ∙ sym (place_last seg (length path) e (listing_chain xs))
  insert_lists (replaced {n = n} {path = path} x p) =
      rw (
        place_stop seg (suc n) (length path) e x.entry [] (matched_late seg (suc n) (length path) e x.entry p),
        cut_hit
            e.hash e.key x.entry [] p,
      )
  insert_lists (deeper {n = n} {path = path} {m = m} x p q r) =
      append-nil (listing_node m) ∙ insert_lists r ∙ sym (place_down seg n (length path) e (x.entry ∷ []) (unfold All in (q, tt)))
  insert_lists (apart {n = n} {path = path} x p q) =
      let ks : Kids X = kid (seg (length path) x.entry.hash) (leaf (x ∷ [])) none in
      put_new_lists n (length path) ks (around seg (length path) (seg (length path) e.hash) ks (unfold Asc Above in tt)
      (unfold AllKids All in ((refl, tt), tt)))
      (child_only (seg (length path) e.hash) (seg (length path) x.entry.hash) (leaf (x ∷ [])) q)
  insert_lists (new_child {n = n} {path = path} c ks asc all r) =
      put_new_lists n (length path) ks (Canon-Around seg W n path (seg (length path) e.hash) ks asc all) r
  insert_lists (in_child {n = n} {path = path} {m = m} {m' = m'} c ks asc all r i) =
      put_old_lists n (length path) ks (Canon-Around seg W n path (seg (length path) e.hash) ks asc all) m m' r
      (child_segment seg W n path (seg (length path) e.hash) m (all_child _ (seg (length path) e.hash) ks m all r))
      (insert_lists i)

  pub listing_insert : (n : ℕ) (path : List ℕ) (Q : Kids X → Type 0) (m : Node X) → Canon seg W Q n path m
      → listing_node (insert_node seg b f n (length path) e m) ≡ place seg n (length path) e (listing_node m)
  listing_insert n path Q m c = insert_lists (insert_case seg W b f e n path Q m c)

-- AFTER REMOVE
pub press_lists : {X : Type 0} {c : X} {ks : Kids X} {m : Node X} → Pressed c ks m → listing_node m ≡ listing_kids ks
unfolding listing_node listing_chain
press_lists (lone s x) = refl
press_lists (stays ks) = refl

module _ (seg : ℕ → ℕ → ℕ) (W : Entry → Type 0) {X : Type 0} (b : ℕ → X) (f : ℕ → X) (h k : ℕ) where
  settle_lists : (n : ℕ) (path : List ℕ) (t : ℕ) (ks : Kids X) (a : Around seg t (seg t h) ks) (m m' : Node X)
      → Left seg W n path m m'
      → listing_kids (settle (seg t h) ks m') ≡ a.low ++ (listing_node m' ++ a.high)
  unfolding listing_node listing_chain
  settle_lists n path t ks a m m' l =
      settle-Left seg W (λ is. listing_kids is ≡ a.low ++ (listing_node m' ++ a.high)) n path (seg t h) ks m m'
      (λ q small. a.taking ∙ ap (λ (z : Node X). a.low ++ (listing_node z ++ a.high)) (sym q)) (λ c. a.putting m') l

  -- REMOVE COMES TO CUT
  remove_lists : {n : ℕ} {path : List ℕ} {m m' : Node X} → RemoveCase seg W b f h k n path m m' → listing_node m'
      ≡ cut h k (listing_node m)
  unfolding listing_node on_found cut
  remove_lists (at_leaf xs) = chain_remove f 0 h k xs
  remove_lists (not_below {n = n} {path = path} c ks asc all r) =
      let a : Around seg (length path) (seg (length path) h) ks = Canon-Around seg W n path (seg (length path) h) ks asc all in
      a.whole ∙ ap (λ (o : Found X). a.low ++ (on_found [] listing_node o ++ a.high)) r
      ∙ sym (cut_around seg (length path) h k a
      ∙ ap (λ (o : Found X). a.low ++ (cut h k (on_found [] listing_node o) ++ a.high)) r)
  remove_lists (below {n = n} {path = path} {m = m} {m' = m'} c ks asc all r i) =
      let t : ℕ = length path in
      let a : Around seg t (seg t h) ks = Canon-Around seg W n path (seg t h) ks asc all in
      press_lists (pressed (b t) (settle (seg t h) ks m'))
      ∙ settle_lists n (seg t h ∷ path) t ks a m m' (remove_Left seg W b f h k i (all_child _ (seg t h) ks m all r))
      ∙ ap (λ (l : List Entry). a.low ++ (l ++ a.high)) (remove_lists i)
      ∙ sym (cut_around seg t h k a ∙ ap (λ (o : Found X). a.low ++ (cut h k (on_found [] listing_node o) ++ a.high)) r)

  pub listing_remove : (n : ℕ) (path : List ℕ) (Q : Kids X → Type 0) (m : Node X) → Canon seg W Q n path m
      → listing_node (remove_node seg b f n (length path) h k m) ≡ cut h k (listing_node m)
  listing_remove n path Q m c = remove_lists (remove_case seg W b f h k n path Q m c)
