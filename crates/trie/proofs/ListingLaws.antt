-- The listing of a node. The children of a branch around a segment are those with lower segments, the one there, and those
-- with higher ones; so what holds of a child's listing holds of the branch's, and insert and remove come to place and cut.
use mathlib.Core.Path.{◌≡◌, refl, sym, ◌∙◌, ap}
use mathlib.Core.Bool.{false}
use mathlib.Core.List.{List, [], ◌∷◌, ◌++◌, append_assoc}
use Prim.Native.Nat.{ℕ, zero, suc, ◌<◌, ◌≤◌}
use native.Mathlib.Omega.{arith}
use lib.ListN.{length}
use Rattle.cases.proofs.Cases.{split, Tri, is_less, is_equal, is_more, tri}
use Rattle.trie.specs.Canon.{Above, Asc, AllKids, Busy, AllItems, Distinct, Under, In, Canon}
use Rattle.trie.specs.declared.Entry.{Entry}
use Rattle.trie.specs.Entry.{matches, Got, absent, got, if_got}
use Rattle.trie.specs.Listing.{All, lookup, Pairwise, Once, cut, earlier, Ordered}
use Rattle.trie.specs.Trie.{branch, Item, leaf, chain, Node, Kids, none, kid, Found, missing, found, on_found, child, put, take_out, find, copied, list_remove_first, push_front, get_node, listing_chain, listing_node, listing_kids}
use Rattle.trie.proofs.ChainLaws.{copied_hit, copied_miss}
use Rattle.trie.proofs.KidsLaws.{child_hit, child_miss, put_hit, put_less, put_more, take_hit, take_miss, child-Above, Above-Asc, take_missing, all_child}
use Rattle.trie.proofs.ListLaws.{cut_hit, cut_miss, all_append, All-weak, Unmatched, absent-Unmatched, lookup_skip, lookup_left, cut_skip, cut_none, cut_left, pairwise_append}
use Rattle.trie.proofs.Matches.{matches-hash}
use Rattle.trie.proofs.OrderLaws.{earlier_high, Ordered-down, Ordered-last}
use Rattle.trie.proofs.PathLaws.{hop_found, hop_missing}

-- CHAINS
module _ {X : Type 0} where
  lookup_chain : (h k : ℕ) (xs : List (Item X)) → lookup h k (listing_chain xs) ≡ find h k xs
  unfolding lookup listing_chain find
  lookup_chain h k [] = refl
  lookup_chain h k (x ∷ xs) = rw (lookup_chain h k xs)

  pub All-chain : (P : Entry → Type 0) (xs : List (Item X)) → AllItems P xs → All P (listing_chain xs)
  unfolding All listing_chain AllItems
  All-chain P [] a = tt
  All-chain P (x ∷ xs) (p, a) = (p, All-chain P xs a)

  Once-chain : (xs : List (Item X)) → Distinct xs → Once (listing_chain xs)
  unfolding Pairwise listing_chain Distinct
  Once-chain [] d = tt
  Once-chain (x ∷ xs) (p, d) = (
    absent-Unmatched x.entry.hash x.entry.key (listing_chain xs) (lookup_chain x.entry.hash x.entry.key xs ∙ p),
    Once-chain xs d,
  )

  copied_lists : (f : ℕ → X) (j h k : ℕ) (xs : List (Item X)) → listing_chain (copied f j h k xs) ≡ cut h k (listing_chain xs)
  unfolding listing_chain
  copied_lists f j h k [] = unfold copied cut in refl
  copied_lists f j h k (x ∷ xs) =
      split (matches h k x.entry) (λ p. rw (copied_hit f j h k x xs p, cut_hit h k x.entry (listing_chain xs) p))
      (λ p. rw (copied_miss f j h k x xs p, cut_miss h k x.entry (listing_chain xs) p)
      (ap (λ (l : List Entry). x.entry ∷ l) (copied_lists f (suc j) h k xs)))

  -- A REMOVED ENTRY LEAVES THE ORDER OF THE REST
  pub chain_remove : (f : ℕ → X) (j h k : ℕ) (xs : List (Item X)) → listing_chain (list_remove_first f j h k xs)
      ≡ cut h k (listing_chain xs)
  unfolding list_remove_first if_got
  chain_remove f j h k xs = go (find h k xs) refl
    where
      go : (o : Got) → find h k xs ≡ o → listing_chain (if_got o (copied f j h k xs) xs) ≡ cut h k (listing_chain xs)
      go absent q = sym (cut_none h k (listing_chain xs) (absent-Unmatched h k (listing_chain xs) (lookup_chain h k xs ∙ q)))
      go (got v) q = copied_lists f j h k xs

  -- A NEW OR REPLACED ENTRY GOES TO THE FRONT, the others keep their order
  pub chain_insert : (f : ℕ → X) (e : Entry) (xs : List (Item X)) → listing_chain (push_front f e xs)
      ≡ e ∷ cut e.hash e.key (listing_chain xs)
  unfolding push_front listing_chain
  chain_insert f e xs = ap (λ (l : List Entry). e ∷ l) (chain_remove f 1 e.hash e.key xs)

-- CHILDREN AROUND A SEGMENT
pub record Around (seg : ℕ → ℕ → ℕ) {X : Type 0} (t s : ℕ) (ks : Kids X) : Type 0 where
  pub low : List Entry
  pub high : List Entry
  pub whole : listing_kids ks ≡ low ++ (on_found [] listing_node (child s ks) ++ high)
  pub putting : (m : Node X) → listing_kids (put s m ks) ≡ low ++ (listing_node m ++ high)
  pub taking : listing_kids (take_out s ks) ≡ low ++ high
  pub lower : All (λ e. seg t e.hash < s) low
  pub higher : All (λ e. s < seg t e.hash) high

module _ (seg : ℕ → ℕ → ℕ) {X : Type 0} (t : ℕ) where
  abbrev pub Segmented : Kids X → Type 0
  Segmented ks = AllKids (λ i m. All (λ e. seg t e.hash ≡ i) (listing_node m)) ks

  pub all_above : (s lo : ℕ) (ks : Kids X) → s ≤ lo → Above lo ks → Segmented ks → All (λ e. s < seg t e.hash) (listing_kids ks)
  unfolding Above AllKids listing_node
  all_above s lo none l a g = unfold All in tt
  all_above s lo (kid i m ks) l (a, up) (q, g) =
      all_append (λ e. s < seg t e.hash) (listing_node m) (listing_kids ks)
      (All-weak (λ e. seg t e.hash ≡ i) (λ e. s < seg t e.hash) (λ e z. omega arith) (listing_node m) q)
      (all_above s i ks (omega arith) up g)

  pub around : (s : ℕ) (ks : Kids X) → Asc ks → Segmented ks → Around seg t s ks
  unfolding Asc AllKids listing_node on_found All
  around s none a g =
      record {
        low = [];
        high = [];
        whole = unfold child in refl;
        putting = λ m. unfold put in refl;
        taking = unfold take_out in refl;
        lower = tt;
        higher = tt;
      }
  around s (kid i m ks) a (q, g) = go (around s ks (Above-Asc i ks a) g) (tri s i)
    where
      go : Around seg t s ks → Tri s i → Around seg t s (kid i m ks)
      go ih (is_less l) =
          let gap : child s (kid i m ks) ≡ missing = child_miss s i m ks (λ e. omega arith)
          ∙ child-Above s i ks a (omega arith) in
          record {
            low = [];
            high = listing_node m ++ listing_kids ks;
            whole = rw gap;
            putting = λ n. rw (put_less s i n m ks l);
            taking = rw (take_missing s (kid i m ks) gap);
            lower = tt;
            higher =
                all_append (λ e. s < seg t e.hash) (listing_node m) (listing_kids ks)
                (All-weak (λ e. seg t e.hash ≡ i) (λ e. s < seg t e.hash) (λ e z. omega arith) (listing_node m) q)
                (all_above s i ks (omega arith) a g);
          }
      go ih (is_equal e) =
          record {
            low = [];
            high = listing_kids ks;
            whole = rw (child_hit s i m ks (sym e));
            putting = λ n. rw (put_hit s i n m ks (sym e));
            taking = rw (take_hit s i m ks (sym e));
            lower = tt;
            higher = all_above s i ks (omega arith) a g;
          }
      go ih (is_more l) =
          let rest : child s (kid i m ks) ≡ child s ks = child_miss s i m ks (λ e. omega arith) in
          record {
            low = listing_node m ++ ih.low;
            high = ih.high;
            whole = rw (rest, append_assoc) (ap (λ (z : List Entry). listing_node m ++ z) ih.whole);
            putting = λ n. rw (put_more s i n m ks l, append_assoc) (ap (λ (z : List Entry). listing_node m ++ z) (ih.putting n));
            taking = rw (take_miss s i m ks (λ e. omega arith), append_assoc)
                (ap (λ (z : List Entry). listing_node m ++ z) ih.taking);
            lower =
                all_append (λ e. seg t e.hash < s) (listing_node m) ih.low
                (All-weak (λ e. seg t e.hash ≡ i) (λ e. seg t e.hash < s) (λ e z. omega arith) (listing_node m) q)
                ih.lower;
            higher = ih.higher;
          }

-- entries with another segment do not match
module _ (seg : ℕ → ℕ → ℕ) (t h k : ℕ) where
  apart_Unmatched : (P : Entry → Type 0) → ((e : Entry) → P e → seg t e.hash ≡ seg t h → ⊥) → (xs : List Entry) → All P xs
      → Unmatched h k xs
  apart_Unmatched P ne xs a = All-weak P (λ e. matches h k e ≡ false) (λ e p. matches-hash h k e (λ z. ne e p (ap (seg t) z))) xs
      a

  module _ {X : Type 0} {ks : Kids X} (a : Around seg t (seg t h) ks) where
    low-Unmatched : Unmatched h k a.low
    low-Unmatched = apart_Unmatched (λ e. seg t e.hash < seg t h) (λ e l z. omega arith) a.low a.lower

    pub high-Unmatched : Unmatched h k a.high
    high-Unmatched = apart_Unmatched (λ e. seg t h < seg t e.hash) (λ e l z. omega arith) a.high a.higher

    lookup_around : lookup h k (listing_kids ks) ≡ lookup h k (on_found [] listing_node (child (seg t h) ks))
    lookup_around =
        ap (lookup h k) a.whole ∙ lookup_skip h k a.low (on_found [] listing_node (child (seg t h) ks) ++ a.high)
        low-Unmatched
        ∙ lookup_left h k (on_found [] listing_node (child (seg t h) ks)) a.high high-Unmatched

    pub cut_around : cut h k (listing_kids ks) ≡ a.low ++ (cut h k (on_found [] listing_node (child (seg t h) ks)) ++ a.high)
    cut_around =
        ap (cut h k) a.whole ∙ cut_skip h k a.low (on_found [] listing_node (child (seg t h) ks) ++ a.high) low-Unmatched
        ∙ ap (λ (l : List Entry). a.low ++ l) (cut_left h k (on_found [] listing_node (child (seg t h) ks)) a.high
        high-Unmatched)

-- CANONICAL NODES
module _ (seg : ℕ → ℕ → ℕ) (W : Entry → Type 0) {X : Type 0} where
  under_kids : (path : List ℕ) (P : ℕ → Node X → Type 0)
      → ((s : ℕ) (m : Node X) → P s m → All (In seg W (s ∷ path)) (listing_node m))
      → (ks : Kids X) → AllKids P ks → All (In seg W path) (listing_kids ks)
  unfolding AllKids listing_node
  under_kids path P ih none a = unfold All in tt
  under_kids path P ih (kid s m ks) (a, more_a) =
      all_append (In seg W path) (listing_node m) (listing_kids ks)
      (All-weak (In seg W (s ∷ path)) (In seg W path) (λ e i. (unfold Under in i.0.1, i.1)) (listing_node m) (ih s m a))
      (under_kids path P ih ks more_a)

  -- every entry stands under its path
  pub listing_under : (n : ℕ) (path : List ℕ) (Q : Kids X → Type 0) (m : Node X) → Canon seg W Q n path m
      → All (In seg W path) (listing_node m)
  unfolding Canon listing_node
  listing_under zero path Q (leaf xs) (a, all, d) = All-chain (In seg W path) xs all
  listing_under zero path Q (branch c ks) a = absurd a
  listing_under (suc n) path Q (leaf []) a = absurd a
  listing_under (suc n) path Q (leaf (x ∷ [])) a = unfold All listing_chain in (a, tt)
  listing_under (suc n) path Q (leaf (x ∷ (y ∷ xs))) a = absurd a
  listing_under (suc n) path Q (branch c ks) (q, asc, all) =
      under_kids path (λ s m. Canon seg W Busy n (s ∷ path) m) (λ s m a. listing_under n (s ∷ path) Busy m a) ks all

  module _ (n : ℕ) (path : List ℕ) where
    -- each child's entries have its segment
    pub child_segment : (s : ℕ) (m : Node X) → Canon seg W Busy n (s ∷ path) m
        → All (λ e. seg (length path) e.hash ≡ s) (listing_node m)
    child_segment s m c = All-weak (In seg W (s ∷ path)) (λ e. seg (length path) e.hash ≡ s) (λ e i. unfold Under in i.0.0)
        (listing_node m) (listing_under n (s ∷ path) Busy m c)

    pub segmented : (ks : Kids X) → AllKids (λ s m. Canon seg W Busy n (s ∷ path) m) ks → Segmented seg (length path) ks
    unfolding AllKids
    segmented none a = tt
    segmented (kid s m ks) (c, a) = (child_segment s m c, segmented ks a)

    pub Canon-Around : (s : ℕ) (ks : Kids X) → Asc ks → AllKids (λ s m. Canon seg W Busy n (s ∷ path) m) ks
        → Around seg (length path) s ks
    Canon-Around s ks asc all = around seg (length path) s ks asc (segmented ks all)

    -- what holds between two entries of a child, and between two with ascending segments, holds of the branch
    Pairwise-kids : (R : Entry → Entry → Type 0)
        → ((x y : Entry) → seg (length path) x.hash < seg (length path) y.hash → R x y)
        → ((s : ℕ) (m : Node X) → Canon seg W Busy n (s ∷ path) m → Pairwise R (listing_node m))
        → (ks : Kids X) → Asc ks → AllKids (λ s m. Canon seg W Busy n (s ∷ path) m) ks → Pairwise R (listing_kids ks)
    unfolding AllKids Asc listing_node
    Pairwise-kids R up ih none asc all = unfold Pairwise in tt
    Pairwise-kids R up ih (kid i m ks) asc (c, all) =
        pairwise_append R (listing_node m) (listing_kids ks) (ih i m c) (Pairwise-kids R up ih ks (Above-Asc i ks asc) all)
        (All-weak (λ x. seg (length path) x.hash ≡ i) (λ x. All (R x) (listing_kids ks))
        (λ x q. All-weak (λ y. i < seg (length path) y.hash) (R x) (λ y l. up x y (omega arith)) (listing_kids ks)
        (all_above seg (length path) i i ks (omega arith) asc (segmented ks all))) (listing_node m) (child_segment i m c))

  -- THE LISTING SAYS WHAT GET SAYS
  pub listing_get : (n : ℕ) (path : List ℕ) (Q : Kids X → Type 0) (h k : ℕ) (m : Node X) → Canon seg W Q n path m
      → lookup h k (listing_node m) ≡ get_node seg n (length path) h k m
  unfolding Canon
  listing_get zero path Q h k (leaf xs) c = unfold listing_node chain in (lookup_chain h k xs)
  listing_get zero path Q h k (branch d ks) c = absurd c
  listing_get (suc n) path Q h k (leaf xs) c = unfold listing_node chain in (lookup_chain h k xs)
  listing_get (suc n) path Q h k (branch d ks) (q, asc, all) =
      go (λ m c. listing_get n (seg (length path) h ∷ path) Busy h k m c) (child (seg (length path) h) ks) refl
    where
      t : ℕ
      t = length path

      whole : lookup h k (listing_node (branch d ks)) ≡ lookup h k (on_found [] listing_node (child (seg t h) ks))
      whole = unfold listing_node in (lookup_around seg t h k (Canon-Around n path (seg t h) ks asc all))

      go : ((m : Node X) → Canon seg W Busy n (seg t h ∷ path) m → lookup h k (listing_node m) ≡ get_node seg n (suc t) h k m)
          → (o : Found X) → child (seg t h) ks ≡ o → lookup h k (listing_node (branch d ks))
          ≡ get_node seg (suc n) t h k (branch d ks)
      go ih missing r = whole ∙ rw (r, hop_missing seg n t h d ks r) (unfold on_found lookup find in refl)
      go ih (found m) r =
          whole ∙ ap (λ (o : Found X). lookup h k (on_found [] listing_node o)) r
          ∙ unfold on_found in (ih m (all_child _ (seg t h) ks m all r) ∙ sym (ap (find h k) (hop_found seg n t h d ks m r)))

  -- NO (HASH, KEY) TWICE
  pub listing_Once : (n : ℕ) (path : List ℕ) (Q : Kids X → Type 0) (m : Node X) → Canon seg W Q n path m → Once (listing_node m)
  unfolding Canon listing_node
  listing_Once zero path Q (leaf xs) (a, all, d) = Once-chain xs d
  listing_Once zero path Q (branch d ks) c = absurd c
  listing_Once (suc n) path Q (leaf []) c = absurd c
  listing_Once (suc n) path Q (leaf (x ∷ [])) c = unfold Pairwise All listing_chain in (tt, tt)
  listing_Once (suc n) path Q (leaf (x ∷ (y ∷ xs))) c = absurd c
  listing_Once (suc n) path Q (branch d ks) (q, asc, all) =
      Pairwise-kids n path (λ x y. matches x.hash x.key y ≡ false)
      (λ x y l. matches-hash x.hash x.key y
      (λ z. let e : seg (length path) y.hash ≡ seg (length path) x.hash = ap (seg (length path)) z in omega arith))
      (λ s m c. listing_Once n (s ∷ path) Busy m c) ks asc all

  -- IN LISTING ORDER
  pub listing_Ordered : (n : ℕ) (path : List ℕ) (Q : Kids X → Type 0) (m : Node X) → Canon seg W Q n path m
      → Ordered seg n (length path) (listing_node m)
  unfolding Canon listing_node
  listing_Ordered zero path Q (leaf xs) c = Ordered-last seg (length path) (listing_chain xs)
  listing_Ordered zero path Q (branch d ks) c = absurd c
  listing_Ordered (suc n) path Q (leaf []) c = absurd c
  listing_Ordered (suc n) path Q (leaf (x ∷ [])) c = unfold Pairwise All listing_chain in (tt, tt)
  listing_Ordered (suc n) path Q (leaf (x ∷ (y ∷ xs))) c = absurd c
  listing_Ordered (suc n) path Q (branch d ks) (q, asc, all) =
      Pairwise-kids n path (λ x y. earlier seg (suc n) (length path) y.hash x.hash ≡ false)
      (λ x y l. earlier_high seg n (length path) y.hash x.hash l)
      (λ s m c. Ordered-down seg n (length path) s (listing_node m) (child_segment n path s m c)
      (listing_Ordered n (s ∷ path) Busy m c)) ks asc all
