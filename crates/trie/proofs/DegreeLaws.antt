-- The laws that need a degree's bits and depths: a chain has one hash, since a hash is determined by its segments; segments
-- stay below the degree, and at the last depth below what its bits can tell; and the tries that can be built are the canonical
-- ones, whatever the names of their cells.
use mathlib.Core.Path.{◌≡◌, refl, sym, ◌∙◌}
use mathlib.Core.Logic.{⊎_elim, ◌↔◌}
use mathlib.Core.List.{List, [], ◌∷◌}
use Prim.Native.Nat.{ℕ, zero, suc, ◌+◌, ◌-◌, ◌^◌, ◌<◌}
use native.Mathlib.Omega.{arith}
use lib.ListN.{length}
use Rattle.cases.proofs.Cases.{eq?}
use Rattle.segments.specs.Segments.{Row, segment}
use Rattle.segments.proofs.SegmentLaws.{segment_small, segment-last, hashes_differ}
use Rattle.segments.proofs.TableLaws.{Right}
use Rattle.trie.specs.Built.{Built}
use Rattle.trie.specs.Canon.{Some, Busy, Under, In, Canon, Canonical}
use Rattle.trie.specs.declared.Entry.{Entry}
use Rattle.trie.specs.Entry.{Word64}
use Rattle.trie.specs.Listing.{All, Pairwise}
use Rattle.trie.specs.Names.{forget}
use Rattle.trie.specs.Trie.{branch, Item, leaf, chain, Node, Kids, root, Map, Found, missing, found, child, listing_chain}
use Rattle.trie.proofs.BuiltLaws.{Built-canonical, canonical_Built}
use Rattle.trie.proofs.InsertCanon.{Busy-Some}
use Rattle.trie.proofs.KidsLaws.{all_child}
use Rattle.trie.proofs.ListLaws.{Pairwise-of_All}
use Rattle.trie.proofs.ListingLaws.{All-chain, listing_under}
use Rattle.trie.proofs.PathLaws.{hop_found, hop_missing}
use Rattle.trie.proofs.RenameMaps.{rename-Canonical}
use Rattle.trie.proofs.Unique.{begins, Begins, Canon-lists}

-- two hashes under one path have the same segments
under_same : (seg : ℕ → ℕ → ℕ) (path : List ℕ) (h h' : ℕ) → Under seg path h → Under seg path h' → (t : ℕ) → t < length path
    → seg t h ≡ seg t h'
unfolding Under
under_same seg [] h h' u u' t l = absurd (omega arith)
under_same seg (s ∷ path) h h' (q, u) (q', u') t l =
    ⊎_elim (λ e. rw e (q ∙ sym q')) (λ ne. under_same seg path h h' u u' t (omega arith)) (eq? t (length path))

module _ (r : Row) (right : Right r) where
  abbrev seg : ℕ → ℕ → ℕ
  seg = segment r.bits

  -- two entries under a path of all depths have one hash
  pub one_hash : (path : List ℕ) → length path ≡ r.depths → (e x : Entry) → In seg Word64 path e → In seg Word64 path x → e.hash
      ≡ x.hash
  one_hash path len e x (u, w) (u', w') =
      ⊎_elim (λ q. q) (λ (t, l, ne). absurd (ne (under_same seg path e.hash x.hash u u' t (omega arith))))
      (hashes_differ r right e.hash x.hash w.hash_fits w'.hash_fits)

  -- ONE HASH TO A CHAIN
  module _ {X : Type 0} where
    abbrev OneHash : List (Item X) → Type 0
    OneHash xs = Pairwise (λ x y. x.hash ≡ y.hash) (listing_chain xs)

    chain-OneHash : (n : ℕ) (path : List ℕ) (Q : Kids X → Type 0) (m : Node X) (h : ℕ) → n + length path ≡ r.depths
        → Canon seg Word64 Q n path m → OneHash (chain seg n (length path) h m)
    unfolding Canon
    chain-OneHash zero path Q (leaf xs) h len (a, all, d) =
        unfold chain in
        (Pairwise-of_All (λ x y. x.hash ≡ y.hash) (In seg Word64 path) (λ x y. one_hash path (omega arith) x y)
        (listing_chain xs)
        (All-chain (In seg Word64 path) xs all))
    chain-OneHash zero path Q (branch c ks) h len a = absurd a
    chain-OneHash (suc n) path Q (leaf []) h len a = absurd a
    chain-OneHash (suc n) path Q (leaf (x ∷ [])) h len a = unfold chain listing_chain Pairwise All in (tt, tt)
    chain-OneHash (suc n) path Q (leaf (x ∷ (y ∷ xs))) h len a = absurd a
    chain-OneHash (suc n) path Q (branch c ks) h len (q, asc, all) =
        go (λ m a. chain-OneHash n (seg (length path) h ∷ path) Busy m h (omega arith) a) (child (seg (length path) h) ks) refl
      where
        go : ((m : Node X) → Canon seg Word64 Busy n (seg (length path) h ∷ path) m
            → OneHash (chain seg n (suc (length path)) h m))
            → (o : Found X) → child (seg (length path) h) ks ≡ o → OneHash (chain seg (suc n) (length path) h (branch c ks))
        go ih missing z = rw (hop_missing seg n (length path) h c ks z) (unfold listing_chain Pairwise in tt)
        go ih (found m) z = rw (hop_found seg n (length path) h c ks m z) (ih m (all_child _ (seg (length path) h) ks m all z))

    pub map_OneHash : (m : Node X) (h : ℕ) → Canonical seg Word64 r.depths (root m) → OneHash (chain seg r.depths 0 h m)
    unfolding Canonical
    map_OneHash m h c = chain-OneHash r.depths [] Some m h (omega arith) c

  -- A CHILD'S SEGMENT is one of a 64-bit hash
  module _ {X : Type 0} (n : ℕ) (path : List ℕ) where
    child_hash : (s : ℕ) (m : Node X) → Canon seg Word64 Busy n (s ∷ path) m → (h : ℕ) × (h < 2 ^ 64) × (seg (length path) h ≡ s)
    child_hash s m c = first (Canon-lists seg Word64 n (s ∷ path) Busy Busy-Some m c)
        (listing_under seg Word64 n (s ∷ path) Busy m c)
      where
        first : {l : List Entry} → Begins l → All (In seg Word64 (s ∷ path)) l → (h : ℕ) × (h < 2 ^ 64)
            × (seg (length path) h ≡ s)
        first (begins e es) a = let i : In seg Word64 (s ∷ path) e
            = unfold All in a.0 in (e.hash, i.1.hash_fits, unfold Under in i.0.0)

    pub segment_in_reach : (s : ℕ) (m : Node X) → Canon seg Word64 Busy n (s ∷ path) m → s < r.degree
    segment_in_reach s m c = let (h, l, q) = child_hash s m c in rw (right.power, ← q) (segment_small r.bits (length path) h)

    pub last_in_reach : suc (length path) ≡ r.depths → (s : ℕ) (m : Node X) → Canon seg Word64 Busy n (s ∷ path) m
        → s < 2 ^ r.last
    last_in_reach len s m c =
        let (h, l, q) = child_hash s m c in
        let e : r.depths - 1 ≡ length path = omega arith in
        rw (← q) (rw e at (segment-last r right h l))

  -- WHAT CAN BE BUILT IS WHAT IS CANONICAL
  pub Built-iff_Canonical : {X : Type 0} (m : Map X) → Built seg r.depths (forget m) ↔ Canonical seg Word64 r.depths m
  Built-iff_Canonical m = go r.depths right.some_depths
    where
      go : (D : ℕ) → 0 < D → Built seg D (forget m) ↔ Canonical seg Word64 D m
      go zero l = absurd (omega arith)
      go (suc d) l =
          let same : Canonical seg Word64 (suc d) m ↔ Canonical seg Word64 (suc d) (forget m)
          = rename-Canonical (λ c. tt) seg Word64 (suc d) m in
          (λ t. same.1 (Built-canonical seg d t), λ c. canonical_Built seg d (forget m) (same.0 c))
