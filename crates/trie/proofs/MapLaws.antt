-- Maps: they stay canonical, and their listings, sizes and answers after insert, change and remove. All of it follows from the
-- listing, where insert comes to place and remove to cut.
use mathlib.Core.Path.{◌≡◌, refl, sym, ◌∙◌, ap, subst}
use mathlib.Core.Bool.{true}
use mathlib.Core.Logic.{◌⊎◌, inl, inr}
use mathlib.Core.List.{List, [], ◌∷◌}
use Prim.Native.Nat.{ℕ, suc, ◌+◌}
use native.Mathlib.Omega.{arith}
use lib.ListN.{length}
use Rattle.cases.proofs.Cases.{split}
use Rattle.trie.specs.Canon.{Above, Asc, AllKids, Some, Busy, Under, Canon, Canonical}
use Rattle.trie.specs.declared.Entry.{Entry}
use Rattle.trie.specs.Entry.{Got, absent, got, if_got}
use Rattle.trie.specs.Listing.{lookup, Pairwise, Once, cut, place, Ordered}
use Rattle.trie.specs.Trie.{branch, leaf, Node, none, kid, empty, root, Map, get_node, is_empty, remove_node, listing_chain, listing_node, listing, size, remove, not_there, updated, tidy, get, insert, change}
use Rattle.trie.proofs.InsertCanon.{Ask-Some, Canon-single, Canon-insert}
use Rattle.trie.proofs.ListLaws.{cut_other, cut_same, cut_found}
use Rattle.trie.proofs.ListingLaws.{listing_get, listing_Once, listing_Ordered}
use Rattle.trie.proofs.ListingUpdates.{listing_insert, listing_remove}
use Rattle.trie.proofs.Matches.{matches_other, matches_one}
use Rattle.trie.proofs.OrderLaws.{place_none, place_same, place_other, place-length}
use Rattle.trie.proofs.RemoveCanon.{Canon-root, root_remove}

-- the depths are suc d
module _ (seg : ℕ → ℕ → ℕ) (d : ℕ) (W : Entry → Type 0) {X : Type 0} where
  abbrev Good : Map X → Type 0
  Good m = Canonical seg W (suc d) m

  -- the shape of a removal
  pub data Removal (b f : ℕ → X) (h k : ℕ) : Map X → Map X → Type 0 where
    taken_out : (n : Node X) (v : ℕ) → get_node seg (suc d) 0 h k n ≡ got v
        → Removal b f h k (root n) (tidy (remove_node seg b f (suc d) 0 h k n))

  pub removal : (b f : ℕ → X) (h k : ℕ) (m m' : Map X) → remove seg (suc d) b f h k m ≡ updated m' → Removal b f h k m m'
  unfolding remove if_got
  removal b f h k empty m' q = let z : ◌≡◌ {A = ℕ} 0 1 = cc in absurd (omega arith)
  removal b f h k (root n) m' q = go (get_node seg (suc d) 0 h k n) refl q
    where
      go : (o : Got) → get_node seg (suc d) 0 h k n ≡ o → if_got o (updated (tidy (remove_node seg b f (suc d) 0 h k n))) not_there
          ≡ updated m' → Removal b f h k (root n) m'
      go absent r q = let z : ◌≡◌ {A = ℕ} 0 1 = cc in absurd (omega arith)
      go (got v) r q = let e : tidy (remove_node seg b f (suc d) 0 h k n) ≡ m'
          = cc in subst (Removal b f h k (root n)) e (taken_out n v r)

  -- ANSWER 6, exactly where the key is not there
  pub remove_there : (b f : ℕ → X) (h k : ℕ) (m : Map X) (v : ℕ) → get seg (suc d) h k m ≡ got v → (m' : Map X)
      × (remove seg (suc d) b f h k m ≡ updated m')
  unfolding get remove if_got
  remove_there b f h k empty v q = let z : ◌≡◌ {A = ℕ} 0 1 = cc in absurd (omega arith)
  remove_there b f h k (root n) v q = (tidy (remove_node seg b f (suc d) 0 h k n), rw q)

  pub remove_absent : (b f : ℕ → X) (h k : ℕ) (m : Map X) → get seg (suc d) h k m ≡ absent → remove seg (suc d) b f h k m
      ≡ not_there
  unfolding get remove if_got
  remove_absent b f h k empty q = refl
  remove_absent b f h k (root n) q = rw q

  pub change_there : (b f : ℕ → X) (e : Entry) (m : Map X) (v : ℕ) → get seg (suc d) e.hash e.key m ≡ got v
      → change seg (suc d) b f e m ≡ updated (insert seg (suc d) b f e m)
  unfolding change if_got
  change_there b f e m v q = rw q

  pub change-absent : (b f : ℕ → X) (e : Entry) (m : Map X) → get seg (suc d) e.hash e.key m ≡ absent
      → change seg (suc d) b f e m ≡ not_there
  unfolding change if_got
  change-absent b f e m q = rw q

  -- CANONICAL
  pub canonical_insert : (b f : ℕ → X) (e : Entry) (m : Map X) → W e → Good m → Good (insert seg (suc d) b f e m)
  unfolding Canonical insert Canon Some Asc Above AllKids Under
  canonical_insert b f e empty w c = (tt, tt, (Canon-single seg W b f e d (seg 0 e.hash ∷ []) Busy ((refl, tt), w), tt))
  canonical_insert b f e (root m) w c = Canon-insert seg W b f e (suc d) [] Some (Ask-Some X) m c (tt, w)

  canonical_tidy : (m : Node X) → (is_empty m ≡ true) ⊎ Canon seg W Busy (suc d) [] m → Good (tidy m)
  unfolding Canonical tidy
  canonical_tidy m (inl q) = rw q tt
  canonical_tidy m (inr c) = split (is_empty m) (λ q. rw q tt) (λ q. rw q (Canon-root seg W (suc d) [] m c))

  canonical_Removal : (b f : ℕ → X) (h k : ℕ) {m m' : Map X} → Removal b f h k m m' → Good m → Good m'
  unfolding Canonical
  canonical_Removal b f h k (taken_out n v g) c
      = canonical_tidy (remove_node seg b f (suc d) 0 h k n) (root_remove seg W b f h k (suc d) [] n v c g)

  pub canonical_remove : (b f : ℕ → X) (h k : ℕ) (m m' : Map X) → remove seg (suc d) b f h k m ≡ updated m' → Good m → Good m'
  canonical_remove b f h k m m' q c = canonical_Removal b f h k (removal b f h k m m' q) c

  -- LISTING
  empty_lists : (m : Node X) → is_empty m ≡ true → listing_node m ≡ []
  unfolding is_empty listing_node listing_chain
  empty_lists (leaf []) q = refl
  empty_lists (leaf (x ∷ xs)) q = let z : ◌≡◌ {A = ℕ} 0 1 = cc in absurd (omega arith)
  empty_lists (branch c none) q = refl
  empty_lists (branch c (kid s m ks)) q = let z : ◌≡◌ {A = ℕ} 0 1 = cc in absurd (omega arith)

  tidy_lists : (m : Node X) → listing (tidy m) ≡ listing_node m
  unfolding listing tidy
  tidy_lists m = split (is_empty m) (λ q. rw q (sym (empty_lists m q))) (λ q. rw q)

  pub map_lists_insert : (b f : ℕ → X) (e : Entry) (m : Map X) → Good m → listing (insert seg (suc d) b f e m)
      ≡ place seg (suc d) 0 e (listing m)
  unfolding Canonical listing insert
  map_lists_insert b f e empty c = unfold listing_node listing_chain in (sym (place_none seg (suc d) 0 e))
  map_lists_insert b f e (root m) c = listing_insert seg W b f e (suc d) [] Some m c

  lists_Removal : (b f : ℕ → X) (h k : ℕ) {m m' : Map X} → Removal b f h k m m' → Good m → listing m' ≡ cut h k (listing m)
  unfolding Canonical
  lists_Removal b f h k (taken_out n v g) c = tidy_lists (remove_node seg b f (suc d) 0 h k n)
      ∙ listing_remove seg W b f h k (suc d) [] Some n c ∙ unfold listing in refl

  pub map_lists_remove : (b f : ℕ → X) (h k : ℕ) (m m' : Map X) → remove seg (suc d) b f h k m ≡ updated m' → Good m → listing m'
      ≡ cut h k (listing m)
  map_lists_remove b f h k m m' q c = lists_Removal b f h k (removal b f h k m m' q) c

  pub map_listing-get : (m : Map X) → Good m → (h k : ℕ) → lookup h k (listing m) ≡ get seg (suc d) h k m
  unfolding listing get Canonical
  map_listing-get empty c h k = unfold lookup in refl
  map_listing-get (root m) c h k = listing_get seg W (suc d) [] Some h k m c

  pub map_listing-Once : (m : Map X) → Good m → Once (listing m)
  unfolding listing Canonical
  map_listing-Once empty c = unfold Pairwise in tt
  map_listing-Once (root m) c = listing_Once seg W (suc d) [] Some m c

  pub map_listing-Ordered : (m : Map X) → Good m → Ordered seg (suc d) 0 (listing m)
  unfolding listing Canonical
  map_listing-Ordered empty c = unfold Pairwise in tt
  map_listing-Ordered (root m) c = listing_Ordered seg W (suc d) [] Some m c

  -- SIZE
  pub size-insert : (b f : ℕ → X) (e : Entry) (m : Map X) → Good m
      → size (insert seg (suc d) b f e m) + if_got (get seg (suc d) e.hash e.key m) 1 0 ≡ size m + 1
  unfolding size
  size-insert b f e m c =
      ap (λ (l : List Entry). length l + if_got (get seg (suc d) e.hash e.key m) 1 0) (map_lists_insert b f e m c)
      ∙ ap (λ (o : Got). length (place seg (suc d) 0 e (listing m)) + if_got o 1 0) (sym (map_listing-get m c e.hash e.key))
      ∙ place-length seg (suc d) 0 e (listing m)

  pub size-insert_there : (b f : ℕ → X) (e : Entry) (m : Map X) (v : ℕ) → Good m
      → get seg (suc d) e.hash e.key m ≡ got v → size (insert seg (suc d) b f e m) ≡ size m
  unfolding if_got
  size-insert_there b f e m v c q = omega (arith, rw q at (size-insert b f e m c))

  pub size-insert_new : (b f : ℕ → X) (e : Entry) (m : Map X) → Good m
      → get seg (suc d) e.hash e.key m ≡ absent → size (insert seg (suc d) b f e m) ≡ suc (size m)
  unfolding if_got
  size-insert_new b f e m c q = omega (arith, rw q at (size-insert b f e m c))

  got-Removal : (b f : ℕ → X) (h k : ℕ) {m m' : Map X} → Removal b f h k m m' → (v : ℕ) × (get seg (suc d) h k m ≡ got v)
  unfolding get
  got-Removal b f h k (taken_out n v g) = (v, g)

  pub size-remove : (b f : ℕ → X) (h k : ℕ) (m m' : Map X) → remove seg (suc d) b f h k m ≡ updated m' → Good m → size m' + 1
      ≡ size m
  unfolding size
  size-remove b f h k m m' q c =
      let (v, g) = got-Removal b f h k (removal b f h k m m' q) in
      ap (λ (l : List Entry). length l + 1) (map_lists_remove b f h k m m' q c)
      ∙ cut_found h k v (listing m) (map_listing-get m c h k ∙ g)

  -- GET AFTER INSERT: the entry itself, and any other (hash, key)
  pub get_insert_same : (b f : ℕ → X) (e : Entry) (m : Map X) → W e → Good m
      → get seg (suc d) e.hash e.key (insert seg (suc d) b f e m) ≡ got e.value
  get_insert_same b f e m w c =
      sym (map_listing-get (insert seg (suc d) b f e m) (canonical_insert b f e m w c) e.hash e.key)
      ∙ ap (lookup e.hash e.key) (map_lists_insert b f e m c) ∙ place_same seg (suc d) 0 e (listing m)

  pub get_insert_other : (b f : ℕ → X) (e : Entry) (m : Map X) (h k : ℕ) → ((e.hash ≡ h) × (e.key ≡ k) → ⊥) → W e → Good m
      → get seg (suc d) h k (insert seg (suc d) b f e m) ≡ get seg (suc d) h k m
  get_insert_other b f e m h k ne w c =
      sym (map_listing-get (insert seg (suc d) b f e m) (canonical_insert b f e m w c) h k)
      ∙ ap (lookup h k) (map_lists_insert b f e m c) ∙ place_other seg (suc d) 0 e h k (matches_other h k e ne) (listing m)
      ∙ map_listing-get m c h k

  -- GET AFTER REMOVE
  pub get_remove_same : (b f : ℕ → X) (h k : ℕ) (m m' : Map X) → remove seg (suc d) b f h k m ≡ updated m' → Good m
      → get seg (suc d) h k m' ≡ absent
  get_remove_same b f h k m m' q c =
      sym (map_listing-get m' (canonical_remove b f h k m m' q c) h k) ∙ ap (lookup h k) (map_lists_remove b f h k m m' q c)
      ∙ cut_same h k (listing m) (map_listing-Once m c)

  pub get_remove_other : (b f : ℕ → X) (h k : ℕ) (m m' : Map X) (h' k' : ℕ)
      → ((h ≡ h') × (k ≡ k') → ⊥) → remove seg (suc d) b f h k m ≡ updated m' → Good m
      → get seg (suc d) h' k' m' ≡ get seg (suc d) h' k' m
  get_remove_other b f h k m m' h' k' ne q c =
      sym (map_listing-get m' (canonical_remove b f h k m m' q c) h' k') ∙ ap (lookup h' k') (map_lists_remove b f h k m m' q c)
      ∙ cut_other h k h' k' (listing m) (matches_one h k h' k' ne) ∙ map_listing-get m c h' k'
