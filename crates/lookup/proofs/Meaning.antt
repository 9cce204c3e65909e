-- On an edition a lookup on the words finds what the trie's definition finds: the path of a hash enters the branches that the
-- trie's path enters, a child being found by the branch's bitmap, and the chain at its end is searched entry by entry.
use Prim.Native.Nat.{ℕ, zero, suc, ◌≤◌, ◌<◌}
use mathlib.Core.Path.{◌≡◌, refl, ap, ◌∙◌}
use mathlib.Core.Bool.{true}
use mathlib.Core.List.{[], List, ◌∷◌}
use native.Mathlib.Omega.{arith}
use lib.ListN.{length}
use Rattle.cases.proofs.Cases.{split}
use Rattle.segments.specs.Segments.{segment}
use Rattle.segments.proofs.SegmentLaws.{segment_small}
use Rattle.sparse_array.specs.Bitmap.{below}
use Rattle.sparse_array.proofs.Places.{place_Nothing, place_at}
use Rattle.layout.specs.declared.Shape.{Shape}
use Rattle.layout.specs.Layout.{kind_of, names, Allowed}
use Rattle.layout.specs.Columns.{State, columns}
use Rattle.layout.proofs.SizeLaws.{row_is_Right, small}
use Rattle.trie.specs.declared.Entry.{Entry}
use Rattle.trie.specs.Entry.{matches, got}
use Rattle.trie.specs.Trie.{Node, leaf, branch, Kids, Item, Map, empty, root, Found, missing, found, child, find, chain, get_node, get}
use Rattle.trie.specs.Canon.{Some, Canonical}
use Rattle.trie.proofs.ChainLaws.{find_hit, find_miss}
use Rattle.trie.proofs.KidsLaws.{all_child}
use Rattle.trie.proofs.PathLaws.{chain-leaf, hop_found, hop_missing, chain_of}
use Rattle.arena.specs.Shows.{bitmap, ShowsChain, Shows, ShowsMap}
use Rattle.arena.proofs.RefLaws.{refs_some}
use Rattle.arena.proofs.Reach.{Within, Canon-Within}
use Rattle.arena.proofs.Few.{chain_few, columns_live}
use Rattle.lookup.specs.Lookup.{longest, names_kind, entry_at, kid_at, path_end, hit_from, value_at, get_below}
use Rattle.lookup.proofs.FindLaws.{kind_is, kind_other, none_branch, path_stays, path_enters, hit_ends, hit_here, hit_later}
use Rattle.lookup.proofs.RowLaws.{bit-missing, child_by_bit}

module _ (z : Shape) (σ : State) (h k : ℕ) where
  -- from what is no entry nothing is found, as in an empty chain
  no_entry : (n r : ℕ) → (kind_of r ≡ 1 → ⊥) → value_at σ (hit_from z σ h k n r) ≡ find {X = ℕ} h k []
  unfolding find
  no_entry n r ne = rw (hit_ends z σ h k n r (kind_other z 1 r ne))

-- WORDS. What lives is a cell, and a segment is a place in a bitmap.
pub live_named : (z : Shape) (a : List ℕ) → Allowed z → (r : ℕ) → 0 < (columns z a).count r → names z r ≡ true
live_named z a w r l = refs_some z r (columns_live z a (omega (arith, (small z w).degree_low)) r l)

pub segment_low : (z : Shape) → Allowed z → (t h : ℕ) → segment z.bits t h < 64
segment_low z w t h = omega (arith, segment_small z.bits t h, (row_is_Right z w).power, (small z w).degree_high)

-- WHERE WHAT LIVES IS A CELL, so that what is shown is met as the branch or the entry that it is
module _ (z : Shape) (σ : State) (live : (r : ℕ) → 0 < σ.count r → names z r ≡ true) where
  -- a shown chain's first cell is an entry, which meets the tests that the first entry meets
  pub chain_named : (xs : List (Item ℕ)) (r : ℕ) → ShowsChain σ xs r → 0 < length xs → names_kind z 1 r ≡ true
  unfolding ShowsChain
  chain_named [] r c l = absurd (omega arith)
  chain_named (x ∷ xs) r c l = kind_is z 1 r (live r c.1) (omega (arith, c.0))

  pub chain_test : (h k : ℕ) (x : Item ℕ) (xs : List (Item ℕ)) (r : ℕ) → ShowsChain σ (x ∷ xs) r
      → matches h k (entry_at σ r) ≡ matches h k x.entry
  unfolding ShowsChain
  chain_test h k x xs r (e, lives, len, next, eh, ek, ev) =
      λ i. matches h k (record { hash = eh i; key = ek i; value = ev i })

  -- the search of a chain is the trie's, if it goes on for long enough
  pub chain_hit : (h k n : ℕ) (xs : List (Item ℕ)) (r : ℕ) → ShowsChain σ xs r → length xs ≤ n
      → value_at σ (hit_from z σ h k n r) ≡ find h k xs
  unfolding ShowsChain
  chain_hit h k n [] r c l = no_entry z σ h k n r (λ e. omega arith)
  chain_hit h k zero (x ∷ xs) r c l = absurd (omega arith)
  chain_hit h k (suc n) (x ∷ xs) r c l =
      let y : names_kind z 1 r ≡ true = chain_named (x ∷ xs) r c (omega arith) in
      let same : matches h k (entry_at σ r) ≡ matches h k x.entry = chain_test h k x xs r c in
      split (matches h k x.entry)
      (λ m. rw (hit_here z σ h k n r y (same ∙ m), find_hit h k x xs m) (ap got c.6))
      (λ m.
      rw (hit_later z σ h k n r y (same ∙ m), find_miss h k x xs m)
      (chain_hit h k n xs (σ.kid r 0) c.3 (omega arith)))

  -- THE PATH of a hash ends where the trie's path does. A is what is said of the trie's chain and of the reference at the end: it
  -- holds where the chain is shown. A branch where no depth is left shows none: there A holds of the empty chain, or Fit rules
  -- the branch out.
  module _ (h : ℕ) (low : (t : ℕ) → segment z.bits t h < 64) where
    abbrev seg : ℕ → ℕ
    seg t = segment z.bits t h

    module _ (Fit : ℕ → Node ℕ → Type 0) (A : List (Item ℕ) → ℕ → Type 0)
        (inside : (n t c : ℕ) (ks : Kids ℕ) (m : Node ℕ) → Fit (suc n) (branch c ks) → child (seg t) ks ≡ found m → Fit n m)
        (shown : (xs : List (Item ℕ)) (r : ℕ) → ShowsChain σ xs r → A xs r)
        (deep : (c : ℕ) (ks : Kids ℕ) (r : ℕ) → Fit 0 (branch c ks) → kind_of r ≡ 0 → A [] r) where
      abbrev Meets : ℕ → ℕ → Node ℕ → ℕ → Type 0
      Meets n t m r = A (chain (segment z.bits) n t h m) (path_end z σ h n t r)

      -- a chain is no branch, so that the path ends at its front, whatever depths are left
      Meets-leaf : (n t : ℕ) (xs : List (Item ℕ)) (r : ℕ) → Shows σ (leaf xs) t r → Meets n t (leaf xs) r
      unfolding Shows ShowsChain
      Meets-leaf n t [] r c = absurd c
      Meets-leaf n t (x ∷ xs) r c =
          let stays = path_stays z σ h n t r (kind_other z 0 r (λ e. omega (arith, c.0))) in
          rw (stays, chain-leaf (segment z.bits) n t h (x ∷ xs)) (shown (x ∷ xs) r c)

      -- at a branch the child at the hash's segment is entered; where it is missing the path ends at 0, which shows no entry
      Meets-branch : (n t c : ℕ) (ks : Kids ℕ) (r : ℕ)
          → ((m : Node ℕ) (q : ℕ) → Fit n m → Shows σ m (suc t) q → Meets n (suc t) m q)
          → Fit (suc n) (branch c ks) → Shows σ (branch c ks) t r → Meets (suc n) t (branch c ks) r
      unfolding Shows
      Meets-branch n t c ks r deeper fit (e, lives, d, b, asc, kids) = by (child (seg t) ks) refl
        where
          y : names_kind z 0 r ≡ true
          y = kind_is z 0 r (live r lives) (omega arith)

          by : (o : Found ℕ) → child (seg t) ks ≡ o → Meets (suc n) t (branch c ks) r
          by missing q =
              let gone : kid_at σ r (seg t) ≡ 0
              = rw (b, place_Nothing (bitmap ks) (seg t) (low t) (bit-missing ks asc (seg t) q)) in
              let ends = path_enters z σ h n t r 0 y gone ∙ path_stays z σ h n (suc t) 0 (none_branch z) in
              rw (ends, hop_missing (segment z.bits) n t h c ks q) (shown [] 0 (unfold ShowsChain in refl))
          by (found m) q =
              let w = child_by_bit σ ks t (σ.kid r) asc kids (seg t) m q in
              let there : kid_at σ r (seg t) ≡ σ.kid r (below (bitmap ks) (seg t))
              = rw (b, place_at (bitmap ks) (seg t) (low t) w.0) in
              rw (path_enters z σ h n t r _ y there, hop_found (segment z.bits) n t h c ks m q)
              (deeper m _ (inside n t c ks m fit q) w.1)

      path_Meets : (n t : ℕ) (m : Node ℕ) (r : ℕ) → Fit n m → Shows σ m t r → Meets n t m r
      path_Meets zero t (leaf xs) r fit c = Meets-leaf zero t xs r c
      path_Meets zero t (branch b ks) r fit c = unfold path_end chain Shows in (deep b ks r fit (omega (arith, c.0)))
      path_Meets (suc n) t (leaf xs) r fit c = Meets-leaf (suc n) t xs r c
      path_Meets (suc n) t (branch b ks) r fit c = Meets-branch n t b ks r (λ m q f s. path_Meets n (suc t) m q f s) fit c

    -- of any trie that is shown the search finds what the trie has: a branch where no depth is left is no entry
    pub path_hit : (k N : ℕ) → ((xs : List (Item ℕ)) (r : ℕ) → ShowsChain σ xs r → length xs ≤ N)
        → (n t : ℕ) (m : Node ℕ) (r : ℕ) → Shows σ m t r
        → value_at σ (hit_from z σ h k N (path_end z σ h n t r)) ≡ get_node (segment z.bits) n t h k m
    path_hit k N few n t m r c =
        path_Meets (λ n m. Unit {0}) (λ xs r. value_at σ (hit_from z σ h k N r) ≡ find h k xs)
        (λ n t c ks m f q. tt) (λ xs r c. chain_hit h k N xs r c (few xs r c))
        (λ c ks r f e. no_entry z σ h k N r (λ o. omega arith)) n t m r tt c

    -- in a trie of so many depths no branch stands there, and the path ends where the chain is shown
    pub path_Shows : (n t : ℕ) (m : Node ℕ) (r : ℕ) → Within n m → Shows σ m t r
        → ShowsChain σ (chain (segment z.bits) n t h m) (path_end z σ h n t r)
    path_Shows n t m r fit c =
        path_Meets (λ n m. Within n m) (λ xs r. ShowsChain σ xs r)
        (λ n t c ks m f q. all_child (λ s m. Within n m) (seg t) ks m (unfold Within in f) q)
        (λ xs r c. c) (λ c ks r f e. absurd (unfold Within in f)) n t m r fit c

-- ON WORDS. The value below a root is the one that the map it shows has; the empty map's root is 0, which names nothing.
pub get_shown : (z : Shape) (a : List ℕ) → Allowed z → (h k : ℕ) (m : Map ℕ) (r : ℕ) → ShowsMap (columns z a) m r
    → get_below z a r h k ≡ get (segment z.bits) z.depths h k m
unfolding ShowsMap get find
get_shown z a w h k empty r c =
    rw (c, path_stays z (columns z a) h z.depths 0 0 (none_branch z))
    (no_entry z (columns z a) h k (longest z) 0 (λ e. omega arith))
get_shown z a w h k (root m) r c =
    path_hit z (columns z a) (live_named z a w) h (λ t. segment_low z w t h) k (longest z)
    (chain_few z (columns z a) (columns_live z a (omega (arith, (small z w).degree_low)))) z.depths 0 m r c

-- the path of a hash leads to the chain at the end of the map's path
pub map_path_shows : (z : Shape) (a : List ℕ) → Allowed z → (W : Entry → Type 0) (h : ℕ) (m : Map ℕ) (r : ℕ)
    → Canonical (segment z.bits) W z.depths m → ShowsMap (columns z a) m r
    → ShowsChain (columns z a) (chain_of (segment z.bits) z.depths h m) (path_end z (columns z a) h z.depths 0 r)
unfolding ShowsMap Canonical chain_of ShowsChain
map_path_shows z a w W h empty r fit c = rw c (path_stays z (columns z a) h z.depths 0 0 (none_branch z))
map_path_shows z a w W h (root m) r fit c =
    path_Shows z (columns z a) (live_named z a w) h (λ t. segment_low z w t h) z.depths 0 m r
    (Canon-Within (segment z.bits) W Some z.depths [] m fit) c
