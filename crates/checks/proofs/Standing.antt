-- In a sound arena every cell in use stands in an edition: it is reached from a held slot, so it shows a node of a trie that
-- the rules can build, at the end of a path, with no more entries than the arena has. So an entry in use shows a chain of one
-- hash, and a branch in use stands at its depth.
use Rattle.std.proofs.Common.{◌≡◌, ℕ, zero, suc, ◌+◌, ◌<◌, ◌≤◌, List, [], ◌∷◌, length, sym, refl, ◌∙◌, ⊎_elim, arith, length-append}
use Rattle.cases.proofs.Cases.{eq?}
use Rattle.segments.specs.Segments.{segment}
use Rattle.layout.specs.declared.Shape.{Shape}
use Rattle.layout.specs.Layout.{kind_of, Allowed}
use Rattle.layout.specs.Columns.{State, refs}
use Rattle.layout.proofs.SizeLaws.{row_in, row_is_Right}
use Rattle.trie.specs.declared.Entry.{Entry}
use Rattle.trie.specs.Entry.{Word64}
use Rattle.trie.specs.Trie.{Node, leaf, branch, Kids, none, kid, Item, Map, empty, root, find, listing_chain, listing_node, listing_kids, listing, size}
use Rattle.trie.specs.Canon.{AllKids, Busy, AllItems, Distinct, NonEmpty, In, Canon, Canonical}
use Rattle.trie.proofs.DegreeLaws.{one_hash}
use Rattle.arena.specs.Shows.{behind, ShowsChain, Shows, ShowsRow, ShowsMap}
use Rattle.arena.specs.Sound.{Reached, from_slot, from_cell}
use Rattle.arena.proofs.RefLaws.{refs_entry}
use Rattle.arena.proofs.Few.{chain_few}
use Rattle.audits.proofs.Shown.{ChainAt}
use Rattle.levels.proofs.Paths.{asked}

-- a node that r shows at the end of a path, with this many depths left
pub record Standing (z : Shape) (σ : State) (r : ℕ) : Type 0 where
  pub node : Node ℕ
  pub path : List ℕ
  pub left : ℕ
  pub shows : Shows σ node (length path) r
  pub canon : Canon (segment z.bits) Word64 (asked (length path)) left path node
  pub place : left + length path ≡ z.depths
  pub few : length (listing_node node) ≤ z.entries

-- THE ROOT OF AN EDITION
pub root_Standing : (z : Shape) (σ : State) (m : Map ℕ) (r : ℕ) → Canonical (segment z.bits) Word64 z.depths m
    → ShowsMap σ m r → size m ≤ z.entries → (r ≡ 0 → ⊥) → Standing z σ r
unfolding Canonical ShowsMap size listing
root_Standing z σ empty r c h f nz = absurd (nz h)
root_Standing z σ (root m) r c h f nz =
    record { node = m; path = []; left = z.depths; shows = h; canon = unfold asked in c; place = omega arith; few = f }

-- WHAT A CELL NAMES. A child of a branch has a part of the branch's entries.
row_Standing : (z : Shape) (σ : State) (n : ℕ) (path : List ℕ) (ks : Kids ℕ) (f : ℕ → ℕ) → suc n + length path ≡ z.depths
    → ShowsRow σ ks (length path) f → AllKids (λ s m. Canon (segment z.bits) Word64 Busy n (s ∷ path) m) ks
    → length (listing_kids ks) ≤ z.entries → (k : ℕ) → (f k ≡ 0 → ⊥) → Standing z σ (f k)
unfolding Shows AllKids listing_node
row_Standing z σ n path none f p h a l k nz = absurd (nz (h k))
row_Standing z σ n path (kid s m ks) f p h a l zero nz =
    record {
      node = m;
      path = s ∷ path;
      left = n;
      shows = h.0;
      canon = unfold asked in a.0;
      place = omega arith;
      few = omega (arith, length-append (listing_node m) (listing_kids ks));
    }
row_Standing z σ n path (kid s m ks) f p h a l (suc k) nz =
    row_Standing z σ n path ks (behind f) p h.1 a.1 (omega (arith, length-append (listing_node m) (listing_kids ks))) k nz

module _ (z : Shape) (σ : State) (clip : (q k : ℕ) → refs z q ≤ k → σ.kid q k ≡ 0) where
  entry_one : (q k : ℕ) → kind_of q ≡ 1 → σ.kid q (suc k) ≡ 0
  entry_one q k odd =
      ⊎_elim (λ e. clip q (suc k) (omega arith)) (λ ne. clip q (suc k) (omega (arith, refs_entry z q (omega arith) odd)))
      (eq? (refs z q) 0)

  -- a chain goes on only where no depth is left
  tail_Standing : (q : ℕ) (x : Item ℕ) (xs : List (Item ℕ)) (n : ℕ) (path : List ℕ) → ShowsChain σ (x ∷ xs) q
      → Canon (segment z.bits) Word64 (asked (length path)) n path (leaf (x ∷ xs)) → n + length path ≡ z.depths
      → length (listing_chain (x ∷ xs)) ≤ z.entries → (σ.kid q 0 ≡ 0 → ⊥) → Standing z σ (σ.kid q 0)
  unfolding ShowsChain Canon listing_chain AllItems Distinct NonEmpty
  tail_Standing q x [] n path h c p l nz = absurd (nz h.3)
  tail_Standing q x (y ∷ ys) zero path h c p l nz =
      record {
        node = leaf (y ∷ ys);
        path = path;
        left = 0;
        shows = unfold Shows in h.3;
        canon = (tt, c.1.1, c.2.1);
        place = p;
        few = unfold listing_node in (omega (arith, l));
      }
  tail_Standing q x (y ∷ ys) (suc n) path h c p l nz = absurd c

  kid_shown : (q k : ℕ) (m : Node ℕ) (n : ℕ) (path : List ℕ) → Shows σ m (length path) q
      → Canon (segment z.bits) Word64 (asked (length path)) n path m → n + length path ≡ z.depths
      → length (listing_node m) ≤ z.entries → (σ.kid q k ≡ 0 → ⊥) → Standing z σ (σ.kid q k)
  unfolding Shows listing_node
  kid_shown q k (leaf []) n path h c p l nz = absurd h
  kid_shown q zero (leaf (x ∷ xs)) n path h c p l nz = tail_Standing q x xs n path h c p l nz
  kid_shown q (suc k) (leaf (x ∷ xs)) n path h c p l nz =
      absurd (nz (entry_one q k (unfold ShowsChain in (omega (arith, h.0)))))
  kid_shown q k (branch b ks) zero path h c p l nz = absurd (unfold Canon in c)
  kid_shown q k (branch b ks) (suc n) path h c p l nz =
      row_Standing z σ n path ks (σ.kid q) p h.5 (unfold Canon in c.2) l k nz

  -- WHAT IS REACHED STANDS, if the held roots do
  module _ (held : (s : ℕ) → s < z.slots → σ.held s ≡ 1 → (σ.root s ≡ 0 → ⊥) → Standing z σ (σ.root s)) where
    pub Reached-Standing : (r : ℕ) → Reached z σ r → Standing z σ r
    Reached-Standing r (from_slot s l e nz) = held s l e nz
    Reached-Standing r (from_cell q k w nz) =
        let p = Reached-Standing q w in kid_shown q k p.node p.left p.path p.shows p.canon p.place p.few nz

-- ONE HASH to a chain: its entries are under a path of all depths
module _ (z : Shape) (w : Allowed z) where
  abbrev In64 : List ℕ → Entry → Type 0
  In64 path e = In (segment z.bits) Word64 path e

  all_one : (path : List ℕ) → length path ≡ z.depths → (e : Entry) → In64 path e → (g : ℕ) → g ≡ e.hash
      → (xs : List (Item ℕ)) → AllItems (In64 path) xs → AllItems (λ x. (x.hash ≡ g) × Word64 x) xs
  unfolding AllItems
  all_one path len e i g q [] a = tt
  all_one path len e i g q (x ∷ xs) a =
      ((one_hash (row_in z w) (row_is_Right z w) path len x.entry e a.0 i ∙ sym q, a.0.1), all_one path len e i g q xs a.1)

  module _ (σ : State) (live : (r : ℕ) → 0 < σ.count r → 0 < refs z r) where
    -- THE CHAIN THAT AN ENTRY SHOWS
    leaf_chain : (r : ℕ) (x : Item ℕ) (xs : List (Item ℕ)) (n : ℕ) (path : List ℕ) → ShowsChain σ (x ∷ xs) r
        → Canon (segment z.bits) Word64 (asked (length path)) n path (leaf (x ∷ xs)) → n + length path ≡ z.depths
        → ChainAt z σ r
    unfolding Canon AllItems Distinct ShowsChain
    leaf_chain r x xs zero path h c p =
        record {
          items = x ∷ xs;
          shows = h;
          some = omega arith;
          few = chain_few z σ live (x ∷ xs) r h;
          one_hash = all_one path (omega arith) x.entry c.1.0 (σ.plain r 0) h.4 (x ∷ xs) c.1;
          distinct = c.2;
        }
    leaf_chain r x [] (suc n) path h c p =
        record {
          items = x ∷ [];
          shows = h;
          some = omega arith;
          few = chain_few z σ live (x ∷ []) r h;
          one_hash = ((sym h.4, c.1), tt);
          distinct = (unfold find in refl, tt);
        }
    leaf_chain r x (y ∷ ys) (suc n) path h c p = absurd c

    node_chain : (r : ℕ) (m : Node ℕ) (n : ℕ) (path : List ℕ) → kind_of r ≡ 1 → Shows σ m (length path) r
        → Canon (segment z.bits) Word64 (asked (length path)) n path m → n + length path ≡ z.depths → ChainAt z σ r
    unfolding Shows
    node_chain r (leaf []) n path e h c p = absurd h
    node_chain r (leaf (x ∷ xs)) n path e h c p = leaf_chain r x xs n path h c p
    node_chain r (branch b ks) n path e h c p = absurd (omega (arith, h.0))

    pub Standing-chain : (r : ℕ) → kind_of r ≡ 1 → Standing z σ r → ChainAt z σ r
    Standing-chain r e s = node_chain r s.node s.left s.path e s.shows s.canon s.place

-- A BRANCH STANDS AT ITS DEPTH
branch_depth : (σ : State) (m : Node ℕ) (t r : ℕ) → kind_of r ≡ 0 → Shows σ m t r → σ.mark r ≡ t
unfolding Shows ShowsChain
branch_depth σ (leaf []) t r e h = absurd h
branch_depth σ (leaf (x ∷ xs)) t r e h = absurd (omega (arith, h.0))
branch_depth σ (branch c ks) t r e h = h.2

pub standing_depth : {z : Shape} {σ : State} {r : ℕ} → kind_of r ≡ 0 → (s : Standing z σ r) → σ.mark r ≡ length s.path
standing_depth {z} {σ} {r} e s = branch_depth σ s.node (length s.path) r e s.shows
