-- On an edition the walk meets the trie's listing: a chain from its front on, and a branch's children one after the other, each
-- in as many steps as it has cells. A branch is left by the place that waits for it, once its children are over.
use Rattle.arena.proofs.Few.{columns_live, branches_few, entries_few}
use Rattle.lookup.proofs.FindLaws.{kind_is, kid_out}
use Rattle.lookup.proofs.Meaning.{live_named}
use Prim.Native.Nat.{ℕ, zero, suc, ◌+◌, ◌-◌, ◌*◌, ◌/◌, ◌%◌, ◌≤◌, ◌<◌}
use mathlib.Core.Path.{◌≡◌, refl, sym, ap, ◌∙◌}
use mathlib.Core.Bool.{true}
use mathlib.Core.Logic.{⊎_elim}
use mathlib.Core.List.{List, [], ◌∷◌, ◌++◌, append-nil, append_assoc}
use native.Mathlib.Nat.{mul-le-mul}
use native.Mathlib.Omega.{arith}
use lib.ListN.{length}
use Rattle.cases.proofs.Cases.{lt?}
use Rattle.trie.specs.declared.Entry.{Entry}
use Rattle.trie.specs.Trie.{Node, leaf, branch, Kids, none, kid, Item, Map, empty, root, listing_chain, listing_node, listing_kids, listing}
use Rattle.trie.specs.Canon.{AllKids, Some, Busy, Canon, Canonical}
use Rattle.trie.specs.Names.{cells, total, totals, branch_sum, entry_sum, on_map}
use Rattle.trie.proofs.RemoveCanon.{Canon-root}
use Rattle.layout.specs.declared.Shape.{Shape}
use Rattle.layout.specs.Layout.{names, Allowed}
use Rattle.layout.specs.Columns.{State, columns}
use Rattle.layout.proofs.SizeLaws.{small, row_is_Right}
use Rattle.layout.proofs.ColumnLaws.{refs_few}
use Rattle.arena.specs.Shows.{behind, ShowsChain, Shows, ShowsRow, ShowsMap}
use Rattle.arena.proofs.Frames.{shown_some}
use Rattle.lookup.specs.Lookup.{names_kind, entry_at}
use Rattle.iter.specs.Met.{visits, place_of, waits, climbed, behind_entry, enters, met_from, met}
use Rattle.iter.proofs.WalkLaws.{on_from, step_entry, step_stop, met_enter, climbed_none, climbed_some, behind_next, behind_climb}

-- CELLS. How many a node has, and the children of a branch
abbrev one : ℕ → ℕ
one c = 1

abbrev pub cells_in : Node ℕ → ℕ
cells_in m = total one (cells one) m

abbrev cells_over : Kids ℕ → ℕ
cells_over ks = totals one (cells one) ks

cells-length : (xs : List (Item ℕ)) → cells one xs ≡ length xs
unfolding cells
cells-length [] = refl
cells-length (x ∷ xs) = omega (arith, cells-length xs)

-- they are its branches and its entries
mutual
  unfolding total

  cells_both : (m : Node ℕ) → cells_in m ≡ branch_sum one m + entry_sum one m
  cells_both (leaf xs) = omega arith
  cells_both (branch c ks) = omega (arith, overs_both ks)

  overs_both : (ks : Kids ℕ) → cells_over ks ≡ totals one (λ xs. 0) ks + totals (λ c. 0) (cells one) ks
  overs_both none = omega arith
  overs_both (kid s m ks) = omega (arith, cells_both m, overs_both ks)

pub map_both : (m : Map ℕ) → on_map cells_in m ≡ on_map (branch_sum one) m + on_map (entry_sum one) m
unfolding on_map
map_both empty = omega arith
map_both (root m) = cells_both m

-- 0 names no cell, so nothing is met from there on
nothing_met : (z : Shape) (σ : State) (n : ℕ) → met_from z σ n 0 [] ≡ []
nothing_met z σ zero = unfold met_from in refl
nothing_met z σ (suc n) = step_stop z σ n 0 [] (unfold names_kind names in refl) (unfold names_kind names enters in refl)

-- a place is a branch and a child
waits_at : (σ : State) (r k : ℕ) → k ≤ 64 → waits σ (place_of r k) ≡ σ.kid r k
waits_at σ r k l =
    let d : place_of r k / 128 ≡ r = omega arith in
    let m : place_of r k % 128 ≡ k = omega arith in
    λ i. σ.kid (d i) (m i)

module _ (z : Shape) (σ : State) (live : (r : ℕ) → 0 < σ.count r → names z r ≡ true)
    (few : (r k : ℕ) → 64 ≤ k → σ.kid r k ≡ 0) where
  -- what is met from the next child of the last branch that has one
  abbrev onwards : ℕ → List ℕ → List Entry
  onwards n ps = on_from z σ n (climbed σ ps)

  -- where no branch waits, nothing
  end_met : (n : ℕ) → onwards n [] ≡ []
  unfolding climbed
  end_met n = nothing_met z σ n

  -- CHAINS
  -- a chain's front is met, and the walk goes on behind it
  front_met : (x : Item ℕ) (xs : List (Item ℕ)) (r : ℕ) → ShowsChain σ (x ∷ xs) r → (n : ℕ) (ps : List ℕ)
      → met_from z σ (length (x ∷ xs) + n) r ps ≡ x.entry ∷ on_from z σ (length xs + n) (behind_entry σ r ps)
  unfolding ShowsChain
  front_met x xs r (e, l, len, nx, h, k, v) n ps =
      let s : length (x ∷ xs) + n ≡ suc (length xs + n) = omega arith in
      let same : entry_at σ r ≡ x.entry = λ i. record { hash = h i; key = k i; value = v i } in
      rw s (step_entry z σ (length xs + n) r ps (kind_is z 1 r (live r l) (omega arith)))
      ∙ ap (λ (y : Entry). y ∷ on_from z σ (length xs + n) (behind_entry σ r ps)) same

  -- all of it is met, then what waits above it
  chain_met : (x : Item ℕ) (xs : List (Item ℕ)) (r : ℕ) → ShowsChain σ (x ∷ xs) r → (n : ℕ) (ps : List ℕ)
      → met_from z σ (length (x ∷ xs) + n) r ps ≡ listing_chain (x ∷ xs) ++ onwards n ps
  unfolding ShowsChain listing_chain
  chain_met x [] r c n ps =
      let s : 0 + n ≡ n = omega arith in front_met x [] r c n ps ∙ rw (behind_climb σ r ps c.3, s)
  chain_met x (y ∷ ys) r c n ps =
      front_met x (y ∷ ys) r c n ps
      ∙ rw (behind_next σ r ps (λ e. omega (arith, c.3.0)))
      (ap (λ (es : List Entry). x.entry ∷ es) (chain_met y ys (σ.kid r 0) c.3 n ps))

  -- NODES AND ROWS
  -- Where a child waits the walk goes on to it.
  next_met : (r k n : ℕ) (ps : List ℕ) → k ≤ 64 → (σ.kid r k ≡ 0 → ⊥)
      → onwards n (place_of r k ∷ ps) ≡ met_from z σ n (σ.kid r k) (place_of r (suc k) ∷ ps)
  next_met r k n ps l nz =
      let w = waits_at σ r k l in
      let p : suc (place_of r k) ≡ place_of r (suc k) = omega arith in
      ap (on_from z σ n) (climbed_some σ (place_of r k) ps (λ e. nz (sym w ∙ e))) ∙ (λ i. met_from z σ n (w i) (p i ∷ ps))

  -- a row that shows children has one in front
  first_some : (ks : Kids ℕ) (t : ℕ) (f : ℕ → ℕ) → ShowsRow σ ks t f → Some ks → f 0 ≡ 0 → ⊥
  unfolding Shows Some
  first_some none t f row s = absurd s
  first_some (kid i m ks) t f row s = shown_some σ m (suc t) (f 0) row.0

  module _ (seg : ℕ → ℕ → ℕ) (W : Entry → Type 0) where
    mutual
      unfolding Shows Canon AllKids listing_node total

      -- a node's cells are met, then what waits above it; a place is taken at each of its depths, so that there is one for each
      -- branch
      node_met : (m : Node ℕ) (d t r : ℕ) (path : List ℕ) → Shows σ m t r → Canon seg W Some d path m
          → (n : ℕ) (ps : List ℕ) → length ps ≤ t → t + d ≤ 64
          → met_from z σ (cells_in m + n) r ps ≡ listing_node m ++ onwards n ps
      node_met (leaf []) d t r path h c n ps lp ld = absurd h
      node_met (leaf (x ∷ xs)) d t r path h c n ps lp ld = rw (cells-length (x ∷ xs)) (chain_met x xs r h n ps)
      node_met (branch b ks) zero t r path h c n ps lp ld = absurd c
      node_met (branch b ks) (suc d) t r path (e, l, mk, bm, asc, row) c n ps lp ld =
          let more = cells_over ks + n in
          let u : cells_in (branch b ks) + n ≡ suc more = omega arith in
          rw u (met_enter z σ more r ps (kind_is z 0 r (live r l) (omega arith)) (omega arith))
          ∙ sym (next_met r 0 more ps (omega arith) (first_some ks t (σ.kid r) row c.0))
          ∙ row_met ks d t r 0 path (σ.kid r) row (λ j. ap (σ.kid r) (omega arith)) c.2 n ps lp (omega arith) (omega arith)

      -- the children of r from place k on, which are those of a row f; where they are over the place is left
      row_met : (ks : Kids ℕ) (d t r k : ℕ) (path : List ℕ) (f : ℕ → ℕ)
          → ShowsRow σ ks t f → ((j : ℕ) → f j ≡ σ.kid r (k + j)) → AllKids (λ s m. Canon seg W Busy d (s ∷ path) m) ks
          → (n : ℕ) (ps : List ℕ) → length ps ≤ t → suc t + d ≤ 64 → k ≤ 64
          → onwards (cells_over ks + n) (place_of r k ∷ ps) ≡ listing_kids ks ++ onwards n ps
      row_met none d t r k path f row same all n ps lp ld lk =
          let s : 0 + n ≡ n = omega arith in
          let u : k ≡ k + 0 = omega arith in
          rw (s, climbed_none σ (place_of r k) ps (waits_at σ r k lk ∙ ap (σ.kid r) u ∙ sym (same 0) ∙ row 0))
      row_met (kid s m ks) d t r k path f (h, row) same all n ps lp ld lk =
          let u : k + 0 ≡ k = omega arith in
          let at : f 0 ≡ σ.kid r k = same 0 ∙ ap (σ.kid r) u in
          let nz : σ.kid r k ≡ 0 → ⊥ = λ e. shown_some σ m (suc t) (f 0) h (at ∙ e) in
          let lt : k < 64 = ⊎_elim (λ l. l) (λ g. absurd (nz (few r k g))) (lt? k 64) in
          let assoc : cells_in m + cells_over ks + n ≡ cells_in m + (cells_over ks + n) = omega arith in
          next_met r k (cells_over (kid s m ks) + n) ps lk nz
          ∙ rw (assoc, ← at)
          (node_met m d (suc t) (f 0) (s ∷ path) h (Canon-root seg W d (s ∷ path) m all.0) (cells_over ks + n)
          (place_of r (suc k) ∷ ps) (omega arith) ld)
          ∙ ap (λ (es : List Entry). listing_node m ++ es)
          (row_met ks d t r (suc k) path (behind f) row (λ j. same (suc j) ∙ ap (σ.kid r) (omega arith))
          all.1 n ps lp ld (omega arith))
          ∙ sym (append_assoc (listing_node m) (listing_kids ks) (onwards n ps))

    -- MAPS. What is left of the steps is not needed.
    pub met_from_lem : (d : ℕ) → d ≤ 64 → (m : Map ℕ) (r : ℕ) → Canonical seg W d m → ShowsMap σ m r
        → (n : ℕ) → on_map cells_in m ≤ n → met_from z σ n r [] ≡ listing m
    unfolding Canonical ShowsMap on_map listing
    met_from_lem d l empty r c h n g = rw h (nothing_met z σ n)
    met_from_lem d l (root m) r c h n g =
        let rest = n - cells_in m in
        let u : n ≡ cells_in m + rest = omega arith in
        ap (λ (j : ℕ). met_from z σ j r []) u
        ∙ node_met m d 0 r [] h c rest [] (omega arith) (omega arith)
        ∙ ap (λ (es : List Entry). listing_node m ++ es) (end_met rest)
        ∙ append-nil (listing_node m)

-- WORDS. A path has at most 64 depths, as each has a bit of the hash.
depths_few : (z : Shape) → Allowed z → z.depths ≤ 64
depths_few z w =
    let k = row_is_Right z w in
    let g : (z.depths - 1) * 1 ≤ (z.depths - 1) * z.bits = mul-le-mul (omega arith) k.some_bits in
    omega (arith, k.covers, k.some_last)

-- what an arena's words show below a root is what is met there
pub met_shown : (seg : ℕ → ℕ → ℕ) (W : Entry → Type 0) (z : Shape) (a : List ℕ) → Allowed z → (m : Map ℕ) (r : ℕ)
    → Canonical seg W z.depths m → ShowsMap (columns z a) m r → met z a r ≡ listing m
met_shown seg W z a w m r c h =
    let live = columns_live z a (omega (arith, (small z w).degree_low)) in
    let lb = branches_few z (columns z a) live seg W z.depths m r c h in
    let le = entries_few z (columns z a) live seg W z.depths m r c h in
    met_from_lem z (columns z a) (live_named z a w) (λ q k l. kid_out z a q k (omega (arith, refs_few z q w))) seg W z.depths
    (depths_few z w) m r c h (visits z) (omega (arith, map_both m, lb, le))
