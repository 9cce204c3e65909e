-- An edition names each of its cells once, so its branches and entries are no more than the arena's. A reference shows one node
-- wherever it stands, and the first entry below that node has the segments of every path that leads there: it cannot stand
-- under two children of one branch. It does not stand below itself either, since what it shows would be smaller than itself.
use Prim.Native.Nat.{ℕ, zero, suc, ◌≤◌, ◌<◌}
use mathlib.Core.Path.{◌≡◌, refl, sym, ap, ◌∙◌}
use mathlib.Core.Logic.{⊎_elim}
use mathlib.Core.List.{[], List, ◌∷◌}
use native.Mathlib.Omega.{arith}
use lib.ListN.{length}
use Rattle.cases.proofs.Cases.{eq?}
use Rattle.counts.specs.Counts.{ind, sum_to}
use Rattle.counts.proofs.CountLaws.{ind_same, ind_other, sum_ext, sum_le, sum_add, sum_ind}
use Rattle.layout.specs.declared.Shape.{Shape}
use Rattle.layout.specs.Layout.{reference, kind_of, cells_of}
use Rattle.layout.specs.Columns.{State, columns, refs}
use Rattle.trie.specs.declared.Entry.{Entry}
use Rattle.trie.specs.Trie.{Node, leaf, branch, Kids, none, kid, Item, Map, empty, root, size}
use Rattle.trie.specs.Canon.{Above, Asc, AllKids, Some, Busy, AllItems, NonEmpty, Under, In, Canon, Canonical}
use Rattle.trie.specs.Names.{cells, total, totals, branch_sum, entry_sum, on_map}
use Rattle.trie.proofs.KidsLaws.{Above-Asc}
use Rattle.trie.proofs.RemoveCanon.{Canon-root}
use Rattle.trie.proofs.Sums.{size_count}
use Rattle.arena.specs.Shows.{behind, ShowsChain, Shows, ShowsRow, ShowsMap}
use Rattle.arena.proofs.RefLaws.{ref_cell}
use Rattle.arena.proofs.Unique.{Shows-one}
use Rattle.arena.proofs.Clipped.{columns-Clipped}

-- how often the reference q stands in a chain, in a node and among children
abbrev pub in_chain : ℕ → List (Item ℕ) → ℕ
in_chain q xs = cells (λ c. ind q (reference 1 c)) xs

abbrev pub in_node : ℕ → Node ℕ → ℕ
in_node q m = total (λ c. ind q (reference 0 c)) (in_chain q) m

abbrev pub in_kids : ℕ → Kids ℕ → ℕ
in_kids q ks = totals (λ c. ind q (reference 0 c)) (in_chain q) ks

-- how many cells there are
abbrev many : Node ℕ → ℕ
many m = total (λ c. 1) length m

abbrev many_in : Kids ℕ → ℕ
many_in ks = totals (λ c. 1) length ks

-- the hash of the first entry
unfoldable mutual
  first : Node ℕ → ℕ
  first (leaf []) = 0
  first (leaf (x ∷ xs)) = x.entry.hash
  first (branch c ks) = first_in ks

  first_in : Kids ℕ → ℕ
  first_in none = 0
  first_in (kid s m ks) = first m

-- a name is the reference, or counts as nothing
here_or_not : {A : Type 0} (q x : ℕ) → (x ≡ q → ind q x ≡ 1 → A) → (ind q x ≡ 0 → A) → A
here_or_not q x here not_here = ⊎_elim (λ e. here e (ind_same q x e)) (λ ne. not_here (ind_other q x ne)) (eq? x q)

-- THE FIRST ENTRY OF A CANONICAL NODE has the segments of the node's path, as all its entries have
module _ (seg : ℕ → ℕ → ℕ) (W : Entry → Type 0) where
  Canon-items : (xs : List (Item ℕ)) (d : ℕ) (path : List ℕ) → Canon seg W Some d path (leaf xs) → AllItems (In seg W path) xs
  unfolding Canon AllItems
  Canon-items xs zero path c = c.1
  Canon-items [] (suc d) path c = absurd c
  Canon-items (x ∷ []) (suc d) path c = (c, tt)
  Canon-items (x ∷ (y ∷ xs)) (suc d) path c = absurd c

  mutual
    unfolding first Canon AllKids AllItems Under NonEmpty Some

    first_under : (m : Node ℕ) (d : ℕ) (path : List ℕ) → Canon seg W Some d path m → Under seg path (first m)
    first_under (leaf []) zero path c = absurd c.0
    first_under (leaf []) (suc d) path c = absurd c
    first_under (leaf (x ∷ xs)) d path c = (Canon-items (x ∷ xs) d path c).0.0
    first_under (branch b ks) zero path c = absurd c
    first_under (branch b ks) (suc d) path c = first_in-Under ks d path c.0 c.2

    first_in-Under : (ks : Kids ℕ) (d : ℕ) (path : List ℕ) → Some ks
        → AllKids (λ s m. Canon seg W Busy d (s ∷ path) m) ks → Under seg path (first_in ks)
    first_in-Under none d path some a = absurd some
    first_in-Under (kid s m ks) d path some a = (first_under m d (s ∷ path) (Canon-root seg W d (s ∷ path) m a.0)).1

all_items : (xs : List (Item ℕ)) → AllItems (λ e. Unit {0}) xs
unfolding AllItems
all_items [] = tt
all_items (x ∷ xs) = (tt, all_items xs)

module _ (σ : State) where
  leaf-Shows : (xs : List (Item ℕ)) (t r : ℕ) → Shows σ (leaf xs) t r → ShowsChain σ xs r
  unfolding Shows
  leaf-Shows [] t r h = absurd h
  leaf-Shows (x ∷ xs) t r h = h

  -- CHAINS. A reference that stands in a chain shows a part of it, which begins with an entry of which P holds if it holds of
  -- the chain's.
  chain_found : (P : Entry → Type 0) (q : ℕ) (xs : List (Item ℕ)) (r : ℕ) → AllItems P xs → ShowsChain σ xs r → 0 < in_chain q xs
      → (y : Item ℕ) × (ys : List (Item ℕ)) × ShowsChain σ (y ∷ ys) q × P y.entry × (length ys < length xs)
  unfolding cells ShowsChain AllItems
  chain_found P q [] r a h l = absurd (omega arith)
  chain_found P q (x ∷ xs) r a h l =
      here_or_not q (reference 1 x.cell)
      (λ e o. let g : q ≡ r = sym e ∙ sym h.0 in (x, xs, rw g h, a.0, omega arith))
      (λ o. let w = chain_found P q xs (σ.kid r 0) a.1 h.3 (omega arith) in (w.0, w.1, w.2, w.3, omega (arith, w.4)))

  -- the lengths in a chain's cells fall, so none stands in it twice
  chain_once : (q : ℕ) (xs : List (Item ℕ)) (r : ℕ) → ShowsChain σ xs r → in_chain q xs ≤ 1
  unfolding cells ShowsChain
  chain_once q [] r h = omega arith
  chain_once q (x ∷ xs) r h =
      here_or_not q (reference 1 x.cell)
      (λ e o.
      ⊎_elim
      (λ n. omega arith)
      (λ nz.
      let w = chain_found (λ y. Unit {0}) q xs (σ.kid r 0) (all_items xs) h.3 (omega arith) in
      let g : q ≡ r = sym e ∙ sym h.0 in
      absurd (omega (arith, h.2, w.2.2, w.4, ap σ.mark g)))
      (eq? (in_chain q xs) 0))
      (λ o. omega (arith, chain_once q xs (σ.kid r 0) h.3))

  -- NODES. A reference that stands in a canonical node shows a node that is no larger, and whose first entry has the segments of
  -- the path.
  module _ (seg : ℕ → ℕ → ℕ) (W : Entry → Type 0) (q : ℕ) where
    abbrev Found : List ℕ → ℕ → Type 0
    Found path b = (n : Node ℕ) × (t : ℕ) × Shows σ n t q × Under seg path (first n) × (many n ≤ b)

    abbrev Each : ℕ → List ℕ → Kids ℕ → Type 0
    Each d path ks = AllKids (λ s m. Canon seg W Busy d (s ∷ path) m) ks

    mutual
      unfolding total Shows Canon AllKids Asc Above Under first

      node_Found : (m : Node ℕ) (d : ℕ) (path : List ℕ) (t r : ℕ) → Canon seg W Some d path m → Shows σ m t r
          → 0 < in_node q m → Found path (many m)
      node_Found (leaf xs) d path t r c h l =
          let w = chain_found (In seg W path) q xs r (Canon-items seg W xs d path c) (leaf-Shows xs t r h) l in
          (leaf (w.0 ∷ w.1), 0, w.2, w.3.0, w.4)
      node_Found (branch b ks) zero path t r c h l = absurd c
      node_Found (branch b ks) (suc d) path t r c h l =
          here_or_not q (reference 0 b)
          (λ e o. let g : q ≡ r = sym e ∙ sym h.0 in
          (branch b ks, t, rw g h, first_under seg W (branch b ks) (suc d) path c, omega arith))
          (λ o. let (j, up, (n, u, s, v, l)) = kids_Found ks d path t (σ.kid r) c.1 c.2 h.5 (omega arith) in
          (n, u, s, v.1, omega arith))

      -- and it stands under a segment that is above whatever the segments are above
      kids_Found : (ks : Kids ℕ) (d : ℕ) (path : List ℕ) (t : ℕ) (f : ℕ → ℕ) → Asc ks → Each d path ks → ShowsRow σ ks t f
          → 0 < in_kids q ks → (j : ℕ) × ((lo : ℕ) → Above lo ks → lo < j) × Found (j ∷ path) (many_in ks)
      kids_Found none d path t f asc a h l = absurd (omega arith)
      kids_Found (kid i m ks) d path t f asc a h l =
          ⊎_elim
          (λ z. let (j, up, (n, u, s, v, l)) = kids_Found ks d path t (behind f) (Above-Asc i ks asc) a.1 h.1 (omega arith) in
          (j, λ lo o. omega (arith, o.0, up i o.1), (n, u, s, v, omega arith)))
          (λ nz. let (n, u, s, v, l) = node_Found m d (i ∷ path) (suc t) (f 0) (Canon-root seg W d (i ∷ path) m a.0) h.0
          (omega arith) in
          (i, λ lo o. o.0, (n, u, s, v, omega arith)))
          (eq? (in_node q m) 0)

    -- two places that show one reference show one node, so their paths have the same last segment
    one_segment : (i j : ℕ) (path : List ℕ) (a b : ℕ) → Found (i ∷ path) a → Found (j ∷ path) b → i ≡ j
    unfolding Under
    one_segment i j path a b (n, t, s, v, l) (n', t', s', v', l') =
        sym v.0 ∙ ap (λ (x : Node ℕ). seg (length path) (first x)) (Shows-one σ n n' t t' q s s') ∙ v'.0

    mutual
      unfolding total Shows Canon AllKids Asc

      pub node_once : (m : Node ℕ) (d : ℕ) (path : List ℕ) (t r : ℕ) → Canon seg W Some d path m → Shows σ m t r → in_node q m ≤ 1
      node_once (leaf xs) d path t r c h = chain_once q xs r (leaf-Shows xs t r h)
      node_once (branch b ks) zero path t r c h = absurd c
      node_once (branch b ks) (suc d) path t r c h =
          here_or_not q (reference 0 b)
          (λ e o.
          ⊎_elim
          (λ z. omega arith)
          (λ nz.
          let (j, up, (n, u, s, v, l)) = kids_Found ks d path t (σ.kid r) c.1 c.2 h.5 (omega arith) in
          let g : q ≡ r = sym e ∙ sym h.0 in
          let p : many n ≡ many (branch b ks) = ap (λ (x : Node ℕ). many x) (Shows-one σ n (branch b ks) u t q s (rw g h)) in
          absurd (omega arith))
          (eq? (in_kids q ks) 0))
          (λ o. omega (arith, kids_once ks d path t (σ.kid r) c.1 c.2 h.5))

      kids_once : (ks : Kids ℕ) (d : ℕ) (path : List ℕ) (t : ℕ) (f : ℕ → ℕ) → Asc ks → Each d path ks → ShowsRow σ ks t f
          → in_kids q ks ≤ 1
      kids_once none d path t f asc a h = omega arith
      kids_once (kid i m ks) d path t f asc a h =
          let up : Asc ks = Above-Asc i ks asc in
          let c : Canon seg W Some d (i ∷ path) m = Canon-root seg W d (i ∷ path) m a.0 in
          let x = node_once m d (i ∷ path) (suc t) (f 0) c h.0 in
          let y = kids_once ks d path t (behind f) up a.1 h.1 in
          ⊎_elim
          (λ z. omega arith)
          (λ nz.
          ⊎_elim
          (λ z. omega arith)
          (λ some.
          let v = kids_Found ks d path t (behind f) up a.1 h.1 (omega arith) in
          let w = node_Found m d (i ∷ path) (suc t) (f 0) c h.0 (omega arith) in
          absurd (omega (arith, v.1 i asc, one_segment i v.0 path (many m) (many_in ks) w v.2)))
          (eq? (in_kids q ks) 0))
          (eq? (in_node q m) 0)

-- HOW MANY CELLS OF A KIND. Each is named at most once, so a sum over the cells of a kind is at most as many as these are.
reference-ind : (k b c : ℕ) → ind (reference k b) (reference k c) ≡ ind b c
reference-ind k b c =
    here_or_not b c
    (λ e o. ind_same (reference k b) (reference k c) (omega arith) ∙ sym o)
    (λ o. ind_other (reference k b) (reference k c) (λ e. omega (arith, ind_same b c (omega arith))) ∙ sym o)

once_named : (k n c : ℕ) → c < n → sum_to n (λ b. ind (reference k b) (reference k c)) ≡ 1
once_named k n c l =
    sum_ext n (λ b. ind (reference k b) (reference k c)) (λ b. ind b c) (λ b m. reference-ind k b c) ∙ sum_ind n c l

cells-length : (xs : List (Item ℕ)) → cells (λ c. 1) xs ≡ length xs
unfolding cells
cells-length [] = refl
cells-length (x ∷ xs) = omega (arith, cells-length xs)

module _ (z : Shape) (σ : State) (live : (r : ℕ) → 0 < σ.count r → 0 < refs z r) where
  cell_in : (k c r : ℕ) → k < 2 → r ≡ reference k c → 0 < σ.count r → c < cells_of z k
  cell_in k c r b e l = let o : kind_of r ≡ k = omega arith in omega (arith, rw o at (ref_cell z r (live r l)).0)

  -- CHAINS, of any trie
  chain_within : (xs : List (Item ℕ)) (r : ℕ) → ShowsChain σ xs r
      → cells (λ c. 1) xs ≤ sum_to z.entries (λ b. in_chain (reference 1 b) xs)
  unfolding cells ShowsChain cells_of
  chain_within [] r h = omega arith
  chain_within (x ∷ xs) r h =
      omega (
        arith,
        sum_add z.entries (λ b. ind (reference 1 b) (reference 1 x.cell)) (λ b. in_chain (reference 1 b) xs),
        once_named 1 z.entries x.cell (cell_in 1 x.cell r (omega arith) h.0 h.1),
        chain_within xs (σ.kid r 0) h.3,
      )

  pub chain_few : (xs : List (Item ℕ)) (r : ℕ) → ShowsChain σ xs r → length xs ≤ z.entries
  chain_few xs r h =
      omega (
        arith,
        cells-length xs,
        chain_within xs r h,
        sum_le z.entries (λ b. in_chain (reference 1 b) xs) 1 (λ b. chain_once σ (reference 1 b) xs r h),
      )

  -- CANONICAL TRIES. u and v are what a branch and a chain count for, within how often the n cells of a kind stand there
  module _ (k n : ℕ) (u : ℕ → ℕ) (v : List (Item ℕ) → ℕ)
      (of_branch : (c : ℕ) → c < z.branches → u c ≤ sum_to n (λ b. ind (reference k b) (reference 0 c)))
      (of_chain : (xs : List (Item ℕ)) (r : ℕ) → ShowsChain σ xs r → v xs ≤ sum_to n (λ b. in_chain (reference k b) xs)) where
    mutual
      unfolding total Shows cells_of

      node_within : (m : Node ℕ) (t r : ℕ) → Shows σ m t r → total u v m ≤ sum_to n (λ b. in_node (reference k b) m)
      node_within (leaf xs) t r h = of_chain xs r (leaf-Shows σ xs t r h)
      node_within (branch c ks) t r h =
          omega (
            arith,
            sum_add n (λ b. ind (reference k b) (reference 0 c)) (λ b. in_kids (reference k b) ks),
            of_branch c (cell_in 0 c r (omega arith) h.0 h.1),
            kids_within ks t (σ.kid r) h.5,
          )

      kids_within : (ks : Kids ℕ) (t : ℕ) (f : ℕ → ℕ) → ShowsRow σ ks t f
          → totals u v ks ≤ sum_to n (λ b. in_kids (reference k b) ks)
      kids_within none t f h = omega arith
      kids_within (kid s m ks) t f h =
          omega (
            arith,
            sum_add n (λ b. in_node (reference k b) m) (λ b. in_kids (reference k b) ks),
            node_within m (suc t) (f 0) h.0,
            kids_within ks t (behind f) h.1,
          )

    few : (seg : ℕ → ℕ → ℕ) (W : Entry → Type 0) (d : ℕ) (m : Map ℕ) (r : ℕ) → Canonical seg W d m → ShowsMap σ m r
        → on_map (total u v) m ≤ n
    unfolding on_map Canonical ShowsMap
    few seg W d empty r c h = omega arith
    few seg W d (root m) r c h =
        omega (
          arith,
          node_within m 0 r h,
          sum_le n (λ b. in_node (reference k b) m) 1 (λ b. node_once σ seg W (reference k b) m d [] 0 r c h),
        )

  -- the branches and the entries of a canonical trie are no more than the arena has cells of their kind
  module _ (seg : ℕ → ℕ → ℕ) (W : Entry → Type 0) where
    pub branches_few : (d : ℕ) (m : Map ℕ) (r : ℕ) → Canonical seg W d m → ShowsMap σ m r
        → on_map (branch_sum (λ c. 1)) m ≤ z.branches
    branches_few =
        few 0 z.branches (λ c. 1) (λ xs. 0) (λ c l. omega (arith, once_named 0 z.branches c l)) (λ xs r h. omega arith) seg W

    pub entries_few : (d : ℕ) (m : Map ℕ) (r : ℕ) → Canonical seg W d m → ShowsMap σ m r
        → on_map (entry_sum (λ c. 1)) m ≤ z.entries
    entries_few = few 1 z.entries (λ c. 0) (cells (λ c. 1)) (λ c l. omega arith) chain_within seg W

    pub size_few : (d : ℕ) (m : Map ℕ) (r : ℕ) → Canonical seg W d m → ShowsMap σ m r → size m ≤ z.entries
    size_few d m r c h = omega (arith, size_count m, entries_few d m r c h)

-- a reference with a count names a cell, where the columns are an arena's words
pub columns_live : (z : Shape) (a : List ℕ) → 0 < z.degree → (r : ℕ) → 0 < (columns z a).count r → 0 < refs z r
columns_live z a d r l =
    ⊎_elim (λ e. absurd (omega (arith, (columns-Clipped z a d).no_count r e))) (λ ne. omega arith) (eq? (refs z r) 0)
