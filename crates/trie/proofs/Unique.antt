-- A canonical trie is determined by its listing, but for a lone entry's root. Below a branch the listing falls apart at the
-- segments, each child lists an entry, and a branch below the root lists two.
use mathlib.Core.Path.{◌≡◌, refl, sym, ◌∙◌, ap, subst}
use mathlib.Core.List.{List, [], ◌∷◌, ◌++◌}
use Prim.Native.Nat.{ℕ, zero, suc, ◌<◌, ◌≤◌}
use native.Mathlib.Omega.{arith}
use lib.ListN.{length, length-append}
use Rattle.trie.specs.Canon.{Above, Asc, AllKids, Some, Big, Busy, NonEmpty, Canon}
use Rattle.trie.specs.declared.Entry.{Entry}
use Rattle.trie.specs.Listing.{All}
use Rattle.trie.specs.Trie.{branch, Item, leaf, Node, Kids, none, kid, item, listing_chain, listing_node, listing_kids}
use Rattle.trie.proofs.InsertCanon.{Busy-Some}
use Rattle.trie.proofs.KidsLaws.{Above-Asc}
use Rattle.trie.proofs.ListingLaws.{all_above, child_segment, segmented}

-- a list that begins
pub data Begins : List Entry → Type 0 where
  begins : (e : Entry) (es : List Entry) → Begins (e ∷ es)

Begins-append : {xs : List Entry} (ys : List Entry) → Begins xs → Begins (xs ++ ys)
Begins-append ys (begins e es) = begins e (es ++ ys)

one_at_least : {xs : List Entry} → Begins xs → 1 ≤ length xs
one_at_least (begins e es) = omega arith

module _ (seg : ℕ → ℕ → ℕ) (W : Entry → Type 0) {X : Type 0} where
  -- EACH NODE LISTS AN ENTRY
  pub Canon-lists : (n : ℕ) (path : List ℕ) (Q : Kids X → Type 0) → ((ks : Kids X) → Q ks → Some ks) → (m : Node X)
      → Canon seg W Q n path m → Begins (listing_node m)
  unfolding Canon NonEmpty listing_node listing_chain
  Canon-lists zero path Q some (leaf []) (a, all, d) = absurd a
  Canon-lists zero path Q some (leaf (x ∷ xs)) c = begins x.entry (listing_chain xs)
  Canon-lists zero path Q some (branch d ks) c = absurd c
  Canon-lists (suc n) path Q some (leaf []) c = absurd c
  Canon-lists (suc n) path Q some (leaf (x ∷ [])) c = begins x.entry []
  Canon-lists (suc n) path Q some (leaf (x ∷ (y ∷ xs))) c = absurd c
  Canon-lists (suc n) path Q some (branch d none) (q, asc, all) = absurd (unfold Some in (some none q))
  Canon-lists (suc n) path Q some (branch d (kid s m ks)) (q, asc, all)
      = Begins-append (listing_kids ks) (Canon-lists n (s ∷ path) Busy Busy-Some m (unfold AllKids in all.0))

  -- A BRANCH BELOW THE ROOT LISTS TWO
  Big-lists : (n : ℕ) (path : List ℕ) (m : Node X) → Canon seg W Busy n path m → Big m → 2 ≤ length (listing_node m)
  unfolding Canon Big Busy AllKids listing_node listing_chain
  Big-lists zero path (leaf []) c a = absurd a
  Big-lists zero path (leaf (x ∷ [])) c a = absurd a
  Big-lists zero path (leaf (x ∷ (y ∷ xs))) c a = omega arith
  Big-lists zero path (branch d ks) c a = absurd c
  Big-lists (suc n) path (leaf []) c a = absurd a
  Big-lists (suc n) path (leaf (x ∷ [])) c a = absurd a
  Big-lists (suc n) path (leaf (x ∷ (y ∷ xs))) c a = absurd c
  Big-lists (suc n) path (branch d none) (q, asc, all) a = absurd q
  Big-lists (suc n) path (branch d (kid s m none)) (q, asc, (c, all)) a
      = rw (length-append (listing_node m) []) (omega (arith, Big-lists n (s ∷ path) m c q))
  Big-lists (suc n) path (branch d (kid s m (kid i l ks))) (q, asc, (c, (c', all))) a =
      rw (length-append (listing_node m) (listing_node l ++ listing_kids ks), length-append (listing_node l) (listing_kids ks))
      (omega (
        arith,
        one_at_least (Canon-lists n (s ∷ path) Busy Busy-Some m c),
        one_at_least
            (Canon-lists n (i ∷ path) Busy Busy-Some l c'),
      ))

-- two lists that fall apart at a segment are equal in both parts
module _ (seg : ℕ → ℕ → ℕ) (t i : ℕ) where
  fall_apart : (xs ys xs' ys' : List Entry) → All (λ e. seg t e.hash ≡ i) xs → All (λ e. i < seg t e.hash) ys
      → All (λ e. seg t e.hash ≡ i) xs' → All (λ e. i < seg t e.hash) ys'
      → xs ++ ys ≡ xs' ++ ys' → (xs ≡ xs') × (ys ≡ ys')
  unfolding All
  fall_apart [] ys [] ys' a b a' b' q = (refl, q)
  fall_apart [] [] (x' ∷ xs') ys' a b a' b' q = let z : ◌≡◌ {A = ℕ} 0 1 = cc in absurd (omega arith)
  fall_apart [] (y ∷ ys) (x' ∷ xs') ys' a (l, b) (p, a') b' q = let z : y ≡ x'
      = cc in absurd (let w : seg t y.hash ≡ seg t x'.hash = ap (λ (e : Entry). seg t e.hash) z in omega arith)
  fall_apart (x ∷ xs) ys [] [] a b a' b' q = let z : ◌≡◌ {A = ℕ} 0 1 = cc in absurd (omega arith)
  fall_apart (x ∷ xs) ys [] (y' ∷ ys') (p, a) b a' (l, b') q = let z : x ≡ y'
      = cc in absurd (let w : seg t x.hash ≡ seg t y'.hash = ap (λ (e : Entry). seg t e.hash) z in omega arith)
  fall_apart (x ∷ xs) ys (x' ∷ xs') ys' (p, a) b (p', a') b' q =
      let z : x ≡ x' = cc in
      let r : xs ++ ys ≡ xs' ++ ys' = cc in
      let ih : (xs ≡ xs') × (ys ≡ ys') = fall_apart xs ys xs' ys' a b a' b' r in
      (cc, ih.1)

-- tries without names
abbrev U : Type 0
U = Unit {0}

chain_unique : (xs ys : List (Item U)) → listing_chain xs ≡ listing_chain ys → xs ≡ ys
unfolding listing_chain
chain_unique [] [] q = refl
chain_unique [] (y ∷ ys) q = let z : ◌≡◌ {A = ℕ} 0 1 = cc in absurd (omega arith)
chain_unique (x ∷ xs) [] q = let z : ◌≡◌ {A = ℕ} 0 1 = cc in absurd (omega arith)
chain_unique (x ∷ xs) (y ∷ ys) q =
    let e : x.entry ≡ y.entry = cc in
    let r : listing_chain xs ≡ listing_chain ys = cc in
    ap (λ (z : Entry). item tt z ∷ xs) e ∙ ap (λ (l : List (Item U)). y ∷ l) (chain_unique xs ys r)

module _ (seg : ℕ → ℕ → ℕ) (W : Entry → Type 0) where
  first_segment : (n : ℕ) (path : List ℕ) (i i' : ℕ) (m m' : Node U) → Canon seg W Busy n (i ∷ path) m
      → Canon seg W Busy n (i' ∷ path) m' → (xs ys : List Entry)
      → listing_node m ++ xs ≡ listing_node m' ++ ys → i ≡ i'
  first_segment n path i i' m m' c c' xs ys q =
      go (listing_node m) (listing_node m') (Canon-lists seg W n (i ∷ path) Busy Busy-Some m c)
      (Canon-lists seg W n (i' ∷ path) Busy Busy-Some m' c')
      (child_segment seg W n path i m c) (child_segment seg W n path i' m' c') q
    where
      go : (ls ls' : List Entry) → Begins ls → Begins ls' → All (λ e. seg (length path) e.hash ≡ i) ls
          → All (λ e. seg (length path) e.hash ≡ i') ls' → ls ++ xs ≡ ls' ++ ys → i ≡ i'
      go ls ls' (begins e es) (begins e' es') a a' q =
          let z : e ≡ e' = cc in
          let p : seg (length path) e.hash ≡ i = unfold All in a.0 in
          let p' : seg (length path) e'.hash ≡ i' = unfold All in a'.0 in
          sym p ∙ ap (λ (e : Entry). seg (length path) e.hash) z ∙ p'

  module _ (n : ℕ) (path : List ℕ) (same : (s : ℕ) (m m' : Node U) → Canon seg W Busy n (s ∷ path) m
      → Canon seg W Busy n (s ∷ path) m' → listing_node m ≡ listing_node m' → m ≡ m') where
    none_lists : (i : ℕ) (m : Node U) (ks : Kids U) → Canon seg W Busy n (i ∷ path) m → [] ≡ listing_node m ++ listing_kids ks → ⊥
    none_lists i m ks c q = go (listing_node m ++ listing_kids ks)
        (Begins-append (listing_kids ks) (Canon-lists seg W n (i ∷ path) Busy Busy-Some m c)) q
      where
        go : (l : List Entry) → Begins l → [] ≡ l → ⊥
        go l (begins e es) q = let z : ◌≡◌ {A = ℕ} 0 1 = cc in omega arith

    kids_unique : (ks ks' : Kids U) → Asc ks → Asc ks' → AllKids (λ s m. Canon seg W Busy n (s ∷ path) m) ks
        → AllKids (λ s m. Canon seg W Busy n (s ∷ path) m) ks'
        → listing_kids ks ≡ listing_kids ks' → ks ≡ ks'
    unfolding Asc AllKids listing_node
    kids_unique none none asc asc' all all' q = refl
    kids_unique none (kid i m ks) asc asc' all (c, all') q = absurd (none_lists i m ks c q)
    kids_unique (kid i m ks) none asc asc' (c, all) all' q = absurd (none_lists i m ks c (sym q))
    kids_unique (kid i m ks) (kid i' m' ks') asc asc' (c, all) (c', all') q =
        let s : i' ≡ i = sym (first_segment n path i i' m m' c c' (listing_kids ks) (listing_kids ks') q) in
        go (subst (λ (z : ℕ). Canon seg W Busy n (z ∷ path) m') s c') (subst (λ (z : ℕ). Above z ks') s asc') s
        (λ r. kids_unique ks ks' (Above-Asc i ks asc) (Above-Asc i' ks' asc') all all' r)
      where
        go : Canon seg W Busy n (i ∷ path) m' → Above i ks' → i' ≡ i → (listing_kids ks ≡ listing_kids ks' → ks ≡ ks') → kid i m ks
            ≡ kid i' m' ks'
        go d up s ih =
            let parts : (listing_node m ≡ listing_node m') × (listing_kids ks ≡ listing_kids ks')
            = fall_apart seg (length path) i (listing_node m) (listing_kids ks) (listing_node m') (listing_kids ks')
            (child_segment seg W n path i m c) (all_above seg (length path) i i ks (omega arith) asc
            (segmented seg W n path ks all))
            (child_segment seg W n path i m' d) (all_above seg (length path) i i ks' (omega arith) up
            (segmented seg W n path ks' all')) q in
            let em : m ≡ m' = same i m m' c d parts.0 in
            let ek : ks ≡ ks' = ih parts.1 in
            cc

  branch_many : (n : ℕ) (path : List ℕ) (c : U) (ks : Kids U) (x : Item U) → Canon seg W Busy (suc n) path (branch c ks)
      → listing_node (branch c ks) ≡ listing_node (leaf (x ∷ [])) → ⊥
  branch_many n path c ks x a q = let e : length (listing_node (branch c ks)) ≡ 1 = ap length q
      ∙ unfold listing_node listing_chain in refl in omega (arith, Big-lists seg W (suc n) path (branch c ks) a (unfold Big in tt))

  -- ONE LISTING, ONE NODE
  pub node_unique : (n : ℕ) (path : List ℕ) (m m' : Node U) → Canon seg W Busy n path m → Canon seg W Busy n path m'
      → listing_node m ≡ listing_node m' → m ≡ m'
  node_unique zero path (leaf xs) (leaf ys) c c' q = ap leaf (chain_unique xs ys (unfold listing_node in q))
  node_unique zero path (leaf xs) (branch d ks) c c' q = absurd (unfold Canon in c')
  node_unique zero path (branch d ks) m' c c' q = absurd (unfold Canon in c)
  node_unique (suc n) path (leaf xs) (leaf ys) c c' q = ap leaf (chain_unique xs ys (unfold listing_node in q))
  node_unique (suc n) path (leaf []) (branch d ks) c c' q = absurd (unfold Canon in c)
  node_unique (suc n) path (leaf (x ∷ [])) (branch d ks) c c' q = absurd (branch_many n path d ks x c' (sym q))
  node_unique (suc n) path (leaf (x ∷ (y ∷ xs))) (branch d ks) c c' q = absurd (unfold Canon in c)
  node_unique (suc n) path (branch d ks) (leaf []) c c' q = absurd (unfold Canon in c')
  node_unique (suc n) path (branch d ks) (leaf (x ∷ [])) c c' q = absurd (branch_many n path d ks x c q)
  node_unique (suc n) path (branch d ks) (leaf (x ∷ (y ∷ xs))) c c' q = absurd (unfold Canon in c')
  node_unique (suc n) path (branch d ks) (branch d' ks') c c' q =
      ap (branch tt) (kids_unique n path (λ s m m' a a' r. node_unique n (s ∷ path) m m' a a' r) ks ks' (unfold Canon in c.1)
      (unfold Canon in c'.1) (unfold Canon in c.2) (unfold Canon in c'.2)
      (unfold listing_node in q))

  -- at the root, two branches with one listing
  pub branch_unique : (n : ℕ) (path : List ℕ) (Q Q' : Kids U → Type 0) (c c' : U) (ks ks' : Kids U)
      → Canon seg W Q (suc n) path (branch c ks) → Canon seg W Q' (suc n) path (branch c' ks')
      → listing_node (branch c ks) ≡ listing_node (branch c' ks') → branch c ks ≡ branch c' ks'
  unfolding Canon listing_node
  branch_unique n path Q Q' c c' ks ks' a a' q =
      ap (branch tt) (kids_unique n path (λ s m m' b b' r. node_unique n (s ∷ path) m m' b b' r) ks ks' a.1 a'.1 a.2
      a'.2 q)
