-- A reference that shows a trie which the rules can build passes the tests of this crate: what is seen of it is its leftmost
-- entry and how many entries it has. A child's leftmost entry has the segments of the child's path, so the segments read from
-- a row are those of its children: they ascend, and the bitmap has a bit for each and no others.
use Rattle.std.proofs.Common.{◌≡◌, ℕ, zero, suc, ◌+◌, ◌-◌, ◌^◌, ◌<◌, ◌≤◌, true, false, eqb, ◌⊎◌, List, [], ◌∷◌, length, Option, sym, refl, ap, ◌∙◌, inl, inr, ⊎_elim, arith, lt-ltb, eq-eqb, ne_eqb, le-leb}
use Rattle.cases.proofs.Cases.{eq?}
use Rattle.segments.specs.Segments.{segment}
use Rattle.layout.specs.declared.Shape.{Shape}
use Rattle.layout.specs.Layout.{reference, kind_of, names}
use Rattle.layout.specs.Columns.{State, columns, refs}
use Rattle.lookup.specs.Lookup.{names_kind}
use Rattle.trie.specs.Entry.{Word64}
use Rattle.trie.specs.Trie.{Node, leaf, branch, Kids, none, kid, Item, listing_chain, listing_node, listing_kids}
use Rattle.trie.specs.Canon.{AllKids, Some, Big, Busy, AllItems, NonEmpty, In, Canon, Under as Has}
use Rattle.trie.proofs.RemoveCanon.{Canon-root}
use Rattle.arena.specs.Shows.{bitmap, behind, ShowsChain, Shows, ShowsRow}
use Rattle.arena.proofs.RefLaws.{refs_some, refs_branch}
use Rattle.arena.proofs.Clipped.{columns-Clipped}
use Rattle.arena.proofs.Few.{columns_live}
use Rattle.arena.proofs.Frames.{shown_some}
use Rattle.audits.specs.Audits.{is_live}
use Rattle.audits.proofs.AllLaws.{all_is}
use Rattle.levels.specs.declared.Seen.{Seen}
use Rattle.levels.specs.Levels.{Fault, Under, on_seen, seen_entry, see_by, fits, row_from, branch_by, see_from}
use Rattle.levels.proofs.Paths.{asked}
use Rattle.levels.proofs.Children.{chain_length, kids_length, From, above_from, Asc-From}
use Rattle.levels.proofs.SamePrefix.{same_prefix_lem}
use Rattle.levels.proofs.CloseLaws.{closes}

-- the leftmost entry's reference; 0 where there is none
unfoldable mutual
  pub lead_of : Node ℕ → ℕ
  lead_of (leaf []) = 0
  lead_of (leaf (x ∷ xs)) = reference 1 x.cell
  lead_of (branch c ks) = lead_in ks

  pub lead_in : Kids ℕ → ℕ
  lead_in none = 0
  lead_in (kid s m ks) = lead_of m

-- HOW MANY ENTRIES. A node has one, and a branch below the root has two, by
-- what is asked of the children of a branch at a depth
asked-Some : (t : ℕ) (ks : Kids ℕ) → asked t ks → Some ks
unfolding asked Some Busy
asked-Some zero ks q = q
asked-Some (suc t) none q = q
asked-Some (suc t) (kid s m ks) q = tt

module _ (seg : ℕ → ℕ → ℕ) where
  abbrev Each : ℕ → List ℕ → Kids ℕ → Type 0
  Each n path ks = AllKids (λ s m. Canon seg Word64 Busy n (s ∷ path) m) ks

  mutual
    unfolding listing_node listing_chain Canon AllKids NonEmpty Some

    Some-entry : (n : ℕ) (path : List ℕ) (m : Node ℕ) → Canon seg Word64 Some n path m → 0 < length (listing_node m)
    Some-entry zero path (leaf []) c = absurd c.0
    Some-entry (suc n) path (leaf []) c = absurd c
    Some-entry n path (leaf (x ∷ xs)) c = omega arith
    Some-entry zero path (branch b ks) c = absurd c
    Some-entry (suc n) path (branch b ks) c = Some-entries n path ks c.0 c.2

    Some-entries : (n : ℕ) (path : List ℕ) (ks : Kids ℕ) → Some ks → Each n path ks → 0 < length (listing_kids ks)
    Some-entries n path none some a = absurd some
    Some-entries n path (kid s m ks) some a =
        omega (
          arith,
          kids_length s m ks,
          Some-entry n (s ∷ path) m (Canon-root seg Word64 n (s ∷ path) m a.0),
        )

  mutual
    unfolding listing_node listing_chain Canon AllKids Big Busy Some

    two_below : (n : ℕ) (path : List ℕ) (m : Node ℕ) → Big m → Canon seg Word64 Busy n path m → 1 < length (listing_node m)
    two_below n path (leaf []) big c = absurd big
    two_below n path (leaf (x ∷ [])) big c = absurd big
    two_below n path (leaf (x ∷ (y ∷ xs))) big c = omega arith
    two_below zero path (branch b ks) big c = absurd c
    two_below (suc n) path (branch b ks) big c = two_entries n path ks c.0 c.2

    two_entries : (n : ℕ) (path : List ℕ) (ks : Kids ℕ) → Busy ks → Each n path ks → 1 < length (listing_kids ks)
    two_entries n path none busy a = absurd busy
    two_entries n path (kid s m none) busy a = omega (arith, kids_length s m none, two_below n (s ∷ path) m busy a.0)
    two_entries n path (kid s m (kid i o ks)) busy a =
        omega (
          arith,
          kids_length s m (kid i o ks),
          Some-entry n (s ∷ path) m (Canon-root seg Word64 n (s ∷ path) m a.0),
          Some-entries n path (kid i o ks) tt a.1,
        )

  -- at the root, or two entries
  asked_many : (n t : ℕ) (path : List ℕ) (ks : Kids ℕ) → asked t ks → Each n path ks
      → (t ≡ 0) ⊎ (1 < length (listing_kids ks))
  unfolding asked
  asked_many n zero path ks q a = inl refl
  asked_many n (suc t) path ks q a = inr (two_entries n path ks q a)

module _ (z : Shape) (σ : State) (named : (r : ℕ) → 0 < σ.count r → names z r ≡ true)
    (clip : (q j : ℕ) → z.degree ≤ j → kind_of q ≡ 0 → σ.kid q j ≡ 0) where
  abbrev seg : ℕ → ℕ → ℕ
  seg = segment z.bits

  -- KINDS
  is_live_lem : (k r : ℕ) → kind_of r ≡ k → 0 < σ.count r → is_live z σ k r ≡ true
  unfolding is_live names_kind
  is_live_lem k r e l = rw (eq-eqb (kind_of r) k e, named r l, lt-ltb 0 (σ.count r) l)

  is_other : (k r : ℕ) → (kind_of r ≡ k → ⊥) → is_live z σ k r ≡ false
  unfolding is_live names_kind
  is_other k r ne = rw (ne_eqb (kind_of r) k ne)

  -- THE LEFTMOST ENTRY of what is shown is in use, and its hash has the segments of the path
  Canon-items : (xs : List (Item ℕ)) (n : ℕ) (path : List ℕ) → Canon seg Word64 Some n path (leaf xs)
      → AllItems (In seg Word64 path) xs
  unfolding Canon AllItems
  Canon-items xs zero path c = c.1
  Canon-items [] (suc n) path c = absurd c
  Canon-items (x ∷ []) (suc n) path c = (c, tt)
  Canon-items (x ∷ (y ∷ xs)) (suc n) path c = absurd c

  abbrev pub Leads : List ℕ → ℕ → Type 0
  Leads path l = (is_live z σ 1 l ≡ true) × Has seg path (σ.plain l 0)

  mutual
    unfolding lead_of Shows ShowsChain Canon AllKids AllItems Has Some

    pub shown_lead : (n : ℕ) (path : List ℕ) (t r : ℕ) (m : Node ℕ) → Shows σ m t r → Canon seg Word64 Some n path m
        → Leads path (lead_of m)
    shown_lead n path t r (leaf []) h c = absurd h
    shown_lead n path t r (leaf (x ∷ xs)) h c =
        rw (← h.0) (is_live_lem 1 r (omega (arith, h.0)) h.1, rw h.4 (Canon-items (x ∷ xs) n path c).0.0)
    shown_lead zero path t r (branch b ks) h c = absurd c
    shown_lead (suc n) path t r (branch b ks) h c = row_lead n path t (σ.kid r) ks h.5 c.0 c.2

    row_lead : (n : ℕ) (path : List ℕ) (t : ℕ) (f : ℕ → ℕ) (ks : Kids ℕ) → ShowsRow σ ks t f → Some ks → Each seg n path ks
        → Leads path (lead_in ks)
    row_lead n path t f none h some a = absurd some
    row_lead n path t f (kid s m ks) h some a =
        let w = shown_lead n (s ∷ path) (suc t) (f 0) m h.0 (Canon-root seg Word64 n (s ∷ path) m a.0) in (w.0, w.1.1)

  -- ENTRIES. A chain stands where no depth is left, and elsewhere a single.
  entry_seen : (n t r : ℕ) (path : List ℕ) (x : Item ℕ) (xs : List (Item ℕ)) → n + t ≡ z.depths
      → ShowsChain σ (x ∷ xs) r → (Q : Kids ℕ → Type 0) → Canon seg Word64 Q n path (leaf (x ∷ xs))
      → seen_entry z σ t r ≡ Under r (suc (length xs))
  unfolding seen_entry ShowsChain Canon
  entry_seen n t r path x xs d h Q c =
      ⊎_elim
      (λ one. let e : suc (length xs) ≡ 1 = omega (arith, h.2) in rw (eq-eqb (σ.mark r) 1 one, e))
      (λ more. rw (ne_eqb (σ.mark r) 1 more, eq-eqb t z.depths (deepest n xs d c (λ e. more (h.2 ∙ e))), h.2))
      (eq? (σ.mark r) 1)
    where
      deepest : (n : ℕ) (xs : List (Item ℕ)) → n + t ≡ z.depths → Canon seg Word64 Q n path (leaf (x ∷ xs))
          → (suc (length xs) ≡ 1 → ⊥) → t ≡ z.depths
      deepest zero xs d c more = omega arith
      deepest (suc n) [] d c more = absurd (more refl)
      deepest (suc n) (y ∷ ys) d c more = absurd c

  leaf_seen : (n t r : ℕ) (path : List ℕ) (x : Item ℕ) (xs : List (Item ℕ)) (Q : Kids ℕ → Type 0) (below : ℕ → Option Seen)
      → n + t ≡ z.depths → ShowsChain σ (x ∷ xs) r → Canon seg Word64 Q n path (leaf (x ∷ xs))
      → see_by z σ below t r ≡ Under (lead_of (leaf (x ∷ xs))) (length (listing_node (leaf (x ∷ xs))))
  unfolding see_by lead_of listing_node ShowsChain
  leaf_seen n t r path x xs Q below d h c =
      rw (is_live_lem 1 r (omega (arith, h.0)) h.1, chain_length (x ∷ xs), ← h.0) (entry_seen n t r path x xs d h Q c)

  -- A ROW of children at depth t, the length of their path, where each child is seen as it is
  module _ (n : ℕ) (path : List ℕ) (look : ℕ → Option Seen)
      (looks : (s q : ℕ) (m : Node ℕ) → Shows σ m (suc (length path)) q → Canon seg Word64 Busy n (s ∷ path) m
      → length (listing_node m) ≤ z.entries → look q ≡ Under (lead_of m) (length (listing_node m)))
      (r l : ℕ) (is_branch : kind_of r ≡ 0) (has : Has seg path (σ.plain l 0)) where
    abbrev t : ℕ
    t = length path

    child_fits : (low size s : ℕ) (m : Node ℕ) → low ≤ s → size + length (listing_node m) ≤ z.entries
        → Has seg (s ∷ path) (σ.plain (lead_of m) 0)
        → fits z t (σ.plain l 0) low size (σ.plain (lead_of m) 0) (length (listing_node m)) ≡ true
    unfolding fits Has
    child_fits low size s m up room u =
        rw (
          le-leb low (seg t (σ.plain (lead_of m) 0)) (omega (arith, u.0)),
          same_prefix_lem z path (σ.plain l 0) (σ.plain (lead_of m) 0) has u.1,
          le-leb (length (listing_node m)) (z.entries - size) (omega arith),
        )

    -- one child read
    row_step : (k low bits size fuel s : ℕ) (m : Node ℕ) → Shows σ m (suc t) (σ.kid r k) → Canon seg Word64 Busy n (s ∷ path) m
        → low ≤ s → size + length (listing_node m) ≤ z.entries
        → row_from look z σ t r l (suc fuel) k low bits size
        ≡ row_from look z σ t r l fuel (suc k) (suc s) (bits + 2 ^ s) (size + length (listing_node m))
    unfolding row_from on_seen Has
    row_step k low bits size fuel s m h c up room =
        let u = (shown_lead n (s ∷ path) (suc t) (σ.kid r k) m h (Canon-root seg Word64 n (s ∷ path) m c)).1 in
        rw (
          ne_eqb (σ.kid r k) 0 (shown_some σ m (suc t) (σ.kid r k) h),
          looks s (σ.kid r k) m h c (omega arith),
          child_fits low size s m up room u,
          u.0,
        )

    -- the children left have as many entries as are left of all
    module _ (all : ℕ) (few : all ≤ z.entries) (many : (t ≡ 0) ⊎ (1 < all)) where
      row_done : (fuel k low bits size : ℕ) → ((j : ℕ) → k ≤ j → σ.kid r j ≡ 0) → σ.plain r 0 ≡ bits → size ≡ all
          → row_from look z σ t r l fuel k low bits size ≡ Under l all
      unfolding row_from
      row_done zero k low bits size nil b whole = rw whole (closes σ t r l bits all b many)
      row_done (suc fuel) k low bits size nil b whole =
          rw (
            eq-eqb (σ.kid r k) 0 (nil k (omega arith)),
            all_is (λ j. eqb (σ.kid r j) 0) k (suc fuel) (λ j o p. eq-eqb (σ.kid r j) 0 (nil j o)),
            whole,
          )
          (closes σ t r l bits all b many)

      row_seen : (ks : Kids ℕ) (fuel k low bits size : ℕ) (f : ℕ → ℕ) → fuel + k ≡ z.degree
          → ((j : ℕ) → f j ≡ σ.kid r (k + j)) → ShowsRow σ ks t f → From low ks → Each seg n path ks
          → bits + bitmap ks ≡ σ.plain r 0 → size + length (listing_kids ks) ≡ all
          → row_from look z σ t r l fuel k low bits size ≡ Under l all
      unfolding Shows From AllKids bitmap listing_node
      row_seen none fuel k low bits size f d e h up a b sum =
          row_done fuel k low bits size
          (λ j o. let q : k + (j - k) ≡ j = omega arith in ap (σ.kid r) (sym q) ∙ sym (e (j - k)) ∙ h (j - k))
          (omega arith) (omega arith)
      row_seen (kid s m ks) zero k low bits size f d e h up a b sum =
          absurd (shown_some σ m (suc t) (f 0) h.0 (e 0 ∙ clip r (k + 0) (omega arith) is_branch))
      row_seen (kid s m ks) (suc fuel) k low bits size f d e h up a b sum =
          let parts = kids_length s m ks in
          let here : f 0 ≡ σ.kid r k = let q : k + 0 ≡ k = omega arith in e 0 ∙ ap (σ.kid r) q in
          row_step k low bits size fuel s m (rw here at h.0) a.0 up.0 (omega arith)
          ∙ row_seen ks fuel (suc k) (suc s) (bits + 2 ^ s) (size + length (listing_node m)) (behind f) (omega arith)
          (λ j. let q : k + suc j ≡ suc k + j = omega arith in e (suc j) ∙ ap (σ.kid r) q)
          h.1 (above_from s ks up.1) a.1 (omega arith) (omega arith)

    -- A BRANCH: its first child is there, whose leftmost entry is its own
    branch_seen : (c : ℕ) (ks : Kids ℕ) → Shows σ (branch c ks) t r → lead_in ks ≡ l → asked t ks → Each seg n path ks
        → length (listing_kids ks) ≤ z.entries → branch_by look z σ t r ≡ Under l (length (listing_kids ks))
    unfolding Shows
    branch_seen c none h e q a room = absurd (unfold Some in asked-Some t none q)
    branch_seen c (kid s m ks) h e q a room =
        let parts = kids_length s m ks in
        unfold branch_by AllKids on_seen lead_of in
        rw (
          ne_eqb (σ.kid r 0) 0 (shown_some σ m (suc t) (σ.kid r 0) h.5.0),
          looks s (σ.kid r 0) m h.5.0 a.0 (omega arith),
          e,
        )
        (row_seen (length (listing_kids (kid s m ks))) room (asked_many seg n t path (kid s m ks) q a)
        (kid s m ks) z.degree 0 0 0 0 (σ.kid r) (omega arith) (λ j. let q : j ≡ 0 + j = omega arith in ap (σ.kid r) q)
        h.5 (Asc-From (kid s m ks) h.4) a (omega (arith, h.3)) (omega arith))

  -- the reference of a branch, where its children are seen as they are
  node_seen : (n : ℕ) (path : List ℕ)
      → ((s q : ℕ) (m : Node ℕ) → Shows σ m (suc (length path)) q → Canon seg Word64 Busy n (s ∷ path) m
      → length (listing_node m) ≤ z.entries
      → see_from z σ n (suc (length path)) q ≡ Under (lead_of m) (length (listing_node m)))
      → (r b : ℕ) (ks : Kids ℕ) → Shows σ (branch b ks) (length path) r
      → Canon seg Word64 (asked (length path)) (suc n) path (branch b ks) → length (listing_node (branch b ks)) ≤ z.entries
      → see_by z σ (branch_by (see_from z σ n (suc (length path))) z σ (length path)) (length path) r
      ≡ Under (lead_of (branch b ks)) (length (listing_node (branch b ks)))
  unfolding Shows Canon see_by listing_node lead_of
  node_seen n path looks r b ks h c room =
      let even : kind_of r ≡ 0 = omega (arith, h.0) in
      let some = asked-Some (length path) ks c.0 in
      let lead = row_lead n path (length path) (σ.kid r) ks h.5 some c.2 in
      rw (is_other 1 r (λ o. omega arith), is_live_lem 0 r even h.1, eq-eqb (σ.mark r) (length path) h.2)
      (branch_seen n path (see_from z σ n (suc (length path))) looks r (lead_in ks) even lead.1 b ks h refl c.0 c.2 room)

  -- THE NODE, with n depths left
  pub shown_seen : (n : ℕ) (path : List ℕ) (r : ℕ) (m : Node ℕ) → n + length path ≡ z.depths → Shows σ m (length path) r
      → Canon (segment z.bits) Word64 (asked (length path)) n path m → length (listing_node m) ≤ z.entries
      → see_from z σ n (length path) r ≡ Under (lead_of m) (length (listing_node m))
  unfolding see_from
  shown_seen zero path r (leaf []) d h c room = absurd (unfold Shows in h)
  shown_seen zero path r (leaf (x ∷ xs)) d h c room =
      leaf_seen 0 (length path) r path x xs (asked (length path)) (λ q. Fault) d (unfold Shows in h) c
  shown_seen zero path r (branch b ks) d h c room = absurd (unfold Canon in c)
  shown_seen (suc n) path r (leaf []) d h c room = absurd (unfold Shows in h)
  shown_seen (suc n) path r (leaf (x ∷ xs)) d h c room =
      leaf_seen (suc n) (length path) r path x xs (asked (length path))
      (branch_by (see_from z σ n (suc (length path))) z σ (length path)) d (unfold Shows in h) c
  shown_seen (suc n) path r (branch b ks) d h c room =
      node_seen n path (λ s q m g k fit. shown_seen n (s ∷ path) q m (omega arith) g (unfold asked in k) fit) r b ks h c room

-- THE COLUMNS OF AN ARENA are as asked above: what has a count names a cell, and there is no child behind the degree
pub columns_named : (z : Shape) (a : List ℕ) → 0 < z.degree → (r : ℕ) → 0 < (columns z a).count r → names z r ≡ true
columns_named z a d r l = refs_some z r (columns_live z a d r l)

pub columns_clip : (z : Shape) (a : List ℕ) → 0 < z.degree → (q j : ℕ) → z.degree ≤ j → kind_of q ≡ 0
    → (columns z a).kid q j ≡ 0
columns_clip z a d q j l e =
    (columns-Clipped z a d).no_kid q j
    (⊎_elim (λ n. omega arith) (λ nz. omega (arith, refs_branch z q (omega arith) e)) (eq? (refs z q) 0))
