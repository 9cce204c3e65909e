-- What is reached from a held slot. Where each count is how often its cell is named, a cell that lives is reached: a word names
-- it, and so on upwards, which ends since depths fall on the way up and chains grow longer. Where the slots show tries,
-- whatever is reached is shown, at a depth that leaves room for its branches.
use Prim.Native.Nat.{ℕ, zero, suc, ◌+◌, ◌≤◌, ◌<◌}
use mathlib.Core.Path.{◌≡◌, refl, sym, ◌∙◌, subst}
use mathlib.Core.Logic.{◌⊎◌, inl, inr, ⊎_elim}
use mathlib.Core.List.{[], List, ◌∷◌}
use native.Mathlib.Omega.{arith}
use Rattle.cases.proofs.Cases.{eq?}
use Rattle.counts.specs.Counts.{ind, sum_to, times}
use Rattle.counts.proofs.CountLaws.{sum_at, sum_find, ind_pos}
use Rattle.layout.specs.declared.Shape.{Shape}
use Rattle.layout.specs.Layout.{kind_of}
use Rattle.layout.specs.Columns.{State, refs}
use Rattle.trie.specs.declared.Entry.{Entry}
use Rattle.trie.specs.Trie.{Node, leaf, branch, Kids, none, kid, Item, Map, empty, root}
use Rattle.trie.specs.Canon.{AllKids, Some, Busy, Canon, Canonical}
use Rattle.arena.specs.Shows.{behind, ShowsChain, Shows, ShowsRow, ShowsMap}
use Rattle.arena.specs.Sound.{top, Reached, from_slot, from_cell}
use Rattle.arena.specs.Local.{occ, Below, Local}
use Rattle.arena.proofs.RefLaws.{refs_inside, entry_refs}
use Rattle.arena.proofs.Frames.{shown_live, shown_Below}
use Rattle.arena.proofs.LocalLaws.{live_cell, live_some, kid_live, root_live}

-- a word that names r, where there is one
named : (z : Shape) (σ : State) (r : ℕ) → 0 < occ z σ r
    → ((s : ℕ) × (s < z.slots) × (σ.root s ≡ r)) ⊎ ((q : ℕ) × (k : ℕ) × (σ.kid q k ≡ r))
named z σ r l =
    ⊎_elim
    (λ e.
    let w = sum_find (top z) (λ q. times (refs z q) (σ.kid q) r) (omega arith) in
    let v = sum_find (refs z w.0) (λ k. ind r (σ.kid w.0 k)) w.2 in
    inr (w.0, v.0, ind_pos r _ v.2))
    (λ ne. let w = sum_find z.slots (λ s. ind r (σ.root s)) (omega arith) in inl (w.0, w.1, ind_pos r _ w.2))
    (eq? (times z.slots σ.root r) 0)

-- what is named is reached, if the cells that name it are
pub named_Reached : (z : Shape) (σ : State) → ((s : ℕ) → s < z.slots → (σ.held s ≡ 1 → ⊥) → σ.root s ≡ 0) → (r : ℕ)
    → (r ≡ 0 → ⊥) → 0 < occ z σ r → ((q k : ℕ) → σ.kid q k ≡ r → (σ.kid q k ≡ 0 → ⊥) → Reached z σ q) → Reached z σ r
named_Reached z σ no_root r nz l holder =
    ⊎_elim
    (λ (s, ls, e).
    let nr : σ.root s ≡ 0 → ⊥ = λ y. nz (sym e ∙ y) in
    let held : σ.held s ≡ 1 = ⊎_elim (λ h. h) (λ ne. absurd (nr (no_root s ls ne))) (eq? (σ.held s) 1) in
    subst (λ (x : ℕ). Reached z σ x) e (from_slot s ls held nr))
    (λ (q, k, e).
    let nk : σ.kid q k ≡ 0 → ⊥ = λ y. nz (sym e ∙ y) in
    subst (λ (x : ℕ). Reached z σ x) e (from_cell q k (holder q k e nk) nk))
    (named z σ r l)

-- WHAT LIVES IS REACHED
module _ (z : Shape) (σ : State) (free : ℕ → List ℕ) (I : Local z σ (λ r. 0) free) where
  live_above : (q k : ℕ) → (σ.kid q k ≡ 0 → ⊥) → 0 < σ.count q
  live_above q k nz = ⊎_elim (λ e. absurd (nz (I.rest q k e))) (λ ne. omega arith) (eq? (σ.count q) 0)

  abbrev longest : ℕ
  longest = sum_to (top z) σ.mark

  -- how far a cell may be below a slot: n steps
  abbrev Near : ℕ → ℕ → Type 0
  Near n r = (kind_of r ≡ 0 → σ.mark r < n) × (kind_of r ≡ 1 → z.depths + longest < n + σ.mark r)

  Near-above : (n q k : ℕ) → (σ.kid q k ≡ 0 → ⊥) → Near (suc n) (σ.kid q k) → Near n q
  Near-above n q k nz near =
      let b = I.below q k nz in
      let lk : σ.kid q k < top z = refs_inside z (σ.kid q k) (live_cell I (σ.kid q k) (kid_live I q k nz)) in (
        λ even.
            ⊎_elim
            (λ e. omega (arith, near.0 e, b.0 even e))
            (λ ne.
            omega
            (arith, near.1 (omega arith), I.deep q (live_above q k nz) even, sum_at (top z) σ.mark (σ.kid q k) lk))
            (eq? (kind_of (σ.kid q k)) 0),
        λ odd. omega (arith, near.1 (b.1 odd).0, (b.1 odd).1),
      )

  climb : (n r : ℕ) → 0 < σ.count r → Near n r → Reached z σ r
  climb zero r l near =
      ⊎_elim
      (λ e. absurd (omega (arith, near.0 e)))
      (λ ne. absurd (omega (arith, near.1 (omega arith), sum_at (top z) σ.mark r (refs_inside z r (live_cell I r l)))))
      (eq? (kind_of r) 0)
  climb (suc n) r l near =
      let nz : r ≡ 0 → ⊥ = live_some I r l in
      named_Reached z σ I.no_root r nz (omega (arith, I.exact r nz))
      (λ q k e nk. climb n q (live_above q k nk) (Near-above n q k nk (subst (λ (x : ℕ). Near (suc n) x) (sym e) near)))

  pub live_Reached : (r : ℕ) → 0 < σ.count r → Reached z σ r
  live_Reached r l = climb (suc (z.depths + longest + σ.mark r)) r l (λ e. omega arith, λ e. omega arith)

  pub Reached-live : (r : ℕ) → Reached z σ r → 0 < σ.count r
  Reached-live r (from_slot s ls held nz) = root_live I s ls nz
  Reached-live r (from_cell q k w nz) = kid_live I q k nz

-- WHAT IS REACHED IS SHOWN
-- the branches of a node stand at fewer than d depths
unfoldable pub Within : ℕ → Node ℕ → Type 0
Within zero (leaf xs) = Unit {0}
Within zero (branch c ks) = ⊥
Within (suc d) (leaf xs) = Unit {0}
Within (suc d) (branch c ks) = AllKids (λ s m. Within d m) ks

leaf-Within : (d : ℕ) (xs : List (Item ℕ)) → Within d (leaf xs)
unfolding Within
leaf-Within zero xs = tt
leaf-Within (suc d) xs = tt

pub all_kids : {P R : ℕ → Node ℕ → Type 0} (ks : Kids ℕ) → ((s : ℕ) (m : Node ℕ) → P s m → R s m) → AllKids P ks → AllKids R ks
unfolding AllKids
all_kids none f a = tt
all_kids (kid s m ks) f (a, all) = (f s m a, all_kids ks f all)

pub Canon-Within : (seg : ℕ → ℕ → ℕ) (W : Entry → Type 0) (Q : Kids ℕ → Type 0) (d : ℕ) (path : List ℕ) (n : Node ℕ)
    → Canon seg W Q d path n → Within d n
unfolding Canon Within
Canon-Within seg W Q zero path (leaf xs) a = tt
Canon-Within seg W Q zero path (branch c ks) a = absurd a
Canon-Within seg W Q (suc d) path (leaf xs) a = tt
Canon-Within seg W Q (suc d) path (branch c ks) (q, asc, all) =
    all_kids ks (λ s m a. Canon-Within seg W Busy d (s ∷ path) m a) all

-- the node that a reference shows, its depth, and how many depths are left from there on
pub record Placed (z : Shape) (σ : State) (r : ℕ) : Type 0 where
  pub node : Node ℕ
  pub depth : ℕ
  pub left : ℕ
  pub shows : Shows σ node depth r
  pub within : Within left node
  pub place : depth + left ≡ z.depths

pub root_Placed : (z : Shape) (σ : State) (seg : ℕ → ℕ → ℕ) (W : Entry → Type 0) (m : Map ℕ) (r : ℕ)
    → Canonical seg W z.depths m → ShowsMap σ m r → (r ≡ 0 → ⊥) → Placed z σ r
unfolding Canonical ShowsMap
root_Placed z σ seg W empty r c h nz = absurd (nz h)
root_Placed z σ seg W (root n) r c h nz =
    record {
      node = n;
      depth = 0;
      left = z.depths;
      shows = h;
      within = Canon-Within seg W Some z.depths [] n c;
      place = omega arith;
    }

row_placed : (σ : State) (d t : ℕ) (ks : Kids ℕ) (f : ℕ → ℕ) → ShowsRow σ ks t f → AllKids (λ s m. Within d m) ks
    → (k : ℕ) → (f k ≡ 0 → ⊥) → (n : Node ℕ) × Shows σ n (suc t) (f k) × Within d n
unfolding Shows AllKids
row_placed σ d t none f h a k nz = absurd (nz (h k))
row_placed σ d t (kid s n ks) f (h, hs) (a, all) zero nz = (n, h, a)
row_placed σ d t (kid s n ks) f (h, hs) (a, all) (suc k) nz = row_placed σ d t ks (behind f) hs all k nz

placed_deep : (z : Shape) (σ : State) (r : ℕ) (n : Node ℕ) (t d : ℕ) → Shows σ n t r → Within d n → t + d ≡ z.depths
    → kind_of r ≡ 0 → σ.mark r < z.depths
unfolding Shows ShowsChain Within
placed_deep z σ r (leaf []) t d h a p e = absurd h
placed_deep z σ r (leaf (x ∷ xs)) t d h a p e = absurd (omega (arith, h.0))
placed_deep z σ r (branch c ks) t zero h a p e = absurd a
placed_deep z σ r (branch c ks) t (suc d) h a p e = omega (arith, h.2)

module _ (z : Shape) (σ : State) (clip : (q k : ℕ) → refs z q ≤ k → σ.kid q k ≡ 0) where
  abbrev BelowAt : ℕ → ℕ → Type 0
  BelowAt q k = Below (kind_of q) (σ.mark q) (kind_of (σ.kid q k)) (σ.mark (σ.kid q k))

  entry_one : (q k : ℕ) → kind_of q ≡ 1 → σ.kid q (suc k) ≡ 0
  entry_one q k odd = clip q (suc k) (omega (arith, entry_refs z q odd))

  kid_shown : (q k : ℕ) (n : Node ℕ) (t d : ℕ) → Shows σ n t q → Within d n → t + d ≡ z.depths → (σ.kid q k ≡ 0 → ⊥)
      → Placed z σ (σ.kid q k) × BelowAt q k
  unfolding Shows ShowsChain Within
  kid_shown q k (leaf []) t d h a p nz = absurd h
  kid_shown q zero (leaf (x ∷ [])) t d h a p nz = absurd (nz h.3)
  kid_shown q zero (leaf (x ∷ (y ∷ ys))) t d h a p nz = (
    record { node = leaf (y ∷ ys); depth = t; left = d; shows = h.3; within = leaf-Within d (y ∷ ys); place = p },
    (λ even. absurd (omega (arith, h.0)), λ odd. (omega (arith, h.3.0), omega (arith, h.2, h.3.2))),
  )
  kid_shown q (suc k) (leaf (x ∷ xs)) t d h a p nz = absurd (nz (entry_one q k (omega (arith, h.0))))
  kid_shown q k (branch c ks) t zero h a p nz = absurd a
  kid_shown q k (branch c ks) t (suc d) h a p nz =
      let (n, s, w) = row_placed σ d t ks (σ.kid q) h.5 a k nz in (
        record { node = n; depth = suc t; left = d; shows = s; within = w; place = omega arith },
        (λ even e. omega (arith, (shown_Below σ n t (σ.kid q k) s).0 refl e, h.2), λ odd. absurd (omega (arith, h.0))),
      )

  kid-Placed : (q k : ℕ) → Placed z σ q → (σ.kid q k ≡ 0 → ⊥) → Placed z σ (σ.kid q k) × BelowAt q k
  kid-Placed q k p nz = kid_shown q k p.node p.depth p.left p.shows p.within p.place nz

  module _ (held : (s : ℕ) → s < z.slots → σ.held s ≡ 1 → (σ.root s ≡ 0 → ⊥) → Placed z σ (σ.root s)) where
    Reached-Placed : (r : ℕ) → Reached z σ r → Placed z σ r
    Reached-Placed r (from_slot s l h nz) = held s l h nz
    Reached-Placed r (from_cell q k w nz) = (kid-Placed q k (Reached-Placed q w) nz).0

    pub Reached-has_count : (r : ℕ) → Reached z σ r → 0 < σ.count r
    Reached-has_count r w = let p = Reached-Placed r w in shown_live σ p.node p.depth r p.shows

    pub Reached-deep : (r : ℕ) → Reached z σ r → kind_of r ≡ 0 → σ.mark r < z.depths
    Reached-deep r w e =
        let p = Reached-Placed r w in placed_deep z σ r p.node p.depth p.left p.shows p.within p.place e

    pub Reached-below : (q k : ℕ) → Reached z σ q → (σ.kid q k ≡ 0 → ⊥) → BelowAt q k
    Reached-below q k w nz = (kid-Placed q k (Reached-Placed q w) nz).1
