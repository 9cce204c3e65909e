-- What a reference shows depends on the words of the cells that it reaches, all of which live. So it stays the same where what
-- lived lives with the same words, and it stays the same for what still lives where what lives lived with the same words.
use Prim.Native.Nat.{ℕ, zero, suc, ◌<◌}
use mathlib.Core.Path.{◌≡◌, refl, ap, ◌∙◌}
use mathlib.Core.List.{[], List, ◌∷◌}
use mathlib.Core.Logic.{◌⊎◌, inl, inr}
use native.Mathlib.Omega.{arith}
use Rattle.layout.specs.declared.Shape.{Shape}
use Rattle.layout.specs.Layout.{kind_of}
use Rattle.layout.specs.Columns.{State, columns}
use Rattle.trie.specs.Trie.{Node, leaf, branch, Kids, none, kid, Item, Map, empty, root}
use Rattle.arena.specs.Shows.{behind, ShowsChain, Shows, ShowsRow, ShowsMap, Edition}
use Rattle.arena.specs.Sound.{FreeSlot, HeldSlot}
use Rattle.arena.specs.Holds.{OtherSlots}
use Rattle.arena.specs.Local.{Below, Local, Grow, Shrink, SameSlots}
use Rattle.arena.proofs.LocalLaws.{live_some, kid_live, root_live}

-- FRAMES
pub Grow-refl : (σ : State) → Grow σ σ
Grow-refl σ = record { live = λ r l. l; mark_eq = λ r l. refl; kid_eq = λ r l. refl; plain_eq = λ r l. refl }

pub Grow-trans : {σ τ υ : State} → Grow σ τ → Grow τ υ → Grow σ υ
Grow-trans P Q =
    record {
      live = λ r l. Q.live r (P.live r l);
      mark_eq = λ r l. Q.mark_eq r (P.live r l) ∙ P.mark_eq r l;
      kid_eq = λ r l. Q.kid_eq r (P.live r l) ∙ P.kid_eq r l;
      plain_eq = λ r l. Q.plain_eq r (P.live r l) ∙ P.plain_eq r l;
    }

pub slots_refl : (σ : State) → SameSlots σ σ
slots_refl σ = record { held_eq = refl; root_eq = refl; size_eq = refl }

pub slots_trans : {σ τ υ : State} → SameSlots σ τ → SameSlots τ υ → SameSlots σ υ
slots_trans P Q =
    record { held_eq = Q.held_eq ∙ P.held_eq; root_eq = Q.root_eq ∙ P.root_eq; size_eq = Q.size_eq ∙ P.size_eq }

pub Shrink-refl : (x : ℕ) (σ : State) → Shrink x σ σ
Shrink-refl x σ = record { live = λ r n l. l; mark_eq = λ r n l. refl; kid_eq = λ r n l. refl; plain_eq = λ r n l. refl }

pub Shrink-trans : {x : ℕ} {σ τ υ : State} → Shrink x σ τ → Shrink x τ υ → Shrink x σ υ
Shrink-trans P Q =
    record {
      live = λ r n l. P.live r n (Q.live r n l);
      mark_eq = λ r n l. Q.mark_eq r n l ∙ P.mark_eq r n (Q.live r n l);
      kid_eq = λ r n l. Q.kid_eq r n l ∙ P.kid_eq r n (Q.live r n l);
      plain_eq = λ r n l. Q.plain_eq r n l ∙ P.plain_eq r n (Q.live r n l);
    }

-- a cell that does not live afterwards need not be left out, so another may be
pub Shrink-other : {σ τ : State} (x y : ℕ) → τ.count x ≡ 0 → Shrink x σ τ → Shrink y σ τ
Shrink-other {σ} {τ} x y e P =
    let ne : (r : ℕ) → 0 < τ.count r → r ≡ x → ⊥ = λ r l q. omega (arith, ap τ.count q) in
    record {
      live = λ r n l. P.live r (ne r l) l;
      mark_eq = λ r n l. P.mark_eq r (ne r l) l;
      kid_eq = λ r n l. P.kid_eq r (ne r l) l;
      plain_eq = λ r n l. P.plain_eq r (ne r l) l;
    }

pub Shrink-close : {σ τ : State} (x : ℕ) → τ.count x ≡ 0 → Shrink x σ τ → Shrink 0 σ τ
Shrink-close x = Shrink-other x 0

pub Shrink-weaken : {σ τ : State} (x : ℕ) → τ.count 0 ≡ 0 → Shrink 0 σ τ → Shrink x σ τ
Shrink-weaken x = Shrink-other 0 x

-- WHAT IS SHOWN LIVES
module _ (σ : State) where
  pub shown_live : (n : Node ℕ) (t r : ℕ) → Shows σ n t r → 0 < σ.count r
  unfolding Shows ShowsChain
  shown_live (leaf []) t r h = absurd h
  shown_live (leaf (x ∷ xs)) t r h = h.1
  shown_live (branch c ks) t r h = h.1

  pub shown_some : (n : Node ℕ) (t r : ℕ) → Shows σ n t r → r ≡ 0 → ⊥
  unfolding Shows ShowsChain
  shown_some (leaf []) t r h e = absurd h
  shown_some (leaf (x ∷ xs)) t r h e = omega (arith, h.0)
  shown_some (branch c ks) t r h e = omega (arith, h.0)

  pub map_live : (m : Map ℕ) (r : ℕ) → ShowsMap σ m r → (r ≡ 0 → ⊥) → 0 < σ.count r
  unfolding ShowsMap
  map_live empty r h nz = absurd (nz h)
  map_live (root n) r h nz = shown_live n 0 r h

  -- and stands one deeper than the branch that names it
  pub shown_Below : (n : Node ℕ) (t r : ℕ) → Shows σ n (suc t) r → Below 0 t (kind_of r) (σ.mark r)
  unfolding Shows ShowsChain
  shown_Below (leaf []) t r h = absurd h
  shown_Below (leaf (x ∷ xs)) t r h = (λ a b. absurd (omega (arith, h.0)), λ a. absurd (omega arith))
  shown_Below (branch c ks) t r h = (λ a b. h.2, λ a. absurd (omega arith))

  pub row_below : (ks : Kids ℕ) (t : ℕ) (f : ℕ → ℕ)
      → ShowsRow σ ks t f → (k : ℕ) → (f k ≡ 0 → ⊥) → Below 0 t (kind_of (f k)) (σ.mark (f k))
  unfolding Shows
  row_below none t f h k nz = absurd (nz (h k))
  row_below (kid s n ks) t f h zero nz = shown_Below n t (f 0) h.0
  row_below (kid s n ks) t f h (suc k) nz = row_below ks t (behind f) h.1 k nz

  pub row_live : (ks : Kids ℕ) (t : ℕ) (f : ℕ → ℕ) → ShowsRow σ ks t f → (k : ℕ) → (f k ≡ 0 → ⊥) → 0 < σ.count (f k)
  unfolding Shows
  row_live none t f h k nz = absurd (nz (h k))
  row_live (kid s n ks) t f h zero nz = shown_live n (suc t) (f 0) h.0
  row_live (kid s n ks) t f h (suc k) nz = row_live ks t (behind f) h.1 k nz

-- WHAT LIVED LIVES
module _ {σ τ : State} (g : Grow σ τ) where
  pub chain_kept : (xs : List (Item ℕ)) (r : ℕ) → ShowsChain σ xs r → ShowsChain τ xs r
  unfolding ShowsChain
  chain_kept [] r c = c
  chain_kept (x ∷ xs) r (e, live, len, nx, h, k, v) =
      let d = g.plain_eq r live in (
        e,
        g.live r live,
        g.mark_eq r live ∙ len,
        rw (g.kid_eq r live) (chain_kept xs (σ.kid r 0) nx),
        ap (λ (w : ℕ → ℕ). w 0) d ∙ h,
        ap (λ (w : ℕ → ℕ). w 1) d ∙ k,
        ap (λ (w : ℕ → ℕ). w 2) d ∙ v,
      )

  mutual
    unfolding Shows

    pub shows_kept : (n : Node ℕ) (t r : ℕ) → Shows σ n t r → Shows τ n t r
    shows_kept (leaf []) t r c = c
    shows_kept (leaf (x ∷ xs)) t r c = chain_kept (x ∷ xs) r c
    shows_kept (branch b ks) t r (e, live, d, bm, asc, kids) = (
      e,
      g.live r live,
      g.mark_eq r live ∙ d,
      ap (λ (w : ℕ → ℕ). w 0) (g.plain_eq r live) ∙ bm,
      asc,
      rw (g.kid_eq r live) (row_kept ks t (σ.kid r) kids),
    )

    pub row_kept : (ks : Kids ℕ) (t : ℕ) (f : ℕ → ℕ) → ShowsRow σ ks t f → ShowsRow τ ks t f
    row_kept none t f k = k
    row_kept (kid s n ks) t f (k, rest) = (shows_kept n (suc t) (f 0) k, row_kept ks t (behind f) rest)

  pub map_kept : (m : Map ℕ) (r : ℕ) → ShowsMap σ m r → ShowsMap τ m r
  unfolding ShowsMap
  map_kept empty r c = c
  map_kept (root n) r c = shows_kept n 0 r c

-- WHAT LIVES LIVED
module _ {z : Shape} {σ τ : State} {H : ℕ → ℕ} {free : ℕ → List ℕ} (P : Shrink 0 σ τ) (I : Local z τ H free) where
  pub chain_left : (xs : List (Item ℕ)) (r : ℕ) → ((r ≡ 0 → ⊥) → 0 < τ.count r) → ShowsChain σ xs r → ShowsChain τ xs r
  unfolding ShowsChain
  chain_left [] r lv c = c
  chain_left (x ∷ xs) r lv (e, live, len, nx, h, k, v) =
      let nz : r ≡ 0 → ⊥ = λ y. omega arith in
      let l = lv nz in
      let d = P.plain_eq r nz l in (
        e,
        l,
        P.mark_eq r nz l ∙ len,
        chain_left xs (τ.kid r 0) (kid_live I r 0) (rw (P.kid_eq r nz l) nx),
        ap (λ (w : ℕ → ℕ). w 0) d ∙ h,
        ap (λ (w : ℕ → ℕ). w 1) d ∙ k,
        ap (λ (w : ℕ → ℕ). w 2) d ∙ v,
      )

  mutual
    unfolding Shows

    pub shows_left : (n : Node ℕ) (t r : ℕ) → 0 < τ.count r → Shows σ n t r → Shows τ n t r
    shows_left (leaf []) t r lv c = c
    shows_left (leaf (x ∷ xs)) t r lv c = chain_left (x ∷ xs) r (λ y. lv) c
    shows_left (branch b ks) t r lv (e, live, d, bm, asc, kids) =
        let nz = live_some I r lv in (
          e,
          lv,
          P.mark_eq r nz lv ∙ d,
          ap (λ (w : ℕ → ℕ). w 0) (P.plain_eq r nz lv) ∙ bm,
          asc,
          row_left ks t (τ.kid r) (kid_live I r) (rw (P.kid_eq r nz lv) kids),
        )

    pub row_left : (ks : Kids ℕ) (t : ℕ) (f : ℕ → ℕ)
        → ((k : ℕ) → (f k ≡ 0 → ⊥) → 0 < τ.count (f k)) → ShowsRow σ ks t f → ShowsRow τ ks t f
    row_left none t f lv k = k
    row_left (kid s n ks) t f lv (k, rest) =
        (shows_left n (suc t) (f 0) (lv 0 (shown_some σ n (suc t) (f 0) k)) k, row_left ks t (behind f) (λ j. lv (suc j)) rest)

  pub map_left : (m : Map ℕ) (r : ℕ) → ((r ≡ 0 → ⊥) → 0 < τ.count r) → ShowsMap σ m r → ShowsMap τ m r
  unfolding ShowsMap
  map_left empty r lv c = c
  map_left (root n) r lv c = shows_left n 0 r (lv (shown_some σ n 0 r c)) c

-- EDITIONS. A slot with the same words has the same edition.
pub record SameSlot (σ τ : State) (s : ℕ) : Type 0 where
  pub held_eq : τ.held s ≡ σ.held s
  pub root_eq : τ.root s ≡ σ.root s
  pub size_eq : τ.size s ≡ σ.size s

pub slots_at : {σ τ : State} → SameSlots σ τ → (s : ℕ) → SameSlot σ τ s
slots_at E s =
    record {
      held_eq = ap (λ (g : ℕ → ℕ). g s) E.held_eq;
      root_eq = ap (λ (g : ℕ → ℕ). g s) E.root_eq;
      size_eq = ap (λ (g : ℕ → ℕ). g s) E.size_eq;
    }

pub slot_trans : {σ τ υ : State} {s : ℕ} → SameSlot σ τ s → SameSlot τ υ s → SameSlot σ υ s
slot_trans P Q =
    record { held_eq = Q.held_eq ∙ P.held_eq; root_eq = Q.root_eq ∙ P.root_eq; size_eq = Q.size_eq ∙ P.size_eq }

Edition-same : {z : Shape} {σ τ : State} {s : ℕ} {m : Map ℕ}
    → SameSlot σ τ s → ShowsMap τ m (τ.root s) → Edition z σ s m → Edition z τ s m
Edition-same e h E = record { slot = E.slot; held = e.held_eq ∙ E.held; shows = h; sized = e.size_eq ∙ E.sized }

pub Edition-kept : {z : Shape} {σ τ : State} {s : ℕ} {m : Map ℕ} → Grow σ τ → SameSlot σ τ s → Edition z σ s m → Edition z τ s m
Edition-kept {m = m} g e E = Edition-same e (map_kept g m _ (rw e.root_eq E.shows)) E

pub Edition-left : {z : Shape} {σ τ : State} {H : ℕ → ℕ} {free : ℕ → List ℕ} {s : ℕ} {m : Map ℕ}
    → Shrink 0 σ τ → Local z τ H free → SameSlot σ τ s → Edition z σ s m → Edition z τ s m
Edition-left {s = s} {m = m} P I e E =
    Edition-same e (map_left P I m _ (root_live I s E.slot) (rw e.root_eq E.shows)) E

-- THE OTHER SLOTS. Where a slot has the same words and its edition stays, it stays free or held.
pub slot_stays : {z : Shape} {σ τ : State} {s : ℕ} → SameSlot σ τ s → ((m : Map ℕ) → Edition z σ s m → Edition z τ s m)
    → FreeSlot σ s ⊎ HeldSlot z σ s → FreeSlot τ s ⊎ HeldSlot z τ s
slot_stays o stays (inl f) =
    inl (record { not_held = o.held_eq ∙ f.not_held; no_root = o.root_eq ∙ f.no_root; no_size = o.size_eq ∙ f.no_size })
slot_stays o stays (inr k) = inr (record { map = k.map; edition = stays k.map k.edition; built = k.built })

pub other_slots : (z : Shape) (a b : List ℕ) (s : ℕ) → ((i : ℕ) → (i ≡ s → ⊥) → SameSlot (columns z a) (columns z b) i)
    → OtherSlots z a b s
other_slots z a b s same i zero ne l = (same i ne).held_eq
other_slots z a b s same i (suc zero) ne l = (same i ne).root_eq
other_slots z a b s same i (suc (suc zero)) ne l = (same i ne).size_eq
other_slots z a b s same i (suc (suc (suc p))) ne l = absurd (omega arith)
