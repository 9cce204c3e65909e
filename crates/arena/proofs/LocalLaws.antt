-- What the local form says at once: what a word or the hand names lives, no live cell stands on a free chain, and a count is at
-- most the number of words that hold references.
use Prim.Native.Nat.{ℕ, zero, suc, ◌+◌, ◌-◌, ◌*◌, ◌≤◌, ◌<◌}
use mathlib.Core.Path.{◌≡◌, refl, sym, ap, ◌∙◌, subst, fun_ext}
use mathlib.Core.Logic.{⊎_elim, ◌↔◌}
use mathlib.Core.List.{[], List, ◌∷◌}
use native.Mathlib.Omega.{arith}
use lib.ListN.{length}
use Rattle.cases.proofs.Cases.{eq?, lt?}
use Rattle.counts.specs.Counts.{ind, sum_to, times, among}
use Rattle.counts.proofs.CountLaws.{ind_same, ind_other, ind_le, sum_at, sum_zero, sum_mono, cnt_le, cnt_some, length-among}
use Rattle.layout.specs.declared.Shape.{Shape}
use Rattle.layout.specs.Layout.{kind_of, cells_of}
use Rattle.layout.specs.Columns.{State, refs}
use Rattle.arena.specs.Sound.{top, Chain}
use Rattle.arena.specs.Local.{cell, occ, Local, Shrink, SameSlots}
use Rattle.arena.proofs.RefLaws.{refs_none, refs_inside, cell_yes, num_cells, sum_refs}

-- THE HAND. How often a reference is in hand is a matter of numbers, and 0 may be in hand as often as it likes.
pub rehand : {z : Shape} {σ : State} {H : ℕ → ℕ} {free : ℕ → List ℕ} (K : ℕ → ℕ)
    → ((r : ℕ) → (r ≡ 0 → ⊥) → H r ≡ K r) → Local z σ H free → Local z σ K free
rehand K e I =
    record {
      exact = λ r nz. omega (arith, I.exact r nz, e r nz);
      out = I.out;
      chain = I.chain;
      free_once = I.free_once;
      within = I.within;
      used_ok = I.used_ok;
      rest = I.rest;
      blank = I.blank;
      deep = I.deep;
      clip = I.clip;
      below = I.below;
      no_root = I.no_root;
    }

pub refree : {z : Shape} {σ : State} {H : ℕ → ℕ} {free gs : ℕ → List ℕ}
    → ((p : ℕ) → free p ≡ gs p) → Local z σ H free → Local z σ H gs
refree {z} {σ} {H} e I = subst (λ (x : ℕ → List ℕ). Local z σ H x) (fun_ext e) I

-- LIVE CELLS
module _ {z : Shape} {σ : State} {H : ℕ → ℕ} {free : ℕ → List ℕ} (I : Local z σ H free) where
  pub live_cell : (r : ℕ) → 0 < σ.count r → 0 < refs z r
  live_cell r l = ⊎_elim (λ e. absurd (omega (arith, I.out r e))) (λ ne. omega arith) (eq? (refs z r) 0)

  pub live_some : (r : ℕ) → 0 < σ.count r → r ≡ 0 → ⊥
  live_some r l e = omega (arith, ap σ.count e, I.out 0 (refs_none z))

  -- whatever a child word holds lives
  pub kid_named : (q k r : ℕ) → σ.kid q k ≡ r → (r ≡ 0 → ⊥) → 1 ≤ occ z σ r
  kid_named q k r e nz =
      let lk : k < refs z q = ⊎_elim (λ l. l) (λ l. absurd (nz (sym e ∙ I.clip q k l))) (lt? k (refs z q)) in
      omega (
        arith,
        sum_at (top z) (λ d. times (refs z d) (σ.kid d) r) q (refs_inside z q (omega arith)),
        cnt_some (refs z q) (σ.kid q) r k lk e,
      )

  pub kid_live : (q k : ℕ) → (σ.kid q k ≡ 0 → ⊥) → 0 < σ.count (σ.kid q k)
  kid_live q k nz = omega (arith, I.exact (σ.kid q k) nz, kid_named q k (σ.kid q k) refl nz)

  -- what a slot names lives
  pub root_live : (s : ℕ) → s < z.slots → (σ.root s ≡ 0 → ⊥) → 0 < σ.count (σ.root s)
  root_live s l nz = omega (arith, I.exact (σ.root s) nz, cnt_some z.slots σ.root (σ.root s) s l refl)

  -- a live cell stands on no free chain
  pub live_apart : (c : ℕ) → 0 < σ.count c → (p : ℕ) → among (free p) c ≡ 0
  live_apart c l p =
      ⊎_elim
      (λ e. e)
      (λ ne.
      let w = I.within p c (omega arith) in
      absurd (omega (arith, I.free_once c w.0, ap (λ (x : ℕ). among (free x) c) w.1, ind_other 0 (σ.count c) (λ e. omega arith))))
      (eq? (among (free p) c) 0)

pub in_hand : {z : Shape} {σ : State} {free : ℕ → List ℕ} (H : ℕ → ℕ) (r : ℕ)
    → (r ≡ 0 → ⊥) → Local z σ (λ x. ind x r + H x) free → (0 < σ.count r) × (0 < refs z r)
in_hand {z} {σ} H r nz I =
    let l : 0 < σ.count r = omega (arith, I.exact r nz, ind_same r r refl) in
    (l, live_cell I r l)

-- FREE CHAINS
pub record First (z : Shape) (σ : State) (p c : ℕ) (rs : List ℕ) : Type 0 where
  pub head : σ.first p ≡ c
  pub cell : 0 < refs z c
  pub kind : kind_of c ≡ p
  pub unused : σ.count c ≡ 0
  pub once : among rs c ≡ 0
  pub some : c ≡ 0 → ⊥
  pub tail : Chain σ.mark (σ.mark c) rs

module _ {z : Shape} {σ : State} {H : ℕ → ℕ} {free : ℕ → List ℕ} (I : Local z σ H free) where
  pub first : (p c : ℕ) (rs : List ℕ) → free p ≡ c ∷ rs → First z σ p c rs
  unfolding among
  first p c rs e =
      let ch : (σ.first p ≡ c) × Chain σ.mark (σ.mark c) rs = subst (λ (x : List ℕ). Chain σ.mark (σ.first p) x) e (I.chain p) in
      let cn : among (free p) c ≡ ind c c + among rs c = ap (λ (x : List ℕ). among x c) e in
      let one : ind c c ≡ 1 = ind_same c c refl in
      let w = I.within p c (omega arith) in
      let fr : among (free p) c ≡ ind 0 (σ.count c) = ap (λ (x : ℕ). among (free x) c) (sym w.1) ∙ I.free_once c w.0 in
      record {
        head = ch.0;
        cell = w.0;
        kind = w.1;
        unused = ⊎_elim (λ y. y) (λ ne. absurd (omega (arith, ind_other 0 (σ.count c) ne))) (eq? (σ.count c) 0);
        once = omega (arith, ind_le 0 (σ.count c));
        some = λ y. omega (arith, w.0, refs_none z, ap (refs z) y);
        tail = ch.1;
      }

  none_from : (p : ℕ) (l : List ℕ) → free p ≡ l → σ.first p ≡ 0 → l ≡ []
  none_from p [] e h = refl
  none_from p (c ∷ rs) e h = let F = first p c rs e in absurd (F.some (sym F.head ∙ h))

  -- the head is 0 exactly if the chain is empty
  pub none_left : (p : ℕ) → (free p ≡ []) ↔ (σ.first p ≡ 0)
  none_left p = (λ e. subst (λ (x : List ℕ). Chain σ.mark (σ.first p) x) e (I.chain p), none_from p (free p) refl)

  -- a cell is in use or free
  pub used_and_free : 0 < z.degree → (p : ℕ) → p < 2 → σ.used p + length (free p) ≡ cells_of z p
  used_and_free d p l = I.used_ok p ∙ num_cells z d p l

  pub free_length : 0 < z.degree → (p : ℕ) → p < 2 → length (free p) ≡ cells_of z p - σ.used p
  free_length d p l = omega (arith, used_and_free d p l)

-- COUNTS OF CELLS. The free cells of a kind are fewer than its cells while one of it lives.
sum_strict : (n : ℕ) (f g : ℕ → ℕ) (c : ℕ) → c < n → f c < g c → ((j : ℕ) → f j ≤ g j) → sum_to n f < sum_to n g
unfolding sum_to
sum_strict zero f g c l s h = absurd (omega arith)
sum_strict (suc n) f g c l s h =
    ⊎_elim
    (λ e. omega (arith, sum_mono n f g h, ap f e, ap g e))
    (λ ne. omega (arith, sum_strict n f g c (omega arith) s h, h n))
    (eq? c n)

module _ {z : Shape} {σ : State} {H : ℕ → ℕ} {free : ℕ → List ℕ} (I : Local z σ H free) where
  free_cell : (p r : ℕ) → among (free p) r ≤ cell z p r
  free_cell p r =
      ⊎_elim
      (λ e. omega arith)
      (λ ne.
      let w = I.within p r (omega arith) in
      omega
      (arith, cell_yes z p r w.0 w.1, I.free_once r w.0, ap (λ (x : ℕ). among (free x) r) w.1, ind_le 0 (σ.count r)))
      (eq? (among (free p) r) 0)

  pub some_used : (c : ℕ) → 0 < σ.count c → 1 ≤ σ.used (kind_of c)
  some_used c l =
      let p = kind_of c in
      let w = live_cell I c l in
      omega (
        arith,
        I.used_ok p,
        length-among (top z) (free p) (λ r m. refs_inside z r (I.within p r m).0),
        sum_strict (top z) (λ r. among (free p) r) (λ r. cell z p r) c (refs_inside z c w)
            (omega (arith, cell_yes z p c w refl, live_apart I c l p)) (free_cell p),
      )

-- HOW OFTEN A CELL IS NAMED. Never more often than there are words that hold references.
pub occ_bound : (z : Shape) (σ : State) (r : ℕ) → occ z σ r ≤ z.slots + sum_to (top z) (refs z)
occ_bound z σ r =
    omega (
      arith,
      cnt_le z.slots σ.root r,
      sum_mono (top z) (λ q. times (refs z q) (σ.kid q) r) (refs z) (λ q. cnt_le (refs z q) (σ.kid q) r),
    )

pub count_bound : {z : Shape} {σ : State} {H : ℕ → ℕ} {free : ℕ → List ℕ} (r : ℕ)
    → Local z σ H free → 0 < z.degree → σ.count r ≤ z.slots + z.branches * z.degree + z.entries + H r
count_bound {z} {σ} r I d =
    ⊎_elim
    (λ e. omega (arith, ap σ.count e, I.out 0 (refs_none z)))
    (λ nz. omega (arith, I.exact r nz, occ_bound z σ r, sum_refs z d))
    (eq? r 0)

-- so a count that is tested never overflows
-- and where cells only go, no more words name a cell than before
pub occ_mono : {z : Shape} {σ τ : State} {H : ℕ → ℕ} {free : ℕ → List ℕ} (r : ℕ)
    → (r ≡ 0 → ⊥) → Shrink 0 σ τ → SameSlots σ τ → Local z τ H free → occ z τ r ≤ occ z σ r
occ_mono {z} {σ} {τ} r nz P E I =
    omega (
      arith,
      ap (λ (g : ℕ → ℕ). times z.slots g r) E.root_eq,
      sum_mono (top z) (λ q. times (refs z q) (τ.kid q) r) (λ q. times (refs z q) (σ.kid q) r)
          (λ q.
          ⊎_elim
          (λ e. omega (arith, sum_zero (refs z q) (λ k. ind r (τ.kid q k)) (λ k m. ind_other r (τ.kid q k) (λ y. nz (sym y ∙ I.rest q k e)))))
          (λ l.
          let n0 : q ≡ 0 → ⊥ = λ e. l (I.out q (ap (refs z) e ∙ refs_none z)) in
          omega (arith, ap (λ (g : ℕ → ℕ). times (refs z q) g r) (P.kid_eq q n0 (omega arith))))
          (eq? (τ.count q) 0)),
    )
