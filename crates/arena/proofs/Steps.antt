-- Each step keeps the local form: it moves references between the words and the hand, and cells between use and the free
-- chains, and every count moves with them. Beside each step stands its frame.
use Prim.Native.Nat.{ℕ, ◌+◌, ◌-◌, ◌≤◌, ◌<◌}
use mathlib.Core.Path.{◌≡◌, refl, sym, ap, ◌∙◌, subst}
use mathlib.Core.Logic.{◌⊎◌, inl, inr, ⊎_elim}
use mathlib.Core.List.{[], List, ◌∷◌}
use native.Mathlib.Omega.{arith}
use borrow.Author.Tests.{eq-eqb, ne_eqb}
use lib.ListN.{length, drop}
use Rattle.cases.proofs.Cases.{eq?, lt?}
use Rattle.counts.specs.Counts.{upd, upd2, upd_row, ind, times, among}
use Rattle.counts.proofs.CountLaws.{upd_same, upd_at, upd_other, ind_same, ind_other, sum_one, sum_zero, cnt_upd, cnt_some, row_same, row_other, place_same, place_other}
use Rattle.layout.specs.declared.Shape.{Shape}
use Rattle.layout.specs.Layout.{kind_of}
use Rattle.layout.specs.Columns.{State, refs, set_count, set_kid, set_slot}
use Rattle.arena.specs.Sound.{top, Chain}
use Rattle.arena.specs.Local.{Below, Local, Grow, Shrink, SameSlots}
use Rattle.arena.specs.Steps.{take_state, fill_state, give_state, on_chain}
use Rattle.arena.proofs.RefLaws.{refs_inside}
use Rattle.arena.proofs.LocalLaws.{rehand, live_cell, live_some, kid_named, kid_live, live_apart, first, some_used}
use Rattle.arena.proofs.Frames.{SameSlot}

-- a store to a mark off the chain leaves the chain
pub Chain-frame : (mark : ℕ → ℕ) (c v r : ℕ) (cs : List ℕ) → among cs c ≡ 0 → Chain mark r cs → Chain (upd mark c v) r cs
unfolding among
Chain-frame mark c v r [] z h = h
Chain-frame mark c v r (d ∷ cs) z h =
    let nd : d ≡ c → ⊥ = λ e. omega (arith, ind_same c d e) in
    (h.0, rw (upd_other mark c v d nd) (Chain-frame mark c v (mark d) cs (omega arith) h.1))

chain_same : (mark : ℕ → ℕ) {r q : ℕ} {cs ds : List ℕ} → r ≡ q → cs ≡ ds → Chain mark q ds → Chain mark r cs
chain_same mark {r} {q} {cs} {ds} e h c =
    subst (λ (x : List ℕ). Chain mark r x) (sym h) (subst (λ (x : ℕ). Chain mark x ds) (sym e) c)

-- SHARE AND UNSHARE: the count of a live cell moves, and it lives on
recount : {z : Shape} {σ : State} {H : ℕ → ℕ} {free : ℕ → List ℕ} (K : ℕ → ℕ) (c v : ℕ)
    → 0 < σ.count c → 0 < v → (v + H c ≡ σ.count c + K c) → ((r : ℕ) → (r ≡ c → ⊥) → H r ≡ K r)
    → Local z σ H free → Local z (set_count σ c v) K free
recount {z} {σ} {H} K c v live pos here there I =
    let f = σ.count in
    record {
      exact =
          λ r nz.
          ⊎_elim
          (λ e. omega (arith, I.exact r nz, upd_same f c v r e, ap f e, ap H e, ap K e))
          (λ ne. omega (arith, I.exact r nz, upd_other f c v r ne, there r ne))
          (eq? r c);
      out =
          λ r w. upd_other f c v r (λ e. omega (arith, I.out r w, ap f e)) ∙ I.out r w;
      chain = I.chain;
      free_once =
          λ r w.
          ⊎_elim
          (λ e.
          omega (
            arith,
            I.free_once r w,
            ind_other 0 (upd f c v r) (λ y. omega (arith, upd_same f c v r e)),
            ind_other 0 (f r) (λ y. omega (arith, ap f e)),
          ))
          (λ ne. I.free_once r w ∙ ap (ind 0) (sym (upd_other f c v r ne)))
          (eq? r c);
      within = I.within;
      used_ok = I.used_ok;
      rest = λ q j y. I.rest q j (sym (upd_other f c v q (λ e. omega (arith, upd_same f c v q e))) ∙ y);
      blank = λ q j y. I.blank q j (sym (upd_other f c v q (λ e. omega (arith, upd_same f c v q e))) ∙ y);
      deep =
          λ q l ev.
          ⊎_elim
          (λ e. I.deep q (omega (arith, ap f e)) ev)
          (λ ne. I.deep q (omega (arith, upd_other f c v q ne)) ev)
          (eq? q c);
      clip = I.clip;
      below = I.below;
      no_root = I.no_root;
    }

-- what is in hand besides c
off_hand : (H : ℕ → ℕ) (c r : ℕ) → (r ≡ c → ⊥) → ind r c + H r ≡ H r
off_hand H c r ne = omega (arith, ind_other r c (λ y. ne (sym y)))

pub share : {z : Shape} {σ : State} {H : ℕ → ℕ} {free : ℕ → List ℕ} (c : ℕ)
    → 0 < σ.count c → Local z σ H free → Local z (set_count σ c (σ.count c + 1)) (λ r. ind r c + H r) free
share {σ = σ} {H = H} c live I =
    recount (λ r. ind r c + H r) c (σ.count c + 1) live (omega arith) (omega (arith, ind_same c c refl))
    (λ r ne. sym (off_hand H c r ne)) I

pub unshare : {z : Shape} {σ : State} {free : ℕ → List ℕ} (H : ℕ → ℕ) (c : ℕ)
    → 2 ≤ σ.count c → Local z σ (λ r. ind r c + H r) free → Local z (set_count σ c (σ.count c - 1)) H free
unshare {σ = σ} H c two I =
    recount H c (σ.count c - 1) (omega arith) (omega arith) (omega (arith, ind_same c c refl)) (off_hand H c) I

-- of the reference that names none there is nothing to count
hand_none : (H : ℕ → ℕ) (c : ℕ) → c ≡ 0 → (r : ℕ) → (r ≡ 0 → ⊥) → ind r c + H r ≡ H r
hand_none H c e r nz = off_hand H c r (λ y. nz (y ∙ e))

pub share_none : {z : Shape} {σ : State} {H : ℕ → ℕ} {free : ℕ → List ℕ} (c : ℕ)
    → c ≡ 0 → Local z σ H free → Local z σ (λ r. ind r c + H r) free
share_none {H = H} c e = rehand (λ r. ind r c + H r) (λ r nz. sym (hand_none H c e r nz))

pub unshare_none : {z : Shape} {σ : State} {free : ℕ → List ℕ} (H : ℕ → ℕ) (c : ℕ)
    → c ≡ 0 → Local z σ (λ r. ind r c + H r) free → Local z σ H free
unshare_none H c e = rehand H (hand_none H c e)

pub Grow-count : (σ : State) (c v : ℕ) → 0 < v → Grow σ (set_count σ c v)
Grow-count σ c v pos =
    record {
      live =
          λ r l.
          ⊎_elim
          (λ e. omega (arith, upd_same σ.count c v r e))
          (λ ne. omega (arith, upd_other σ.count c v r ne))
          (eq? r c);
      mark_eq = λ r l. refl;
      kid_eq = λ r l. refl;
      plain_eq = λ r l. refl;
    }

pub Grow-share : (σ : State) (c : ℕ) → Grow σ (set_count σ c (σ.count c + 1))
Grow-share σ c = Grow-count σ c (σ.count c + 1) (omega arith)

pub Shrink-count : (x : ℕ) (σ : State) (c v : ℕ) → 0 < σ.count c → Shrink x σ (set_count σ c v)
Shrink-count x σ c v pos =
    record {
      live =
          λ r n l.
          ⊎_elim (λ e. omega (arith, ap σ.count e)) (λ ne. omega (arith, upd_other σ.count c v r ne)) (eq? r c);
      mark_eq = λ r n l. refl;
      kid_eq = λ r n l. refl;
      plain_eq = λ r n l. refl;
    }

pub Shrink-unshare : (x : ℕ) (σ : State) (c : ℕ) → 2 ≤ σ.count c → Shrink x σ (set_count σ c (σ.count c - 1))
Shrink-unshare x σ c two = Shrink-count x σ c (σ.count c - 1) (omega arith)

pub same_count : (σ : State) (c v : ℕ) → SameSlots σ (set_count σ c v)
same_count σ c v = record { held_eq = refl; root_eq = refl; size_eq = refl }

-- TAKE
module _ (free : ℕ → List ℕ) (p c : ℕ) (rs : List ℕ) where
  abbrev left : ℕ → List ℕ
  left q = drop (ind q p) (free q)

  left_at : free p ≡ c ∷ rs → (q : ℕ) → q ≡ p → left q ≡ rs
  left_at e q h =
      ap (λ (x : ℕ). drop x (free q)) (ind_same q p (sym h)) ∙ ap (λ (x : ℕ). drop 1 (free x)) h ∙ ap (drop 1) e

  left_off : (q : ℕ) → (q ≡ p → ⊥) → left q ≡ free q
  left_off q h = ap (λ (x : ℕ). drop x (free q)) (ind_other q p (λ y. h (sym y)))

pub take : {z : Shape} {σ : State} {H : ℕ → ℕ} {free : ℕ → List ℕ} (p c : ℕ) (rs : List ℕ)
    → free p ≡ c ∷ rs → 0 < z.depths → Local z σ H free
    → Local z (take_state σ p c) (λ r. ind r c + H r) (λ q. drop (ind q p) (free q))
unfolding among
take {z} {σ} {H} {free} p c rs e dp I =
    let F = first I p c rs e in
    let g = σ.count in
    let at = left_at free p c rs e in
    let off = left_off free p c rs in
    let mid : (r : ℕ) → upd g c 1 r ≡ 0 → r ≡ c → ⊥ = λ r y h. omega (arith, upd_same g c 1 r h) in
    let nn : (a k : ℕ) → (σ.kid a k ≡ 0 → ⊥) → (a ≡ c → ⊥) × (σ.kid a k ≡ c → ⊥)
    = λ a k nz.
    (λ h. nz (I.rest a k (ap g h ∙ F.unused)), λ h. omega (arith, kid_live I a k nz, ap g h, F.unused)) in
    record {
      exact =
          λ r nz.
          ⊎_elim
          (λ h. omega (arith, upd_same g c 1 r h, I.exact r nz, ind_same r c (sym h), ap g h, F.unused))
          (λ ne. omega (arith, upd_other g c 1 r ne, I.exact r nz, ind_other r c (λ y. ne (sym y))))
          (eq? r c);
      out = λ r w. upd_other g c 1 r (λ h. omega (arith, F.cell, ap (refs z) h)) ∙ I.out r w;
      chain =
          λ q.
          ⊎_elim
          (λ h.
          chain_same (upd σ.mark c 0) (upd_same σ.first p (σ.mark c) q h) (at q h)
          (Chain-frame σ.mark c 0 (σ.mark c) rs F.once F.tail))
          (λ ne.
          chain_same (upd σ.mark c 0) (upd_other σ.first p (σ.mark c) q ne) (off q ne)
          (Chain-frame σ.mark c 0 (σ.first q) (free q)
          (⊎_elim (λ y. y) (λ y. absurd (ne (sym (I.within q c (omega arith)).1 ∙ F.kind))) (eq? (among (free q) c) 0))
          (I.chain q)))
          (eq? q p);
      free_once =
          λ r w.
          ⊎_elim
          (λ h.
          ap (λ (x : List ℕ). among x r) (at (kind_of r) (ap (λ (x : ℕ). kind_of x) h ∙ F.kind))
          ∙ ap (among rs) h ∙ F.once ∙ sym (ind_other 0 (upd g c 1 r) (λ y. mid r y h)))
          (λ ne.
          ⊎_elim
          (λ h.
          omega (
            arith,
            ap (λ (x : List ℕ). among x r) (at (kind_of r) h),
            I.free_once r w,
            ap (λ (x : ℕ). among (free x) r) h,
            ap (λ (x : List ℕ). among x r) e,
            ind_other r c (λ y. ne (sym y)),
            ap (ind 0) (upd_other g c 1 r ne),
          ))
          (λ h.
          ap (λ (x : List ℕ). among x r) (off (kind_of r) h) ∙ I.free_once r w ∙ ap (ind 0) (sym (upd_other g c 1 r ne)))
          (eq? (kind_of r) p))
          (eq? r c);
      within =
          λ q r l.
          ⊎_elim
          (λ h.
          I.within q r
          (omega
          (arith, ap (λ (x : List ℕ). among x r) (at q h), ap (λ (x : ℕ). among (free x) r) h, ap (λ (x : List ℕ). among x r) e)))
          (λ h. I.within q r (omega (arith, ap (λ (x : List ℕ). among x r) (off q h))))
          (eq? q p);
      used_ok =
          λ q.
          ⊎_elim
          (λ h.
          omega (
            arith,
            I.used_ok q,
            upd_same σ.used p (σ.used p + 1) q h,
            ap σ.used h,
            ap length (at q h),
            ap (λ (x : ℕ). length (free x)) h,
            ap length e,
          ))
          (λ ne. omega (arith, I.used_ok q, upd_other σ.used p (σ.used p + 1) q ne, ap length (off q ne)))
          (eq? q p);
      rest = λ a k y. I.rest a k (sym (upd_other g c 1 a (mid a y)) ∙ y);
      blank = λ a k y. I.blank a k (sym (upd_other g c 1 a (mid a y)) ∙ y);
      deep =
          λ a l ev.
          ⊎_elim
          (λ h. omega (arith, upd_same σ.mark c 0 a h))
          (λ ne. omega (arith, upd_other σ.mark c 0 a ne, I.deep a (omega (arith, upd_other g c 1 a ne)) ev))
          (eq? a c);
      clip = I.clip;
      below =
          λ a k nz.
          let n = nn a k nz in
          rw (upd_other σ.mark c 0 a n.0, upd_other σ.mark c 0 (σ.kid a k) n.1) (I.below a k nz);
      no_root = I.no_root;
    }

pub Grow-take : (σ : State) (p c : ℕ) → σ.count c ≡ 0 → Grow σ (take_state σ p c)
Grow-take σ p c e =
    let ne : (r : ℕ) → 0 < σ.count r → r ≡ c → ⊥ = λ r l h. omega (arith, ap σ.count h) in
    record {
      live = λ r l. omega (arith, upd_other σ.count c 1 r (ne r l));
      mark_eq = λ r l. upd_other σ.mark c 0 r (ne r l);
      kid_eq = λ r l. refl;
      plain_eq = λ r l. refl;
    }

pub same_take : (σ : State) (p c : ℕ) → SameSlots σ (take_state σ p c)
same_take σ p c = record { held_eq = refl; root_eq = refl; size_eq = refl }

-- FILL. A cell in hand that is counted once is named by no word, so what it is filled with is the business of no other cell.
pub fill : {z : Shape} {σ : State} {free : ℕ → List ℕ} (H : ℕ → ℕ) (c v : ℕ) (f d : ℕ → ℕ)
    → Local z σ (λ r. times (refs z c) f r + (ind r c + H r)) free
    → σ.count c ≡ 1
    → ((k : ℕ) → σ.kid c k ≡ 0)
    → ((k : ℕ) → refs z c ≤ k → f k ≡ 0)
    → ((k : ℕ) → (f k ≡ 0 → ⊥) → Below (kind_of c) v (kind_of (f k)) (σ.mark (f k)))
    → (kind_of c ≡ 0 → v < z.depths)
    → Local z (fill_state σ c v f d) (λ r. ind r c + H r) free
fill {z} {σ} {free} H c v f d I one bare cl un dp =
    let live : 0 < σ.count c = omega arith in
    let nz : c ≡ 0 → ⊥ = live_some I c live in
    let lc : c < top z = refs_inside z c (live_cell I c live) in
    let ex = I.exact c nz in
    let is : ind c c ≡ 1 = ind_same c c refl in
    let nn : (a k : ℕ) → σ.kid a k ≡ c → ⊥ = λ a k h. omega (arith, kid_named I a k c h nz) in
    let nf : (k : ℕ) → f k ≡ c → ⊥
    = λ k h.
    let lk : k < refs z c = ⊎_elim (λ l. l) (λ l. absurd (nz (sym h ∙ cl k l))) (lt? k (refs z c)) in
    omega (arith, cnt_some (refs z c) f c k lk h) in
    let at : (a k : ℕ) → a ≡ c → upd_row σ.kid c f a k ≡ f k
    = λ a k h. ap (λ (x : ℕ → ℕ). x k) (row_same σ.kid c f a h) in
    let off : (a k : ℕ) → (a ≡ c → ⊥) → upd_row σ.kid c f a k ≡ σ.kid a k
    = λ a k ne. ap (λ (x : ℕ → ℕ). x k) (row_other σ.kid c f a ne) in
    record {
      exact =
          λ r n.
          omega (
            arith,
            I.exact r n,
            sum_one (top z) (λ a. times (refs z a) (σ.kid a) r) (λ a. times (refs z a) (upd_row σ.kid c f a) r) c lc
                (λ a ne. ap (λ (x : ℕ → ℕ). times (refs z a) x r) (sym (row_other σ.kid c f a ne))),
            ap (λ (x : ℕ → ℕ). times (refs z c) x r) (row_same σ.kid c f c refl),
            sum_zero (refs z c) (λ k. ind r (σ.kid c k)) (λ k lk. ind_other r (σ.kid c k) (λ y. n (sym y ∙ bare k))),
          );
      out = I.out;
      chain = λ p. Chain-frame σ.mark c v (σ.first p) (free p) (live_apart I c live p) (I.chain p);
      free_once = I.free_once;
      within = I.within;
      used_ok = I.used_ok;
      rest = λ a k y. off a k (λ h. omega (arith, ap σ.count h)) ∙ I.rest a k y;
      blank =
          λ a k y.
          ap (λ (x : ℕ → ℕ). x k) (row_other σ.plain c d a (λ h. omega (arith, ap σ.count h))) ∙ I.blank a k y;
      deep =
          λ a l ev.
          ⊎_elim
          (λ h. omega (arith, upd_same σ.mark c v a h, dp (ap (λ (x : ℕ). kind_of x) (sym h) ∙ ev)))
          (λ ne. omega (arith, upd_other σ.mark c v a ne, I.deep a l ev))
          (eq? a c);
      clip =
          λ a k l.
          ⊎_elim (λ h. at a k h ∙ cl k (omega (arith, ap (refs z) h))) (λ ne. off a k ne ∙ I.clip a k l) (eq? a c);
      below =
          λ a k y.
          ⊎_elim
          (λ h.
          let w = at a k h in
          rw (w, upd_same σ.mark c v a h, upd_other σ.mark c v (f k) (nf k), h) (un k (λ x. y (w ∙ x))))
          (λ ne.
          let w = off a k ne in
          rw (w, upd_other σ.mark c v a ne, upd_other σ.mark c v (σ.kid a k) (nn a k)) (I.below a k (λ x. y (w ∙ x))))
          (eq? a c);
      no_root = I.no_root;
    }

-- a free cell that is taken and filled at once with what is in hand
pub new_cell : {z : Shape} {σ : State} {free : ℕ → List ℕ} (H : ℕ → ℕ) (p c : ℕ) (rs : List ℕ) (v : ℕ) (f d : ℕ → ℕ)
    → free p ≡ c ∷ rs
    → 0 < z.depths
    → Local z σ (λ r. times (refs z c) f r + H r) free
    → ((k : ℕ) → refs z c ≤ k → f k ≡ 0)
    → ((k : ℕ) → (f k ≡ 0 → ⊥) → Below p v (kind_of (f k)) (σ.mark (f k)))
    → (p ≡ 0 → v < z.depths)
    → Local z (fill_state (take_state σ p c) c v f d) (λ r. ind r c + H r) (λ q. drop (ind q p) (free q))
new_cell {z} {σ} {free} H p c rs v f d e some I cl un dp =
    let F = first I p c rs e in
    let K = rehand (λ r. times (refs z c) f r + (ind r c + H r)) (λ r nz. omega arith) (take p c rs e some I) in
    let nf : (k : ℕ) → (f k ≡ 0 → ⊥) → f k ≡ c → ⊥
    = λ k nz h.
    let lk : k < refs z c = ⊎_elim (λ l. l) (λ l. absurd (nz (cl k l))) (lt? k (refs z c)) in
    omega (arith, I.exact (f k) nz, cnt_some (refs z c) f (f k) k lk refl, ap σ.count h, F.unused) in
    fill H c v f d K (upd_at σ.count c 1) (λ k. I.rest c k F.unused) cl
    (λ k nz. rw (upd_other σ.mark c 0 (f k) (nf k nz), F.kind) (un k nz)) (λ y. dp (sym F.kind ∙ y))

-- a cell that did not live before may be filled
pub Grow-fill : {ρ σ : State} (c v : ℕ) (f d : ℕ → ℕ) → Grow ρ σ → ρ.count c ≡ 0 → Grow ρ (fill_state σ c v f d)
Grow-fill {ρ} {σ} c v f d g e =
    let ne : (r : ℕ) → 0 < ρ.count r → r ≡ c → ⊥ = λ r l h. omega (arith, ap ρ.count h) in
    record {
      live = g.live;
      mark_eq = λ r l. upd_other σ.mark c v r (ne r l) ∙ g.mark_eq r l;
      kid_eq = λ r l. row_other σ.kid c f r (ne r l) ∙ g.kid_eq r l;
      plain_eq = λ r l. row_other σ.plain c d r (ne r l) ∙ g.plain_eq r l;
    }

pub Grow-new : (σ : State) (p c v : ℕ) (f d : ℕ → ℕ) → σ.count c ≡ 0 → Grow σ (fill_state (take_state σ p c) c v f d)
Grow-new σ p c v f d e = Grow-fill c v f d (Grow-take σ p c e) e

pub same_fill : (σ : State) (c v : ℕ) (f d : ℕ → ℕ) → SameSlots σ (fill_state σ c v f d)
same_fill σ c v f d = record { held_eq = refl; root_eq = refl; size_eq = refl }

-- GIVE BACK
pub on_chain_at : (free : ℕ → List ℕ) (c p : ℕ) → p ≡ kind_of c → on_chain free c p ≡ c ∷ free p
unfolding on_chain
on_chain_at free c p e = rw (eq-eqb p (kind_of c) e)

pub on_chain_off : (free : ℕ → List ℕ) (c p : ℕ) → (p ≡ kind_of c → ⊥) → on_chain free c p ≡ free p
unfolding on_chain
on_chain_off free c p ne = rw (ne_eqb p (kind_of c) ne)

pub give_back : {z : Shape} {σ : State} {free : ℕ → List ℕ} (H : ℕ → ℕ) (c : ℕ)
    → σ.count c ≡ 1 → ((k : ℕ) → σ.kid c k ≡ 0) → Local z σ (λ r. ind r c + H r) free → Local z (give_state σ c) H (on_chain free c)
unfolding among
give_back {z} {σ} {free} H c one bare I =
    let f = σ.count in
    let q = kind_of c in
    let live : 0 < f c = omega arith in
    let lw : 0 < refs z c = live_cell I c live in
    let nzc : c ≡ 0 → ⊥ = live_some I c live in
    let apart = live_apart I c live in
    let su = some_used I c live in
    let ex = I.exact c nzc in
    let is : ind c c ≡ 1 = ind_same c c refl in
    let nn : (a k : ℕ) → σ.kid a k ≡ c → ⊥ = λ a k h. omega (arith, kid_named I a k c h nzc) in
    let at = on_chain_at free c in
    let off = on_chain_off free c in
    record {
      exact =
          λ r nz.
          ⊎_elim
          (λ e. omega (arith, I.exact r nz, upd_same f c 0 r e, ind_same r c (sym e), ap f e))
          (λ ne. omega (arith, I.exact r nz, upd_other f c 0 r ne, ind_other r c (λ y. ne (sym y))))
          (eq? r c);
      out = λ r w. ⊎_elim (λ e. upd_same f c 0 r e) (λ ne. upd_other f c 0 r ne ∙ I.out r w) (eq? r c);
      chain =
          λ p.
          let kept = Chain-frame σ.mark c (σ.first q) (σ.first p) (free p) (apart p) (I.chain p) in
          ⊎_elim
          (λ e.
          chain_same (upd σ.mark c (σ.first q)) (upd_same σ.first q c p e) (at p e)
          (refl, chain_same (upd σ.mark c (σ.first q)) {cs = free p} (upd_at σ.mark c (σ.first q) ∙ ap σ.first (sym e)) refl kept))
          (λ ne. chain_same (upd σ.mark c (σ.first q)) (upd_other σ.first q c p ne) (off p ne) kept)
          (eq? p q);
      free_once =
          λ r w.
          ⊎_elim
          (λ e.
          omega (
            arith,
            ap (λ (x : List ℕ). among x r) (at (kind_of r) (ap (λ (x : ℕ). kind_of x) e)),
            ind_same r c (sym e),
            I.free_once r w,
            ind_other 0 (f r) (λ y. omega (arith, ap f e)),
            ind_same 0 (upd f c 0 r) (upd_same f c 0 r e),
          ))
          (λ ne.
          ⊎_elim
          (λ h.
          omega (
            arith,
            ap (λ (x : List ℕ). among x r) (at (kind_of r) h),
            I.free_once r w,
            ind_other r c (λ y. ne (sym y)),
            ap (ind 0) (upd_other f c 0 r ne),
          ))
          (λ h. ap (λ (x : List ℕ). among x r) (off (kind_of r) h) ∙ I.free_once r w ∙ ap (ind 0) (sym (upd_other f c 0 r ne)))
          (eq? (kind_of r) q))
          (eq? r c);
      within =
          λ p r l.
          ⊎_elim
          (λ e.
          ⊎_elim
          (λ h. (omega (arith, ap (refs z) h), ap (λ (x : ℕ). kind_of x) h ∙ sym e))
          (λ ne. I.within p r (omega (arith, ap (λ (x : List ℕ). among x r) (at p e), ind_other r c (λ y. ne (sym y)))))
          (eq? r c))
          (λ ne. I.within p r (omega (arith, ap (λ (x : List ℕ). among x r) (off p ne))))
          (eq? p q);
      used_ok =
          λ p.
          ⊎_elim
          (λ e. omega (arith, I.used_ok p, upd_same σ.used q (σ.used q - 1) p e, ap σ.used e, ap length (at p e)))
          (λ ne. omega (arith, I.used_ok p, upd_other σ.used q (σ.used q - 1) p ne, ap length (off p ne)))
          (eq? p q);
      rest =
          λ a k y.
          ⊎_elim
          (λ e. ap (λ (x : ℕ). σ.kid x k) e ∙ bare k)
          (λ ne. I.rest a k (sym (upd_other f c 0 a ne) ∙ y))
          (eq? a c);
      blank =
          λ a k y.
          ⊎_elim
          (λ e. ap (λ (g : ℕ → ℕ). g k) (row_same σ.plain c (λ j. 0) a e))
          (λ ne. ap (λ (g : ℕ → ℕ). g k) (row_other σ.plain c (λ j. 0) a ne) ∙ I.blank a k (sym (upd_other f c 0 a ne) ∙ y))
          (eq? a c);
      deep =
          λ a l ev.
          let ne : a ≡ c → ⊥ = λ e. omega (arith, upd_same f c 0 a e) in
          omega (arith, upd_other σ.mark c (σ.first q) a ne, I.deep a (omega (arith, upd_other f c 0 a ne)) ev);
      clip = I.clip;
      below =
          λ a k nz.
          let na : a ≡ c → ⊥ = λ e. nz (ap (λ (x : ℕ). σ.kid x k) e ∙ bare k) in
          rw (upd_other σ.mark c (σ.first q) a na, upd_other σ.mark c (σ.first q) (σ.kid a k) (nn a k)) (I.below a k nz);
      no_root = I.no_root;
    }

pub Shrink-give : (σ : State) (c : ℕ) → Shrink c σ (give_state σ c)
Shrink-give σ c =
    record {
      live = λ r n l. omega (arith, upd_other σ.count c 0 r n);
      mark_eq = λ r n l. upd_other σ.mark c (σ.first (kind_of c)) r n;
      kid_eq = λ r n l. refl;
      plain_eq = λ r n l. row_other σ.plain c (λ k. 0) r n;
    }

pub same_give : (σ : State) (c : ℕ) → SameSlots σ (give_state σ c)
same_give σ c = record { held_eq = refl; root_eq = refl; size_eq = refl }

-- TAKE OUT AND PUT IN: a reference goes between a cell and the hand
kid_out : (f : ℕ → ℕ → ℕ) (c k v d j : ℕ) → ((d ≡ c) × (j ≡ k) × (upd2 f c k v d j ≡ v)) ⊎ (upd2 f c k v d j ≡ f d j)
kid_out f c k v d j =
    ⊎_elim
    (λ e.
    let w : upd2 f c k v d j ≡ upd (f d) k v j = ap (λ (g : ℕ → ℕ). g j) (place_same f c k v d e) in
    ⊎_elim (λ h. inl (e, h, w ∙ upd_same (f d) k v j h)) (λ h. inr (w ∙ upd_other (f d) k v j h)) (eq? j k))
    (λ ne. inr (ap (λ (g : ℕ → ℕ). g j) (place_other f c k v d ne)))
    (eq? d c)

-- a place of a cell gets another reference, or none; only a live cell gets one
rekid : {z : Shape} {σ : State} {H : ℕ → ℕ} {free : ℕ → List ℕ} (K : ℕ → ℕ) (c k v : ℕ)
    → k < refs z c
    → ((v ≡ 0 → ⊥) → (0 < σ.count c) × Below (kind_of c) (σ.mark c) (kind_of v) (σ.mark v))
    → ((r : ℕ) → (r ≡ 0 → ⊥) → ind r (σ.kid c k) + H r ≡ ind r v + K r)
    → Local z σ H free → Local z (set_kid σ c k v) K free
rekid {z} {σ} K c k v lk may move I =
    let lc : c < top z = refs_inside z c (omega arith) in
    let or = kid_out σ.kid c k v in
    record {
      exact =
          λ r nz.
          omega (
            arith,
            I.exact r nz,
            sum_one (top z) (λ d. times (refs z d) (σ.kid d) r) (λ d. times (refs z d) (upd2 σ.kid c k v d) r) c lc
                (λ d ne. ap (λ (g : ℕ → ℕ). times (refs z d) g r) (sym (place_other σ.kid c k v d ne))),
            ap (λ (g : ℕ → ℕ). times (refs z c) g r) (place_same σ.kid c k v c refl),
            cnt_upd (refs z c) (σ.kid c) k v r lk,
            move r nz,
          );
      out = I.out;
      chain = I.chain;
      free_once = I.free_once;
      within = I.within;
      used_ok = I.used_ok;
      rest =
          λ q j y.
          ⊎_elim
          (λ e. e.2 ∙ ⊎_elim (λ o. o) (λ nz. absurd (omega (arith, (may nz).0, ap σ.count e.0))) (eq? v 0))
          (λ e. e ∙ I.rest q j y)
          (or q j);
      blank = I.blank;
      deep = I.deep;
      clip =
          λ q j l.
          ⊎_elim (λ e. absurd (omega (arith, ap (refs z) e.0, e.1))) (λ e. e ∙ I.clip q j l) (or q j);
      below =
          λ q j nz.
          ⊎_elim
          (λ e. rw (e.2, e.0) (may (λ y. nz (e.2 ∙ y))).1)
          (λ e. rw e (I.below q j (λ y. nz (e ∙ y))))
          (or q j);
      no_root = I.no_root;
    }

pub take_out : {z : Shape} {σ : State} {H : ℕ → ℕ} {free : ℕ → List ℕ} (c k : ℕ)
    → k < refs z c → Local z σ H free → Local z (set_kid σ c k 0) (λ r. ind r (σ.kid c k) + H r) free
take_out {σ = σ} {H = H} c k lk I =
    rekid (λ r. ind r (σ.kid c k) + H r) c k 0 lk (λ nz. absurd (nz refl))
    (λ r nz. omega (arith, ind_other r 0 (λ y. nz (sym y)))) I

pub put_in : {z : Shape} {σ : State} {free : ℕ → List ℕ} (H : ℕ → ℕ) (c k v : ℕ)
    → k < refs z c → 0 < σ.count c → σ.kid c k ≡ 0 → ((v ≡ 0 → ⊥) → Below (kind_of c) (σ.mark c) (kind_of v) (σ.mark v))
    → Local z σ (λ r. ind r v + H r) free → Local z (set_kid σ c k v) H free
put_in {σ = σ} H c k v lk live bare below I =
    rekid H c k v lk (λ nz. (live, below nz)) (λ r nz. omega (arith, ind_other r (σ.kid c k) (λ y. nz (sym y ∙ bare)))) I

-- what lived keeps its words but for that one reference, and all of them if the cell did not live
pub Grow-kid : {ρ σ : State} (c k v : ℕ) → Grow ρ σ → Grow (set_kid ρ c k v) (set_kid σ c k v)
Grow-kid {ρ} {σ} c k v g =
    record {
      live = g.live;
      mark_eq = g.mark_eq;
      kid_eq =
          λ r l.
          ⊎_elim
          (λ e.
          place_same σ.kid c k v r e ∙ ap (λ (f : ℕ → ℕ). upd f k v) (g.kid_eq r l) ∙ sym (place_same ρ.kid c k v r e))
          (λ ne. place_other σ.kid c k v r ne ∙ g.kid_eq r l ∙ sym (place_other ρ.kid c k v r ne))
          (eq? r c);
      plain_eq = g.plain_eq;
    }

pub Grow-put_in : {ρ σ : State} (c k v : ℕ) → Grow ρ σ → ρ.count c ≡ 0 → Grow ρ (set_kid σ c k v)
Grow-put_in {ρ} {σ} c k v g e =
    record {
      live = g.live;
      mark_eq = g.mark_eq;
      kid_eq = λ r l. place_other σ.kid c k v r (λ h. omega (arith, ap ρ.count h)) ∙ g.kid_eq r l;
      plain_eq = g.plain_eq;
    }

pub Shrink-take_out : (σ : State) (c k v : ℕ) → Shrink c σ (set_kid σ c k v)
Shrink-take_out σ c k v =
    record {
      live = λ r n l. l;
      mark_eq = λ r n l. refl;
      kid_eq = λ r n l. place_other σ.kid c k v r n;
      plain_eq = λ r n l. refl;
    }

pub same_kid : (σ : State) (c k v : ℕ) → SameSlots σ (set_kid σ c k v)
same_kid σ c k v = record { held_eq = refl; root_eq = refl; size_eq = refl }

-- HOLD AND LET GO: a reference goes between the hand and a slot
reslot : {z : Shape} {σ : State} {H : ℕ → ℕ} {free : ℕ → List ℕ} (K : ℕ → ℕ) (i h r n : ℕ)
    → i < z.slots
    → ((h ≡ 1 → ⊥) → r ≡ 0)
    → ((x : ℕ) → (x ≡ 0 → ⊥) → ind x (σ.root i) + H x ≡ ind x r + K x)
    → Local z σ H free → Local z (set_slot σ i h r n) K free
reslot {z} {σ} K i h r n li away move I =
    record {
      exact = λ x nz. omega (arith, I.exact x nz, cnt_upd z.slots σ.root i r x li, move x nz);
      out = I.out;
      chain = I.chain;
      free_once = I.free_once;
      within = I.within;
      used_ok = I.used_ok;
      rest = I.rest;
      blank = I.blank;
      deep = I.deep;
      clip = I.clip;
      below = I.below;
      no_root =
          λ j lj f.
          ⊎_elim
          (λ e. upd_same σ.root i r j e ∙ away (λ y. f (upd_same σ.held i h j e ∙ y)))
          (λ ne. upd_other σ.root i r j ne ∙ I.no_root j lj (λ y. f (upd_other σ.held i h j ne ∙ y)))
          (eq? j i);
    }

pub hold : {z : Shape} {σ : State} {free : ℕ → List ℕ} (H : ℕ → ℕ) (i r n : ℕ)
    → i < z.slots → (σ.held i ≡ 1 → ⊥) → Local z σ (λ x. ind x r + H x) free → Local z (set_slot σ i 1 r n) H free
hold {σ = σ} H i r n li fr I =
    reslot H i 1 r n li (λ f. absurd (f refl))
    (λ x nz. omega (arith, ind_other x (σ.root i) (λ y. nz (sym y ∙ I.no_root i li fr)))) I

pub let_go : {z : Shape} {σ : State} {H : ℕ → ℕ} {free : ℕ → List ℕ} (i : ℕ)
    → i < z.slots → Local z σ H free → Local z (set_slot σ i 0 0 0) (λ x. ind x (σ.root i) + H x) free
let_go {σ = σ} {H = H} i li I =
    reslot (λ x. ind x (σ.root i) + H x) i 0 0 0 li (λ f. refl) (λ x nz. omega (arith, ind_other x 0 (λ y. nz (sym y)))) I

pub Grow-slot : (σ : State) (i h r n : ℕ) → Grow σ (set_slot σ i h r n)
Grow-slot σ i h r n = record { live = λ x l. l; mark_eq = λ x l. refl; kid_eq = λ x l. refl; plain_eq = λ x l. refl }

pub Shrink-slot : (x : ℕ) (σ : State) (i h r n : ℕ) → Shrink x σ (set_slot σ i h r n)
Shrink-slot x σ i h r n =
    record { live = λ y d l. l; mark_eq = λ y d l. refl; kid_eq = λ y d l. refl; plain_eq = λ y d l. refl }

-- every other slot keeps its words
pub slot_other : (σ : State) (i h r n j : ℕ) → (j ≡ i → ⊥) → SameSlot σ (set_slot σ i h r n) j
slot_other σ i h r n j ne =
    record {
      held_eq = upd_other σ.held i h j ne;
      root_eq = upd_other σ.root i r j ne;
      size_eq = upd_other σ.size i n j ne;
    }
