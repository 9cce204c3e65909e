-- What a node that is seen is made of: an entry in use, or a branch in use that stands at its depth and whose row passes, child
-- by child. So its leftmost entry is in use, and a branch has no more entries than the arena.
use Rattle.std.proofs.Common.{◌≡◌, ℕ, zero, suc, ◌+◌, ◌-◌, ◌^◌, ◌<◌, ◌≤◌, Bool, true, false, cond, eqb, ltb, ◌⊎◌, Some, None, Option, sym, refl, ap, ◌∙◌, inl, inr, ⊎_elim, arith, ltb-true, eqb-true, leb-true}
use borrow.Author.Tests.{eqb-false}
use Rattle.cases.proofs.Cases.{split, both}
use Rattle.segments.specs.Segments.{segment}
use Rattle.layout.specs.declared.Shape.{Shape}
use Rattle.layout.specs.Columns.{State}
use Rattle.audits.specs.Audits.{none_from, is_live}
use Rattle.audits.proofs.LiveLaws.{live_cell}
use Rattle.levels.specs.declared.Seen.{Seen}
use Rattle.levels.specs.Levels.{Fault, Under, on_seen, is_seen, seen_entry, see_by, same_prefix, fits, closed, row_from, branch_by, see_from}

-- TWO ANSWERS. A fault is not a node, and a node is determined by its leftmost entry and its size.
pub no_Fault : {A : Type 0} {l s : ℕ} → Fault ≡ Under l s → A
unfolding on_seen
no_Fault {A} {l} {s} e =
    let f : false ≡ true = ap is_seen e in
    let n : ◌≡◌ {A = ℕ} 0 1 = cc in absurd (omega arith)

pub same_lead : {l s m q : ℕ} → Under l s ≡ Under m q → l ≡ m
unfolding on_seen
same_lead e = ap (λ (x : Option Seen). on_seen x 0 (λ l s. l)) e

pub same_size : {l s m q : ℕ} → Under l s ≡ Under m q → s ≡ q
unfolding on_seen
same_size e = ap (λ (x : Option Seen). on_seen x 0 (λ l s. s)) e

-- a test that has to pass, one that has to fail, a node that has to be seen
if_true : {l s : ℕ} (b : Bool) (x : Option Seen) → cond b x Fault ≡ Under l s → (b ≡ true) × (x ≡ Under l s)
if_true b x e = split b (λ t. (t, rw t at e)) (λ f. no_Fault (rw f at e))

if_false : {l s : ℕ} (b : Bool) (x : Option Seen) → cond b Fault x ≡ Under l s → (b ≡ false) × (x ≡ Under l s)
if_false b x e = split b (λ t. no_Fault (rw t at e)) (λ f. (f, rw f at e))

if_seen : {l s : ℕ} (x : Option Seen) (f : ℕ → ℕ → Option Seen) → on_seen x Fault f ≡ Under l s
    → (m : ℕ) × (q : ℕ) × (x ≡ Under m q) × (f m q ≡ Under l s)
unfolding on_seen
if_seen None f e = no_Fault e
if_seen (Some v) f e = (v.lead, v.size, refl, e)

-- A NODE: an entry, or a branch at its depth
pub see_says : (z : Shape) (σ : State) (below : ℕ → Option Seen) (t r l s : ℕ) → see_by z σ below t r ≡ Under l s
    → ((is_live z σ 1 r ≡ true) × (seen_entry z σ t r ≡ Under l s))
    ⊎ ((is_live z σ 0 r ≡ true) × (σ.mark r ≡ t) × (below r ≡ Under l s))
unfolding see_by
see_says z σ below t r l s e =
    split (is_live z σ 1 r)
    (λ y. inl (y, rw y at e))
    (λ f.
    let w = if_true (is_live z σ 0 r) _ (rw f at e) in
    let v = if_true (eqb (σ.mark r) t) _ w.1 in
    inr (w.0, eqb-true _ _ v.0, v.1))

-- an entry is its own leftmost one: a single, or a chain where a hash is exhausted
pub entry_says : (z : Shape) (σ : State) (t r l s : ℕ) → seen_entry z σ t r ≡ Under l s
    → (r ≡ l) × (σ.mark r ≡ s) × ((s ≡ 1) ⊎ (t ≡ z.depths))
unfolding seen_entry
entry_says z σ t r l s e =
    split (eqb (σ.mark r) 1)
    (λ y.
    let w : Under r 1 ≡ Under l s = rw y at e in
    (same_lead w, eqb-true _ _ y ∙ same_size w, inl (sym (same_size w))))
    (λ f.
    let w = if_true (eqb t z.depths) _ (rw f at e) in
    (same_lead w.1, same_size w.1, inr (eqb-true _ _ w.0)))

-- A ROW. Its end: the bitmap, the size of a branch below the root
pub closed_says : (σ : State) (t r l bits size m s : ℕ) → closed σ t r l bits size ≡ Under m s
    → (σ.plain r 0 ≡ bits) × ((t ≡ 0) ⊎ (1 < size)) × (l ≡ m) × (size ≡ s)
unfolding closed
closed_says σ t r l bits size m s e =
    let w = if_true (eqb (σ.plain r 0) bits) _ e in
    split (eqb t 0)
    (λ y.
    let v : Under l size ≡ Under m s = (rw y at w).1 in
    (eqb-true _ _ w.0, inl (eqb-true _ _ y), same_lead v, same_size v))
    (λ f.
    let v = if_true (ltb 1 size) _ (rw f at w).1 in
    (eqb-true _ _ w.0, inr (ltb-true _ _ v.0), same_lead v.1, same_size v.1))

-- a child: its segment is not below low, its hash has the segments of the path, its entries are no more than are left
pub fits_says : (z : Shape) (t g low size h s : ℕ) → fits z t g low size h s ≡ true
    → (low ≤ segment z.bits t h) × (same_prefix z t g h ≡ true) × (s ≤ z.entries - size)
unfolding fits
fits_says z t g low size h s e =
    let w = both _ _ e in
    let v = both _ _ w.1 in
    (leb-true _ _ w.0, v.0, leb-true _ _ v.1)

-- the segment at depth t of the entry m
abbrev pub segment_at : Shape → State → ℕ → ℕ → ℕ
segment_at z σ t m = segment z.bits t (σ.plain m 0)

-- the child at place k that is seen, and behind it a row that passes
pub record Child (look : ℕ → Option Seen) (z : Shape) (σ : State) (t r l n k low bits size m s : ℕ) : Type 0 where
  pub some : σ.kid r k ≡ 0 → ⊥
  pub lead : ℕ
  pub many : ℕ
  pub seen : look (σ.kid r k) ≡ Under lead many
  pub low_le : low ≤ segment_at z σ t lead
  pub prefix : same_prefix z t (σ.plain l 0) (σ.plain lead 0) ≡ true
  pub few : many ≤ z.entries - size
  pub next :
      row_from look z σ t r l n (suc k) (suc (segment_at z σ t lead)) (bits + 2 ^ segment_at z σ t lead) (size + many) ≡ Under m s

module _ (look : ℕ → Option Seen) (z : Shape) (σ : State) (t r l : ℕ) where
  -- a step: the row ends here, or there is a child
  pub row_says : (n k low bits size m s : ℕ) → row_from look z σ t r l (suc n) k low bits size ≡ Under m s
      → ((none_from (σ.kid r) k (suc n) ≡ true) × (closed σ t r l bits size ≡ Under m s))
      ⊎ Child look z σ t r l n k low bits size m s
  unfolding row_from
  row_says n k low bits size m s e =
      split (eqb (σ.kid r k) 0)
      (λ y. inl (if_true (none_from (σ.kid r) k (suc n)) _ (rw y at e)))
      (λ f.
      let w = if_seen (look (σ.kid r k)) _ (rw f at e) in
      let v
      = if_true (fits z t (σ.plain l 0) low size (σ.plain w.0 0) w.1)
      (row_from look z σ t r l n (suc k) (suc (segment_at z σ t w.0)) (bits + 2 ^ segment_at z σ t w.0) (size + w.1))
      w.3 in
      let u = fits_says z t (σ.plain l 0) low size (σ.plain w.0 0) w.1 v.0 in
      inr
      record {
        some = eqb-false _ _ f;
        lead = w.0;
        many = w.1;
        seen = w.2;
        low_le = u.0;
        prefix = u.1;
        few = u.2;
        next = v.1;
      })

  -- it keeps the leftmost entry, and has no more entries than the arena
  pub row_lead : (n k low bits size m s : ℕ) → row_from look z σ t r l n k low bits size ≡ Under m s → l ≡ m
  unfolding row_from
  row_lead zero k low bits size m s e = (closed_says σ t r l bits size m s e).2
  row_lead (suc n) k low bits size m s e =
      ⊎_elim
      (λ w. (closed_says σ t r l bits size m s w.1).2)
      (λ c.
      row_lead n (suc k) (suc (segment_at z σ t c.lead)) (bits + 2 ^ segment_at z σ t c.lead) (size + c.many) m s
      c.next)
      (row_says n k low bits size m s e)

  row_few : (n k low bits size m s : ℕ) → size ≤ z.entries → row_from look z σ t r l n k low bits size ≡ Under m s
      → s ≤ z.entries
  unfolding row_from
  row_few zero k low bits size m s le e = omega (arith, (closed_says σ t r l bits size m s e).3)
  row_few (suc n) k low bits size m s le e =
      ⊎_elim
      (λ w. omega (arith, (closed_says σ t r l bits size m s w.1).3))
      (λ c.
      row_few n (suc k) (suc (segment_at z σ t c.lead)) (bits + 2 ^ segment_at z σ t c.lead) (size + c.many) m s
      (omega (arith, c.few)) c.next)
      (row_says n k low bits size m s e)

-- A BRANCH: its first child, whose leftmost entry is its own, and its row
pub branch_says : (look : ℕ → Option Seen) (z : Shape) (σ : State) (t r l s : ℕ) → branch_by look z σ t r ≡ Under l s
    → (σ.kid r 0 ≡ 0 → ⊥) × ((q : ℕ) × (look (σ.kid r 0) ≡ Under l q))
    × (row_from look z σ t r l z.degree 0 0 0 0 ≡ Under l s)
unfolding branch_by
branch_says look z σ t r l s e =
    let w = if_false (eqb (σ.kid r 0) 0) _ e in
    let v = if_seen (look (σ.kid r 0)) _ w.1 in
    let q : v.0 ≡ l = row_lead look z σ t r v.0 z.degree 0 0 0 0 l s v.3 in (
      eqb-false _ _ w.0,
      (v.1, v.2 ∙ ap (λ (x : ℕ). Under x v.1) q),
      rw q at v.3,
    )

module _ (z : Shape) (σ : State) where
  -- the leftmost entry of a node is in use
  pub seen_lead : (n t r l s : ℕ) → see_from z σ n t r ≡ Under l s → is_live z σ 1 l ≡ true
  unfolding see_from
  seen_lead zero t r l s e =
      ⊎_elim (λ w. rw (← (entry_says z σ t r l s w.1).0) w.0) (λ w. no_Fault w.2) (see_says z σ _ t r l s e)
  seen_lead (suc n) t r l s e =
      ⊎_elim
      (λ w. rw (← (entry_says z σ t r l s w.1).0) w.0)
      (λ w. let v = branch_says _ z σ t r l s w.2 in seen_lead n (suc t) (σ.kid r 0) l v.1.0 v.1.1)
      (see_says z σ _ t r l s e)

  -- a branch has no more entries than the arena
  pub seen_few : (n t r l s : ℕ) → is_live z σ 0 r ≡ true → see_from z σ n t r ≡ Under l s → s ≤ z.entries
  unfolding see_from
  seen_few zero t r l s y e =
      ⊎_elim
      (λ w. absurd (omega (arith, (live_cell z σ 0 r y).0, (live_cell z σ 1 r w.0).0)))
      (λ w. no_Fault w.2)
      (see_says z σ _ t r l s e)
  seen_few (suc n) t r l s y e =
      ⊎_elim
      (λ w. absurd (omega (arith, (live_cell z σ 0 r y).0, (live_cell z σ 1 r w.0).0)))
      (λ w. row_few _ z σ t r l z.degree 0 0 0 0 l s (omega arith) (branch_says _ z σ t r l s w.2).2)
      (see_says z σ _ t r l s e)
