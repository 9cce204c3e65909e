-- What is sound in the local form is sound: what is reached is what has a count. Free slots and cells that are not reached hold
-- no reference, so that counting over the whole arena counts the same words; and every cell is either reached or on its free chain.
use Rattle.std.proofs.lemmas.Bool.{both_ways}
use Rattle.std.proofs.Common.{◌≡◌, ℕ, ◌+◌, ◌<◌, Bool, true, false, cond, ◌&&◌, eqb, ltb, List, length, sym, ap, ◌∙◌, ⊎_elim, arith, ltb-false, ltb-true, le-ltb, lt-ltb, eq-eqb, ne_eqb}
use Rattle.cases.proofs.Cases.{split, eq?}
use Rattle.counts.specs.Counts.{ind, sum_to, times, among}
use Rattle.counts.proofs.CountLaws.{ind_same, ind_other, sum_ext, sum_zero, sum_add, length-among}
use Rattle.layout.specs.declared.Shape.{Shape}
use Rattle.layout.specs.Layout.{kind_of, names}
use Rattle.layout.specs.Columns.{State, refs}
use Rattle.arena.specs.Sound.{top, naming, reached_of, Cells}
use Rattle.arena.specs.Local.{cell, num, occ, Local}
use Rattle.layout.proofs.OffsetLaws.{names_says}
use Rattle.arena.proofs.RefLaws.{refs_inside, refs_out, names-refs}
use Rattle.arena.proofs.LocalLaws.{live_cell}
use Rattle.arena.proofs.Reach.{live_Reached, Reached-live}

-- words that name r, in held slots and reached cells and in all
module _ (z : Shape) (σ : State) (reached : ℕ → Bool) where
  pub naming-occ : ((s : ℕ) → s < z.slots → (σ.held s ≡ 1 → ⊥) → σ.root s ≡ 0)
      → ((q k : ℕ) → reached q ≡ false → σ.kid q k ≡ 0) → (r : ℕ) → (r ≡ 0 → ⊥) → naming z σ reached r ≡ occ z σ r
  unfolding naming
  naming-occ no_root no_kid r nz =
      let slots : sum_to z.slots (λ s. cond (eqb (σ.held s) 1) (ind r (σ.root s)) 0) ≡ times z.slots σ.root r
      = sum_ext z.slots (λ s. cond (eqb (σ.held s) 1) (ind r (σ.root s)) 0) (λ s. ind r (σ.root s))
      (λ s l.
      ⊎_elim
      (λ e. rw (eq-eqb (σ.held s) 1 e))
      (λ ne. rw (ne_eqb (σ.held s) 1 ne) (sym (ind_other r (σ.root s) (λ e. nz (sym e ∙ no_root s l ne)))))
      (eq? (σ.held s) 1)) in
      let cells : sum_to (top z) (λ q. cond (reached q) (times (refs z q) (σ.kid q) r) 0) ≡ sum_to (top z) (λ q. times (refs z q) (σ.kid q) r)
      = sum_ext (top z) (λ q. cond (reached q) (times (refs z q) (σ.kid q) r) 0) (λ q. times (refs z q) (σ.kid q) r)
      (λ q l.
      split (reached q)
      (λ e. rw e)
      (λ e. rw e (sym (sum_zero (refs z q) (λ k. ind r (σ.kid q k)) (λ k m. ind_other r (σ.kid q k) (λ w. nz (sym w ∙ no_kid q k e))))))) in
      omega arith

-- every cell is reached or free
module _ (z : Shape) (some : 0 < z.degree) (reached : ℕ → Bool) (free : ℕ → List ℕ)
    (cell_reached : (r : ℕ) → reached r ≡ true → names z r ≡ true)
    (on_chain : (k r : ℕ) → 0 < among (free k) r → (names z r ≡ true) × (kind_of r ≡ k))
    (once : (r : ℕ) → names z r ≡ true → among (free (kind_of r)) r ≡ cond (reached r) 0 1) where
  off_chain : (p r : ℕ) → (names z r ≡ true → kind_of r ≡ p → ⊥) → among (free p) r ≡ 0
  off_chain p r h =
      ⊎_elim (λ e. e) (λ ne. let w = on_chain p r (omega arith) in absurd (h w.0 w.1)) (eq? (among (free p) r) 0)

  reached_or_free : (p r : ℕ) → cond (eqb (kind_of r) p && reached r) 1 0 + among (free p) r ≡ cell z p r
  unfolding cell
  reached_or_free p r =
      ⊎_elim
      (λ e.
      split (names z r)
      (λ n.
      let c : among (free p) r ≡ cond (reached r) 0 1 = ap (λ (k : ℕ). among (free k) r) (sym e) ∙ once r n in
      rw (eq-eqb (kind_of r) p e, ne_eqb (refs z r) 0 (λ w. omega (arith, (names-refs z some r).0 n)), c)
      (split (reached r) (λ t. rw t) (λ f. rw f)))
      (λ n.
      let f : reached r ≡ false = split (reached r) (λ t. absurd (both_ways (names z r) n (cell_reached r t))) (λ f. f) in
      let c : among (free p) r ≡ 0 = off_chain p r (λ t k. both_ways (names z r) n t) in
      rw (eq-eqb (kind_of r) p e, f, eq-eqb (refs z r) 0 (refs_out z r n)) (omega arith)))
      (λ ne. rw (ne_eqb (kind_of r) p ne) (omega (arith, off_chain p r (λ n. ne))))
      (eq? (kind_of r) p)

  pub cells_in_all : (p : ℕ) → reached_of z reached p + length (free p) ≡ num z p
  unfolding reached_of
  cells_in_all p =
      let f : ℕ → ℕ = λ r. cond (eqb (kind_of r) p && reached r) 1 0 in
      let g : ℕ → ℕ = λ r. among (free p) r in
      let inside : (r : ℕ) → 0 < among (free p) r → r < top z
      = λ r l. refs_inside z r ((names-refs z some r).0 (on_chain p r l).0) in
      omega (
        arith,
        sum_add (top z) f g,
        length-among (top z) (free p) inside,
        sum_ext (top z) (λ r. f r + g r) (λ r. cell z p r) (λ r l. reached_or_free p r),
      )

idle_once : (c : ℕ) → ind 0 c ≡ cond (ltb 0 c) 0 1
idle_once c =
    ⊎_elim (λ e. rw (le-ltb 0 c (omega arith)) (ind_same 0 c e)) (λ ne. rw (lt-ltb 0 c (omega arith)) (ind_other 0 c ne)) (eq? c 0)

-- THE CELLS OF THE LOCAL FORM
pub Local-Cells : (z : Shape) (σ : State) → 0 < z.degree → (free : ℕ → List ℕ) → Local z σ (λ r. 0) free → Cells z σ
Local-Cells z σ some free I =
    let reached : ℕ → Bool = λ r. ltb 0 (σ.count r) in
    let idle : (r : ℕ) → reached r ≡ false → σ.count r ≡ 0 = λ r f. omega (arith, ltb-false 0 (σ.count r) f) in
    let on_chain : (k r : ℕ) → 0 < among (free k) r → (names z r ≡ true) × (kind_of r ≡ k)
    = λ k r l. let w = I.within k r l in ((names-refs z some r).1 w.0, w.1) in
    let once : (r : ℕ) → names z r ≡ true → among (free (kind_of r)) r ≡ cond (reached r) 0 1
    = λ r n. I.free_once r ((names-refs z some r).0 n) ∙ idle_once (σ.count r) in
    let cell_reached : (r : ℕ) → reached r ≡ true → names z r ≡ true
    = λ r t. (names-refs z some r).1 (live_cell I r (ltb-true 0 (σ.count r) t)) in
    record {
      reached = reached;
      reached_is =
          λ r. (
            λ t. live_Reached z σ free I r (ltb-true 0 (σ.count r) t),
            λ w. lt-ltb 0 (σ.count r) (Reached-live z σ free I r w),
          );
      counts =
          λ r n.
          let nz : r ≡ 0 → ⊥ = λ e. omega (arith, names_says z r n) in
          omega (arith, I.exact r nz, naming-occ z σ reached I.no_root (λ q k f. I.rest q k (idle q f)) r nz);
      not_reached = λ r n. (idle r, λ e. le-ltb 0 (σ.count r) (omega arith));
      free = free;
      chained = I.chain;
      on_chain = on_chain;
      once = once;
      rest_kids = λ r k n f. I.rest r k (idle r f);
      rest_plain = λ r k n f. I.blank r k (idle r f);
      in_use = λ p. omega (arith, I.used_ok p, cells_in_all z some reached free cell_reached on_chain once p);
    }
