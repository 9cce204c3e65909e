-- A free chain is right exactly if it goes through the free cells of its kind, each once, and all others are counted as in use.
-- A walk from a reference ends after one number of steps and no other, so it meets no cell twice; and it meets as many cells as
-- are free, so it meets them all.
use Prim.Native.Nat.{ℕ, zero, suc, ◌+◌, ◌-◌, ◌≤◌, ◌<◌}
use mathlib.Core.Path.{◌≡◌, refl, sym, ap, ◌∙◌, subst}
use mathlib.Core.Bool.{true}
use mathlib.Core.Logic.{⊎_elim}
use mathlib.Core.List.{[], List, ◌∷◌}
use native.Mathlib.Omega.{arith}
use lib.Dec.{eqb}
use lib.ListN.{length}
use borrow.Author.Tests.{eq-eqb, eqb-true}
use Rattle.cases.proofs.Cases.{eq?, both}
use Rattle.counts.specs.Counts.{ind, sum_to, among}
use Rattle.counts.proofs.CountLaws.{ind_same, ind_other, ind_le, ind_pos, sum_ext, sum_zero, sum_add, sum_ind}
use Rattle.layout.specs.declared.Shape.{Shape}
use Rattle.layout.specs.Layout.{reference, kind_of, cell_of, cells_of}
use Rattle.layout.specs.Columns.{State, refs}
use Rattle.arena.specs.Sound.{Chain}
use Rattle.arena.specs.Local.{Local}
use Rattle.arena.proofs.RefLaws.{refs_none, refs_of, ref_cell, num_cells}
use Rattle.audits.specs.Audits.{idle, walk, chain_right}
use Rattle.audits.proofs.Shown.{FreeChain}
use Rattle.audits.proofs.StepLaws.{few_free}
use Rattle.audits.proofs.WalkLaws.{Step, Step-says, step_is, end_says, end_is}

-- SUMS. Where one column is nowhere above another, its sum is not either, and equal sums have equal words.
sum_below : (n : ℕ) (f g : ℕ → ℕ) → ((j : ℕ) → j < n → f j ≤ g j) → sum_to n f ≤ sum_to n g
unfolding sum_to
sum_below zero f g h = omega arith
sum_below (suc n) f g h = omega (arith, sum_below n f g (λ j l. h j (omega arith)), h n (omega arith))

sum_same : (n : ℕ) (f g : ℕ → ℕ) → ((j : ℕ) → j < n → f j ≤ g j) → sum_to n f ≡ sum_to n g → (j : ℕ) → j < n → f j ≡ g j
unfolding sum_to
sum_same zero f g h e j l = absurd (omega arith)
sum_same (suc n) f g h e j l =
    let b : sum_to n f ≤ sum_to n g = sum_below n f g (λ i m. h i (omega arith)) in
    let t : f n ≤ g n = h n (omega arith) in
    ⊎_elim
    (λ q. omega (arith, ap f q, ap g q))
    (λ ne. sum_same n f g (λ i m. h i (omega arith)) (omega arith) j (omega arith))
    (eq? j n)

module _ (z : Shape) (σ : State) (some : 0 < z.degree) where
  -- LISTS of cells of one kind are as long as its cells stand in them
  abbrev AllOf : ℕ → List ℕ → Type 0
  AllOf k l = (r : ℕ) → 0 < among l r → (0 < refs z r) × (kind_of r ≡ k)

  cell_once : (k r : ℕ) → 0 < refs z r → kind_of r ≡ k → sum_to (cells_of z k) (λ i. ind (reference k i) r) ≡ 1
  cell_once k r l e =
      let w = ref_cell z r l in
      let c = cell_of r in
      let q : r ≡ reference k c = omega (arith, w.1) in
      sum_ext (cells_of z k) (λ i. ind (reference k i) r) (λ i. ind i c)
      (λ i m.
      ⊎_elim
      (λ y. ind_same (reference k i) r (omega arith) ∙ sym (ind_same i c y))
      (λ ne. ind_other (reference k i) r (λ y. ne (omega arith)) ∙ sym (ind_other i c ne))
      (eq? c i))
      ∙ sum_ind (cells_of z k) c (omega (arith, w.0, ap (cells_of z) e))

  length_cells : (k : ℕ) (l : List ℕ) → AllOf k l → sum_to (cells_of z k) (λ i. among l (reference k i)) ≡ length l
  unfolding among
  length_cells k [] h = sum_zero (cells_of z k) (λ i. 0) (λ i m. refl)
  length_cells k (x ∷ l) h =
      let w = h x (omega (arith, ind_same x x refl)) in
      omega (
        arith,
        sum_add (cells_of z k) (λ i. ind (reference k i) x) (λ i. among l (reference k i)),
        cell_once k x w.0 w.1,
        length_cells k l (λ r m. h r (omega arith)),
      )

  no_step : (k n r : ℕ) → walk z σ k 0 r ≡ true → walk z σ k (suc n) r ≡ true → ⊥
  no_step k n r e h = omega (arith, (Step-says z σ some k n r h).cell, ap (refs z) (end_says z σ k r e), refs_none z)

  -- a walk has one number of steps
  one_length : (k n m r : ℕ) → walk z σ k n r ≡ true → walk z σ k m r ≡ true → n ≡ m
  one_length k zero zero r e h = refl
  one_length k zero (suc m) r e h = absurd (no_step k m r e h)
  one_length k (suc n) zero r e h = absurd (no_step k n r h e)
  one_length k (suc n) (suc m) r e h = ap suc (one_length k n m (σ.mark r) (Step-says z σ some k n r e).rest (Step-says z σ some k m r h).rest)

  -- WHAT A WALK MEETS: a chain of as many free cells, none of them twice
  unfoldable met : ℕ → ℕ → List ℕ
  met zero r = []
  met (suc n) r = r ∷ met n (σ.mark r)

  met-length : (n r : ℕ) → length (met n r) ≡ n
  unfolding met
  met-length zero r = refl
  met-length (suc n) r = ap suc (met-length n (σ.mark r))

  met-Chain : (k n r : ℕ) → walk z σ k n r ≡ true → Chain σ.mark r (met n r)
  unfolding met
  met-Chain k zero r e = end_says z σ k r e
  met-Chain k (suc n) r e = (refl, met-Chain k n (σ.mark r) (Step-says z σ some k n r e).rest)

  -- from each of them on the rest of the walk
  met_from : (k n r c : ℕ) → walk z σ k n r ≡ true → 0 < among (met n r) c → (m : ℕ) × (m < n) × Step z σ k m c
  unfolding met among
  met_from k zero r c e l = absurd (omega arith)
  met_from k (suc n) r c e l =
      let s = Step-says z σ some k n r e in
      ⊎_elim
      (λ y. (n, omega arith, subst (Step z σ k n) y s))
      (λ ne. let w = met_from k n (σ.mark r) c s.rest (omega (arith, ind_other c r ne)) in (w.0, omega arith, w.2))
      (eq? r c)

  met_once : (k n r c : ℕ) → walk z σ k n r ≡ true → among (met n r) c ≤ 1
  unfolding met among
  met_once k zero r c e = omega arith
  met_once k (suc n) r c e =
      let s = Step-says z σ some k n r e in
      let o = met_once k n (σ.mark r) c s.rest in
      ⊎_elim
      (λ y.
      ⊎_elim
      (λ q. omega (arith, ind_le c r))
      (λ nq.
      let w = met_from k n (σ.mark r) c s.rest (omega arith) in
      let d : walk z σ k (suc n) c ≡ true = ap (walk z σ k (suc n)) (sym y) ∙ e in
      absurd (omega (arith, w.1, one_length k (suc n) (suc w.0) c d (step_is z σ k w.0 c w.2))))
      (eq? (among (met n (σ.mark r)) c) 0))
      (λ ne. omega (arith, ind_other c r ne))
      (eq? r c)

  met_all : (k n r : ℕ) → walk z σ k n r ≡ true → AllOf k (met n r)
  met_all k n r e c l = let s = (met_from k n r c e l).2 in (s.cell, s.kind)

  met_free : (k n r c : ℕ) → walk z σ k n r ≡ true → among (met n r) c ≤ ind 0 (σ.count c)
  met_free k n r c e =
      ⊎_elim
      (λ q. omega arith)
      (λ nq.
      let s = (met_from k n r c e (omega arith)).2 in
      omega (arith, met_once k n r c e, ind_same 0 (σ.count c) s.unused))
      (eq? (among (met n r) c) 0)

  -- THE TEST OF A FREE CHAIN
  pub chain_free : (k : ℕ) → k < 2 → chain_right z σ k ≡ true → FreeChain z σ k
  unfolding chain_right
  chain_free k u e =
      let n = idle z σ k in
      let w = both (eqb (σ.used k) (cells_of z k - n)) _ e in
      let l = met n (σ.first k) in
      let long : length l ≡ n = met-length n (σ.first k) in
      record {
        free = l;
        chain = met-Chain k n (σ.first k) w.1;
        once =
            λ r c q.
            let p = ref_cell z r c in
            let i = cell_of r in
            let y : reference k i ≡ r = omega (arith, p.1) in
            subst (λ (x : ℕ). among l x ≡ ind 0 (σ.count x)) y
            (sum_same (cells_of z k) (λ j. among l (reference k j)) (λ j. ind 0 (σ.count (reference k j)))
            (λ j m. met_free k n (σ.first k) (reference k j) w.1)
            (length_cells k l (met_all k n (σ.first k) w.1) ∙ long)
            i (omega (arith, p.0, ap (cells_of z) q)));
        within = met_all k n (σ.first k) w.1;
        used_ok = omega (arith, eqb-true (σ.used k) (cells_of z k - n) w.0, long, few_free σ k (cells_of z k), num_cells z some k u);
      }

  -- the walk along a chain of free cells passes
  Chain-walk : (k : ℕ) (l : List ℕ) (r : ℕ) → Chain σ.mark r l → AllOf k l
      → ((c : ℕ) → 0 < among l c → σ.count c ≡ 0) → walk z σ k (length l) r ≡ true
  unfolding among
  Chain-walk k [] r e h g = end_is z σ k r e
  Chain-walk k (c ∷ l) r e h g =
      let one : 0 < ind c c + among l c = omega (arith, ind_same c c refl) in
      let w = h c one in
      rw e.0
      (step_is z σ k (length l) c
      (record {
        cell = w.0;
        kind = w.1;
        unused = g c one;
        rest = Chain-walk k l (σ.mark c) e.1 (λ x m. h x (omega arith)) (λ x m. g x (omega arith));
      }))

  pub free_chain : (free : ℕ → List ℕ) → Local z σ (λ r. 0) free → (k : ℕ) → k < 2 → chain_right z σ k ≡ true
  unfolding chain_right
  free_chain free I k u =
      let l = free k in
      let at : (r : ℕ) → 0 < refs z r → kind_of r ≡ k → among l r ≡ ind 0 (σ.count r)
      = λ r c q. ap (λ (x : ℕ). among (free x) r) (sym q) ∙ I.free_once r c in
      let long : length l ≡ idle z σ k
      = sym (length_cells k l (I.within k))
      ∙ sum_ext (cells_of z k) (λ i. among l (reference k i)) (λ i. ind 0 (σ.count (reference k i)))
      (λ i m. at (reference k i) (refs_of z k i u m some) (omega arith)) in
      let t : σ.used k ≡ cells_of z k - idle z σ k = omega (arith, I.used_ok k, num_cells z some k u) in
      let p : walk z σ k (length l) (σ.first k) ≡ true
      = Chain-walk k l (σ.first k) (I.chain k) (I.within k)
      (λ c m. let w = I.within k c m in ind_pos 0 (σ.count c) (omega (arith, at c w.0 w.1))) in
      rw (eq-eqb (σ.used k) (cells_of z k - idle z σ k) t)
      (subst (λ (n : ℕ). walk z σ k n (σ.first k) ≡ true) long p)
