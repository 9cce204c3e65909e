-- The test of the counts says that the work word of each cell is its count, and nothing else.
use Prim.Native.Nat.{ℕ, suc, ◌+◌, ◌-◌, ◌≤◌, ◌<◌}
use mathlib.Core.Path.{◌≡◌, sym, ap, ◌∙◌}
use mathlib.Core.Bool.{Bool, true, false}
use mathlib.Core.List.{List}
use mathlib.Core.Logic.{⊎_elim}
use native.Mathlib.Omega.{arith}
use borrow.Author.Tests.{eqb-true, eq-eqb, ne_eqb}
use lib.Dec.{eqb}
use lib.ListN.{get_or}
use Rattle.cases.proofs.Cases.{eq?, both}
use Rattle.layout.specs.declared.Shape.{Shape}
use Rattle.layout.specs.Layout.{reference, kind_of, cell_of, cells_of, names}
use Rattle.layout.proofs.OffsetLaws.{names_says}
use Rattle.layout.specs.Columns.{State}
use Rattle.arena.proofs.RefLaws.{names_of}
use Rattle.audits.specs.Audits.{all_from}
use Rattle.audits.proofs.AllLaws.{all_below, below_all, all_on, all_stops, all_over}
use Rattle.tallies.specs.Tallies.{work_place, counts_of, counts_right}

module _ (z : Shape) (σ : State) (w : List ℕ) where
  -- the cells of a kind
  kind_says : (k : ℕ) → counts_of z σ w k ≡ true → (r : ℕ) → names z r ≡ true → kind_of r ≡ k → get_or w (work_place z r) 0 ≡ σ.count r
  unfolding counts_of
  kind_says k e r n s =
      let c = names_says z r n in
      let a = c.low in
      let q : r ≡ reference k (cell_of r) = omega arith in
      let l : cell_of r < cells_of z k = omega (arith, c.number, ap (cells_of z) s) in
      let p : ℕ → Bool = λ i. eqb (get_or w (work_place z (reference k i)) 0) (σ.count (reference k i)) in
      let t = eqb-true _ _ (all_below p (cells_of z k) e (cell_of r) l) in
      ap (λ (x : ℕ). get_or w (work_place z x) 0) q ∙ t ∙ sym (ap σ.count q)

  kind_is : (k : ℕ) → k < 2 → ((r : ℕ) → names z r ≡ true → get_or w (work_place z r) 0 ≡ σ.count r) → counts_of z σ w k ≡ true
  unfolding counts_of
  kind_is k l h =
      below_all (λ i. eqb (get_or w (work_place z (reference k i)) 0) (σ.count (reference k i))) (cells_of z k)
      (λ j m. eq-eqb _ _ (h (reference k j) (names_of z k j l m)))

  -- all cells
  pub counts_say : counts_right z σ w ≡ true → (r : ℕ) → names z r ≡ true → get_or w (work_place z r) 0 ≡ σ.count r
  unfolding counts_right
  counts_say e r n =
      let t = both (counts_of z σ w 0) (counts_of z σ w 1) e in
      ⊎_elim (λ s. kind_says 0 t.0 r n s) (λ ne. kind_says 1 t.1 r n (omega arith)) (eq? (kind_of r) 0)

  pub counts_are : ((r : ℕ) → names z r ≡ true → get_or w (work_place z r) 0 ≡ σ.count r) → counts_right z σ w ≡ true
  unfolding counts_right
  counts_are h = rw (kind_is 0 (omega arith) h) (kind_is 1 (omega arith) h)

-- the loop over the cells of a kind, with i where the work word stands and v the count that was read
abbrev pub count_is : Shape → State → List ℕ → ℕ → ℕ → Bool
count_is z σ w k i = eqb (get_or w (work_place z (reference k i)) 0) (σ.count (reference k i))

module _ (z : Shape) (σ : State) (w : List ℕ) (k n : ℕ) where
  pub counts_start : n ≡ cells_of z k → counts_of z σ w k ≡ all_from (count_is z σ w k) 0 (n - 0)
  unfolding counts_of
  counts_start e = let s : cells_of z k ≡ n - 0 = omega arith in ap (all_from (count_is z σ w k) 0) s

  module _ (i j v : ℕ) (l : i < n) (e : j ≡ work_place z (reference k i)) (t : v ≡ σ.count (reference k i)) where
    pub counts_on : get_or w j 0 ≡ v → all_from (count_is z σ w k) i (n - i) ≡ all_from (count_is z σ w k) (i + 1) (n - (i + 1))
    counts_on s =
        all_on (count_is z σ w k) i n l (eq-eqb _ _ (sym (ap (λ (x : ℕ). get_or w x 0) e) ∙ s ∙ t))
        ∙ ap (λ (x : ℕ). all_from (count_is z σ w k) x (n - x)) {x = suc i} {y = i + 1} (omega arith)

    pub counts_stop : (get_or w j 0 ≡ v → ⊥) → all_from (count_is z σ w k) i (n - i) ≡ false
    counts_stop ne =
        all_stops (count_is z σ w k) i n l (ne_eqb _ _ (λ s. ne (ap (λ (x : ℕ). get_or w x 0) e ∙ s ∙ sym t)))

  pub counts_over : (i : ℕ) → n ≤ i → all_from (count_is z σ w k) i (n - i) ≡ true
  counts_over i l = all_over (count_is z σ w k) i n l

-- both kinds
module _ (z : Shape) (σ : State) (w : List ℕ) where
  pub branches_wrong : counts_of z σ w 0 ≡ false → counts_right z σ w ≡ false
  unfolding counts_right
  branches_wrong e = rw e

  pub branches_right : counts_of z σ w 0 ≡ true → counts_right z σ w ≡ counts_of z σ w 1
  unfolding counts_right
  branches_right e = rw e
