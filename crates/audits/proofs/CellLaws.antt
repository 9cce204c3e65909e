-- What the tests that pass say of a cell: a free cell holds zeros, what an entry in use names is an entry in use whose chain is
-- one shorter, and a branch in use stands above the last depth.
use Prim.Native.Nat.{ℕ, ◌<◌}
use mathlib.Core.Path.{◌≡◌, refl, sym, ◌∙◌, subst}
use mathlib.Core.Bool.{true}
use mathlib.Core.Logic.{⊎_elim}
use native.Mathlib.Omega.{arith}
use borrow.Author.Tests.{eqb-true}
use lib.Dec.{eqb}
use Rattle.cases.proofs.Cases.{both}
use Rattle.layout.specs.declared.Shape.{Shape}
use Rattle.layout.specs.Layout.{reference, kind_of, cell_of}
use Rattle.layout.specs.Columns.{State, refs}
use Rattle.layout.proofs.OffsetLaws.{cells_branch, cells_entry}
use Rattle.arena.proofs.RefLaws.{ref_cell}
use Rattle.audits.specs.Audits.{free_branch, free_entry, entry_right, branch_right, entries_right, branches_right}
use Rattle.audits.proofs.AllLaws.{all_below}
use Rattle.audits.proofs.StepLaws.{branch_free, entry_free}
use Rattle.audits.proofs.LinkLaws.{Followed, used_says}
use Rattle.audits.proofs.DepthLaws.{live_deep}

module _ (z : Shape) (σ : State) where
  -- A CELL THAT IS FREE
  free_branch_lem : (r : ℕ) → branch_right z σ r ≡ true → σ.count r ≡ 0
      → (σ.plain r 0 ≡ 0) × ((k : ℕ) → k < z.degree → σ.kid r k ≡ 0)
  unfolding free_branch
  free_branch_lem r t e =
      let f : free_branch z σ r ≡ true = sym (branch_free z σ r _ refl e) ∙ t in
      let w = both _ _ f in
      (eqb-true _ _ w.0, λ k l. eqb-true _ _ (all_below (λ i. eqb (σ.kid r i) 0) z.degree w.1 k l))

  free_entry_lem : (r : ℕ) → entry_right z σ r ≡ true → σ.count r ≡ 0
      → (σ.kid r 0 ≡ 0) × (σ.plain r 0 ≡ 0) × (σ.plain r 1 ≡ 0) × (σ.plain r 2 ≡ 0)
  unfolding free_entry
  free_entry_lem r t e =
      let f : free_entry σ r ≡ true = sym (entry_free z σ r _ refl e) ∙ t in
      let w = both _ _ f in
      let v = both _ _ w.1 in
      let u = both _ _ v.1 in
      (eqb-true _ _ w.0, eqb-true _ _ v.0, eqb-true _ _ u.0, eqb-true _ _ u.1)

-- WHERE THE TESTS OF ALL ENTRIES PASS
module _ (z : Shape) (σ : State) (entries : entries_right z σ ≡ true) where
  pub entry_tested : (r : ℕ) → 0 < refs z r → kind_of r ≡ 1 → entry_right z σ r ≡ true
  unfolding entries_right
  entry_tested r l e =
      let c = ref_cell z r l in
      let at : reference 1 (cell_of r) ≡ r = omega (arith, c.1) in
      subst (λ (x : ℕ). entry_right z σ x ≡ true) at
      (all_below (λ i. entry_right z σ (reference 1 i)) z.entries entries (cell_of r)
      (omega (arith, c.0, cells_entry z (kind_of r) (λ y. omega arith))))

  pub entry_zero : (r : ℕ) → 0 < refs z r → kind_of r ≡ 1 → σ.count r ≡ 0
      → (σ.kid r 0 ≡ 0) × (σ.plain r 0 ≡ 0) × (σ.plain r 1 ≡ 0) × (σ.plain r 2 ≡ 0)
  entry_zero r l e = free_entry_lem z σ r (entry_tested r l e)

  pub entry_link : (r : ℕ) → 0 < refs z r → kind_of r ≡ 1 → 0 < σ.count r → (σ.kid r 0 ≡ 0 → ⊥) → Followed z σ r
  entry_link r l e live nz =
      ⊎_elim (λ (y, m). absurd (nz y)) (λ f. f) (used_says z σ r live (entry_tested r l e))

-- WHERE THE TESTS OF ALL BRANCHES PASS
module _ (z : Shape) (σ : State) (branches : branches_right z σ ≡ true) where
  branch_tested : (r : ℕ) → 0 < refs z r → kind_of r ≡ 0 → branch_right z σ r ≡ true
  unfolding branches_right
  branch_tested r l e =
      let c = ref_cell z r l in
      let at : reference 0 (cell_of r) ≡ r = omega (arith, c.1) in
      subst (λ (x : ℕ). branch_right z σ x ≡ true) at
      (all_below (λ i. branch_right z σ (reference 0 i)) z.branches branches (cell_of r)
      (omega (arith, c.0, cells_branch z (kind_of r) e)))

  pub branch_zero : (r : ℕ) → 0 < refs z r → kind_of r ≡ 0 → σ.count r ≡ 0
      → (σ.plain r 0 ≡ 0) × ((k : ℕ) → k < z.degree → σ.kid r k ≡ 0)
  branch_zero r l e = free_branch_lem z σ r (branch_tested r l e)

  pub branch_deep : (r : ℕ) → 0 < refs z r → kind_of r ≡ 0 → 0 < σ.count r → σ.mark r < z.depths
  branch_deep r l e = live_deep z σ r (branch_tested r l e)
