-- What the tests of levels and slots say where they pass: a branch in use is seen at its own depth, and a slot is free, or it is
-- held and its root is none or is seen.
use Rattle.std.proofs.Common.{◌≡◌, ℕ, zero, suc, ◌<◌, true, ◌⊎◌, Some, None, Option, refl, subst, ⊎_elim, arith, eq-eqb, ne_eqb}
use Rattle.std.proofs.lemmas.Bool.{false≢true}
use Rattle.cases.proofs.Cases.{both, eq?}
use Rattle.layout.specs.declared.Shape.{Shape}
use Rattle.layout.specs.Layout.{reference, kind_of, cell_of}
use Rattle.layout.specs.Columns.{State, refs}
use Rattle.layout.proofs.OffsetLaws.{cells_branch}
use Rattle.arena.specs.Sound.{FreeSlot}
use Rattle.arena.proofs.RefLaws.{ref_cell}
use Rattle.audits.specs.Audits.{branches_right}
use Rattle.audits.proofs.AllLaws.{all_below}
use Rattle.audits.proofs.CellLaws.{branch_deep}
use Rattle.levels.specs.declared.Seen.{Seen}
use Rattle.levels.specs.Levels.{Under, on_seen, is_seen, see_at, is_at, branch_seen, level_seen, levels_seen, slot_right, slots_right}
use Rattle.levels.proofs.OneSlot.{slot_says}
pub use Rattle.levels.proofs.OneSlot.{RootIs, RootSeen}

seen_some : (s : Option Seen) → is_seen s ≡ true → (l : ℕ) × (n : ℕ) × (s ≡ Under l n)
unfolding on_seen
seen_some None e = absurd (false≢true e)
seen_some (Some v) e = (v.lead, v.size, refl)

module _ (z : Shape) (σ : State) where
  -- LEVELS
  level_below : (d t : ℕ) → levels_seen z σ d ≡ true → t < d → level_seen z σ t ≡ true
  unfolding levels_seen
  level_below zero t e l = absurd (omega arith)
  level_below (suc d) t e l =
      let w = both _ _ e in ⊎_elim (λ q. rw q w.0) (λ ne. level_below d t w.1 (omega arith)) (eq? t d)

  is_seen_lem : (r : ℕ) → branch_seen z σ (σ.mark r) r ≡ true → 0 < σ.count r
      → (l : ℕ) × (n : ℕ) × (see_at z σ (σ.mark r) r ≡ Under l n)
  unfolding branch_seen is_at
  is_seen_lem r t l =
      seen_some _ (rw (ne_eqb (σ.count r) 0 (λ e. omega arith), eq-eqb (σ.mark r) (σ.mark r) refl) at t)

  pub branch_seen_lem : branches_right z σ ≡ true → levels_seen z σ z.depths ≡ true
      → (r : ℕ) → 0 < refs z r → kind_of r ≡ 0 → 0 < σ.count r
      → (l : ℕ) × (n : ℕ) × (see_at z σ (σ.mark r) r ≡ Under l n)
  unfolding level_seen
  branch_seen_lem branches levels r l e live =
      let c = ref_cell z r l in
      let at : reference 0 (cell_of r) ≡ r = omega (arith, c.1) in
      let t = σ.mark r in
      let seen : branch_seen z σ t (reference 0 (cell_of r)) ≡ true
      = all_below (λ i. branch_seen z σ t (reference 0 i)) z.branches
      (level_below z.depths t levels (branch_deep z σ branches r l e live))
      (cell_of r) (omega (arith, c.0, cells_branch z (kind_of r) e)) in
      is_seen_lem r (subst (λ (x : ℕ). branch_seen z σ t x ≡ true) at seen) live

  -- SLOTS
  pub slot_tested : slots_right z σ ≡ true → (s : ℕ) → s < z.slots → FreeSlot σ s ⊎ RootSeen z σ s
  unfolding slots_right
  slot_tested slots s l = slot_says z σ s (all_below (slot_right z σ) z.slots slots s l)
