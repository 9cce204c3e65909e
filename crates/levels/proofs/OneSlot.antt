-- What the test of one slot says where it passes: the slot is free, or it is held and its root is none or is seen with the size
-- that the slot says.
use Rattle.std.proofs.Common.{◌≡◌, ℕ, true, false, cond, eqb, ◌⊎◌, inl, inr, ⊎_elim, eq-eqb, ne_eqb, eqb-true}
use Rattle.cases.proofs.Cases.{both, eq?}
use Rattle.layout.specs.declared.Shape.{Shape}
use Rattle.layout.specs.Columns.{State}
use Rattle.arena.specs.Sound.{FreeSlot}
use Rattle.levels.specs.Levels.{Under, see_at, root_right, slot_right}
use Rattle.levels.proofs.RootSize.{size_some}

module _ (z : Shape) (σ : State) where
  abbrev pub RootIs : ℕ → ℕ → Type 0
  RootIs r n = ((r ≡ 0) × (n ≡ 0)) ⊎ ((r ≡ 0 → ⊥) × ((l : ℕ) × (see_at z σ 0 r ≡ Under l n)))

  abbrev pub RootSeen : ℕ → Type 0
  RootSeen s = (σ.held s ≡ 1) × RootIs (σ.root s) (σ.size s)

  root_says : (r n : ℕ) → root_right z σ r n ≡ true → RootIs r n
  unfolding root_right
  root_says r n t =
      ⊎_elim
      (λ e. inl (e, eqb-true _ _ (rw (eq-eqb r 0 e) at t)))
      (λ ne. inr (ne, size_some _ n (rw (ne_eqb r 0 ne) at t)))
      (eq? r 0)

  pub slot_says : (s : ℕ) → slot_right z σ s ≡ true → FreeSlot σ s ⊎ RootSeen s
  unfolding slot_right
  slot_says s t =
      ⊎_elim
      (λ e.
      let f : cond (eqb (σ.root s) 0) (eqb (σ.size s) 0) false ≡ true = rw (eq-eqb (σ.held s) 0 e) at t in
      let w = both _ _ f in
      inl (record { not_held = e; no_root = eqb-true _ _ w.0; no_size = eqb-true _ _ w.1 }))
      (λ ne.
      let f : cond (eqb (σ.held s) 1) (root_right z σ (σ.root s) (σ.size s)) false ≡ true
      = rw (ne_eqb (σ.held s) 0 ne) at t in
      let w = both _ _ f in
      inr (eqb-true _ _ w.0, root_says (σ.root s) (σ.size s) w.1))
      (eq? (σ.held s) 0)
