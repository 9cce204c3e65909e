-- The free cells by their places on the chain of their kind: each is a cell that is not named, and no two places have one cell.
use Prim.Native.Nat.{ℕ, zero, suc, ◌≤◌, ◌<◌}
use mathlib.Core.Path.{◌≡◌, refl, sym, ap, ◌∙◌}
use mathlib.Core.Bool.{true}
use mathlib.Core.Logic.{⊎_elim}
use mathlib.Core.List.{[], List, ◌∷◌}
use native.Mathlib.Omega.{arith}
use lib.ListN.{length, get_or}
use Rattle.cases.proofs.Cases.{eq?}
use Rattle.counts.specs.Counts.{ind, among}
use Rattle.counts.proofs.CountLaws.{ind_same, ind_other, ind_le}
use Rattle.layout.specs.declared.Shape.{Shape}
use Rattle.layout.specs.Layout.{reference, kind_of, cell_of, names}
use Rattle.layout.specs.Columns.{State, refs}
use Rattle.arena.specs.Local.{Local}
use Rattle.arena.proofs.RefLaws.{refs_some, ref_cell}

-- LISTS
among_at : (xs : List ℕ) (i : ℕ) → i < length xs → 0 < among xs (get_or xs i 0)
unfolding among
among_at [] i l = absurd (omega arith)
among_at (x ∷ xs) zero l = omega (arith, ind_same x x refl)
among_at (x ∷ xs) (suc i) l = omega (arith, among_at xs i (omega arith))

-- what stands at two places stands there twice
one_place : (xs : List ℕ) (r i j : ℕ) → among xs r ≤ 1 → i < length xs → j < length xs → get_or xs i 0 ≡ r → get_or xs j 0 ≡ r → i ≡ j
unfolding among
one_place [] r i j once li lj p q = absurd (omega arith)
one_place (x ∷ xs) r zero zero once li lj p q = refl
one_place (x ∷ xs) r zero (suc j) once li lj p q =
    absurd (omega (arith, ind_same r x p, among_at xs j (omega arith), ap (among xs) q))
one_place (x ∷ xs) r (suc i) zero once li lj p q =
    absurd (omega (arith, ind_same r x q, among_at xs i (omega arith), ap (among xs) p))
one_place (x ∷ xs) r (suc i) (suc j) once li lj p q = ap suc (one_place xs r i j (omega arith) (omega arith) (omega arith) p q)

-- FREE CELLS
module _ {z : Shape} {σ : State} {H : ℕ → ℕ} {free : ℕ → List ℕ} (I : Local z σ H free) (p : ℕ) where
  inside : (i : ℕ) → i < length (free p) → (0 < refs z (get_or (free p) i 0)) × (kind_of (get_or (free p) i 0) ≡ p)
  inside i l = I.within p (get_or (free p) i 0) (among_at (free p) i l)

  how_often : (i : ℕ) → i < length (free p)
      → among (free p) (get_or (free p) i 0) ≡ ind 0 (σ.count (get_or (free p) i 0))
  how_often i l =
      let w = inside i l in
      ap (λ (k : ℕ). among (free k) (get_or (free p) i 0)) (sym w.1) ∙ I.free_once (get_or (free p) i 0) w.0

  -- the reference at a place is that of its cell
  pub free_ref : (i : ℕ) → i < length (free p) → reference p (cell_of (get_or (free p) i 0)) ≡ get_or (free p) i 0
  free_ref i l = let w = inside i l in omega (arith, (ref_cell z (get_or (free p) i 0) w.0).1)

  pub free_named : (i : ℕ) → i < length (free p) → names z (reference p (cell_of (get_or (free p) i 0))) ≡ true
  free_named i l = rw (free_ref i l) (refs_some z (get_or (free p) i 0) (inside i l).0)

  pub free_unused : (i : ℕ) → i < length (free p) → σ.count (reference p (cell_of (get_or (free p) i 0))) ≡ 0
  free_unused i l =
      rw (free_ref i l)
      (⊎_elim
      (λ e. e)
      (λ ne. absurd (omega (arith, among_at (free p) i l, how_often i l, ind_other 0 (σ.count (get_or (free p) i 0)) ne)))
      (eq? (σ.count (get_or (free p) i 0)) 0))

  pub free_distinct : (i j : ℕ) → i < length (free p) → j < length (free p)
      → cell_of (get_or (free p) i 0) ≡ cell_of (get_or (free p) j 0) → i ≡ j
  free_distinct i j li lj e =
      one_place (free p) (get_or (free p) i 0) i j
      (omega (arith, how_often i li, ind_le 0 (σ.count (get_or (free p) i 0)))) li lj refl
      (sym (free_ref j lj) ∙ ap (reference p) (sym e) ∙ free_ref i li)
