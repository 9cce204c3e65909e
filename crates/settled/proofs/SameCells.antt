-- Two arenas of one shape whose slots and cells agree, all but the links of free cells and where the free chains begin.
use Prim.Native.Nat.{ℕ, ◌<◌}
use mathlib.Core.Path.{◌≡◌}
use mathlib.Core.Bool.{true}
use Rattle.layout.specs.declared.Shape.{Shape}
use Rattle.layout.specs.Layout.{names}
use Rattle.layout.specs.Columns.{State}

pub record SameCells (z : Shape) (σ τ : State) : Type 0 where
  pub used_eq : (k : ℕ) → τ.used k ≡ σ.used k
  pub held_eq : (s : ℕ) → s < z.slots → τ.held s ≡ σ.held s
  pub root_eq : (s : ℕ) → s < z.slots → τ.root s ≡ σ.root s
  pub size_eq : (s : ℕ) → s < z.slots → τ.size s ≡ σ.size s
  pub count_eq : (r : ℕ) → names z r ≡ true → τ.count r ≡ σ.count r
  pub mark_eq : (r : ℕ) → names z r ≡ true → 0 < σ.count r → τ.mark r ≡ σ.mark r
  pub kid_eq : (r k : ℕ) → names z r ≡ true → τ.kid r k ≡ σ.kid r k
  pub plain_eq : (r k : ℕ) → names z r ≡ true → τ.plain r k ≡ σ.plain r k
