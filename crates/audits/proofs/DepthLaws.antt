-- A branch in use that passes its test stands above the depth at which a hash is exhausted.
use Prim.Native.Nat.{ℕ, ◌<◌}
use mathlib.Core.Path.{◌≡◌, refl, ◌∙◌}
use mathlib.Core.Bool.{true}
use native.Mathlib.Omega.{arith}
use borrow.Author.Tests.{ltb-true}
use Rattle.layout.specs.declared.Shape.{Shape}
use Rattle.layout.specs.Columns.{State}
use Rattle.audits.specs.Audits.{branch_right}
use Rattle.audits.proofs.StepLaws.{branch_used}

module _ (z : Shape) (σ : State) where
  pub live_deep : (r : ℕ) → branch_right z σ r ≡ true → 0 < σ.count r → σ.mark r < z.depths
  live_deep r t l = ltb-true _ _ (branch_used z σ r _ refl (σ.mark r) (λ e. omega arith) refl ∙ t)
