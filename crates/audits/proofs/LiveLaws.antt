-- A cell of a kind is in use exactly if the reference names one of that kind and its count is not 0.
use Prim.Native.Nat.{ℕ, ◌<◌}
use mathlib.Core.Path.{◌≡◌}
use mathlib.Core.Bool.{true}
use borrow.Author.Tests.{lt-ltb, ltb-true}
use Rattle.cases.proofs.Cases.{both}
use Rattle.layout.specs.declared.Shape.{Shape}
use Rattle.layout.specs.Layout.{kind_of, names}
use Rattle.layout.specs.Columns.{State}
use Rattle.lookup.specs.Lookup.{names_kind}
use Rattle.lookup.proofs.FindLaws.{kind_says}
use Rattle.audits.specs.Audits.{is_live}

module _ (z : Shape) (σ : State) where
  pub live_says : (k r : ℕ) → is_live z σ k r ≡ true → (names_kind z k r ≡ true) × (0 < σ.count r)
  unfolding is_live
  live_says k r e = let w = both (names_kind z k r) _ e in (w.0, ltb-true _ _ w.1)

  pub live_is : (k r : ℕ) → names_kind z k r ≡ true → 0 < σ.count r → is_live z σ k r ≡ true
  unfolding is_live
  live_is k r n l = rw (n, lt-ltb 0 (σ.count r) l)

  -- by its reference
  pub live_cell : (k r : ℕ) → is_live z σ k r ≡ true → (kind_of r ≡ k) × (names z r ≡ true) × (0 < σ.count r)
  live_cell k r e = let w = live_says k r e in let c = kind_says z k r w.0 in (c.1, c.0, w.1)
