-- The steps of a walk along a free chain, by what each says and by what it asks for: a cell of the kind that is not named, and the
-- rest of the walk; and where no steps are left, the end of the chain.
use Prim.Native.Nat.{ℕ, suc, ◌<◌}
use mathlib.Core.Path.{◌≡◌}
use mathlib.Core.Bool.{true}
use lib.Dec.{eqb}
use borrow.Author.Tests.{eq-eqb, eqb-true}
use Rattle.cases.proofs.Cases.{both}
use Rattle.layout.specs.declared.Shape.{Shape}
use Rattle.layout.specs.Layout.{kind_of}
use Rattle.layout.specs.Columns.{State, refs}
use Rattle.arena.proofs.RefLaws.{refs_some, names-refs}
use Rattle.lookup.specs.Lookup.{names_kind}
use Rattle.lookup.proofs.FindLaws.{kind_says, kind_is}
use Rattle.audits.specs.Audits.{walk}

module _ (z : Shape) (σ : State) where
  pub record Step (k n r : ℕ) : Type 0 where
    pub cell : 0 < refs z r
    pub kind : kind_of r ≡ k
    pub unused : σ.count r ≡ 0
    pub rest : walk z σ k n (σ.mark r) ≡ true

  pub step_is : (k n r : ℕ) → Step k n r → walk z σ k (suc n) r ≡ true
  unfolding walk
  step_is k n r s =
      rw (kind_is z k r (refs_some z r s.cell) s.kind, eq-eqb (σ.count r) 0 s.unused) s.rest

  pub end_says : (k r : ℕ) → walk z σ k 0 r ≡ true → r ≡ 0
  unfolding walk
  end_says k r e = eqb-true r 0 e

  pub end_is : (k r : ℕ) → r ≡ 0 → walk z σ k 0 r ≡ true
  unfolding walk
  end_is k r e = eq-eqb r 0 e

module _ (z : Shape) (σ : State) (some : 0 < z.degree) where
  pub Step-says : (k n r : ℕ) → walk z σ k (suc n) r ≡ true → Step z σ k n r
  unfolding walk
  Step-says k n r e =
      let u = both (names_kind z k r) _ e in
      let v = both (eqb (σ.count r) 0) _ u.1 in
      let w = kind_says z k r u.0 in
      record { cell = (names-refs z some r).0 w.0; kind = w.1; unused = eqb-true _ _ v.0; rest = v.1 }
