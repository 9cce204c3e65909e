-- What may stand behind an entry: an entry in use whose chain is one shorter and which has the same hash.
use Prim.Native.Nat.{ℕ, suc}
use mathlib.Core.Path.{◌≡◌}
use mathlib.Core.Bool.{true}
use borrow.Author.Tests.{eq-eqb, eqb-true}
use Rattle.cases.proofs.Cases.{both}
use Rattle.layout.specs.declared.Shape.{Shape}
use Rattle.layout.specs.Columns.{State}
use Rattle.audits.specs.Audits.{is_live, one_more, linked_to}
use Rattle.audits.proofs.OneMoreLaws.{more_says, more_is}

module _ (z : Shape) (σ : State) where
  -- an entry in use stands behind r: its chain is one shorter, and it has r's hash
  pub record Followed (r : ℕ) : Type 0 where
    pub live : is_live z σ 1 (σ.kid r 0) ≡ true
    pub shorter : σ.mark r ≡ suc (σ.mark (σ.kid r 0))
    pub same_hash : σ.plain (σ.kid r 0) 0 ≡ σ.plain r 0

  pub to_says : (r : ℕ) → linked_to z σ r (σ.kid r 0) ≡ true → Followed r
  unfolding linked_to
  to_says r e =
      let n = σ.kid r 0 in
      let w = both (is_live z σ 1 n) _ e in
      let v = both (one_more (σ.mark r) (σ.mark n)) _ w.1 in
      record { live = w.0; shorter = more_says _ _ v.0; same_hash = eqb-true _ _ v.1 }

  pub to_is : (r : ℕ) → Followed r → linked_to z σ r (σ.kid r 0) ≡ true
  unfolding linked_to
  to_is r f =
      rw (f.live, more_is (σ.mark r) (σ.mark (σ.kid r 0)) f.shorter)
      (eq-eqb (σ.plain (σ.kid r 0) 0) (σ.plain r 0) f.same_hash)
