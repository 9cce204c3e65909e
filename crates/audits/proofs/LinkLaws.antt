-- What the tests of an entry say: where it is in use nothing stands behind it and its chain length is 1, or an entry in use
-- stands there whose chain is one shorter and which has its hash; and the search behind it for its hash and key finds nothing.
use Rattle.std.proofs.lemmas.Bool.{false≢true}
use Rattle.std.proofs.Common.{◌≡◌, ℕ, ◌<◌, true, ◌⊎◌, is_none, Some, Option, sym, refl, ◌∙◌, inl, inr, ⊎_elim, arith, eq-eqb, eqb-true}
use Rattle.cases.proofs.Cases.{eq?}
use Rattle.layout.specs.declared.Shape.{Shape}
use Rattle.layout.specs.Columns.{State}
use Rattle.lookup.specs.Lookup.{longest, hit_from}
use Rattle.audits.specs.Audits.{linked, entry_right, key_right}
use Rattle.audits.proofs.StepLaws.{linked_last, linked_next, entry_used, entry_free, key_used, free_value}
pub use Rattle.audits.proofs.FollowLaws.{Followed}
use Rattle.audits.proofs.FollowLaws.{to_says, to_is}

-- NOWHERE
pub nowhere_not : (h : Option ℕ) (q : ℕ) → is_none h ≡ true → h ≡ Some q → ⊥
nowhere_not h q e y = false≢true (rw y at e)

module _ (z : Shape) (σ : State) where
  -- LINKS
  linked_says : (r : ℕ) → linked z σ r ≡ true → ((σ.kid r 0 ≡ 0) × (σ.mark r ≡ 1)) ⊎ Followed z σ r
  linked_says r e =
      ⊎_elim
      (λ o. inl (o, eqb-true _ _ (linked_last z σ r _ refl _ o refl ∙ e)))
      (λ ne. inr (to_says z σ r (linked_next z σ r _ refl _ ne refl ∙ e)))
      (eq? (σ.kid r 0) 0)

  pub linked_end : (r : ℕ) → σ.kid r 0 ≡ 0 → σ.mark r ≡ 1 → linked z σ r ≡ true
  linked_end r o m = sym (linked_last z σ r _ refl _ o refl) ∙ eq-eqb (σ.mark r) 1 m

  pub linked_on : (r : ℕ) → (σ.kid r 0 ≡ 0 → ⊥) → Followed z σ r → linked z σ r ≡ true
  linked_on r ne f = sym (linked_next z σ r _ refl true ne (sym (to_is z σ r f)))

  -- ENTRIES in use, and free ones
  pub used_says : (r : ℕ) → 0 < σ.count r → entry_right z σ r ≡ true → ((σ.kid r 0 ≡ 0) × (σ.mark r ≡ 1)) ⊎ Followed z σ r
  used_says r l e = linked_says r (entry_used z σ r _ refl _ (λ o. omega arith) refl ∙ e)

  pub used_is : (r : ℕ) → 0 < σ.count r → linked z σ r ≡ true → entry_right z σ r ≡ true
  used_is r l e = sym (entry_used z σ r _ refl true (λ o. omega arith) (sym e))

  pub free_is : (r : ℕ) → σ.count r ≡ 0 → ((k : ℕ) → (σ.kid r k ≡ 0) × (σ.plain r k ≡ 0)) → entry_right z σ r ≡ true
  free_is r o f =
      entry_free z σ r _ refl o
      ∙ sym (free_value σ r _ refl (f 0).0 _ refl (f 0).1 _ refl _ (f 1).1 refl)
      ∙ eq-eqb (σ.plain r 2) 0 (f 2).1

  -- KEYS
  pub key_says : (r : ℕ) → 0 < σ.count r → key_right z σ r ≡ true
      → is_none (hit_from z σ (σ.plain r 0) (σ.plain r 1) (longest z) (σ.kid r 0)) ≡ true
  key_says r l e = sym (key_used z σ r _ refl _ _ _ _ (λ o. omega arith) refl refl refl refl) ∙ e
