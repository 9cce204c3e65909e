-- What each answer of `map_index` says of the index's bit and rank: the three cases of its definition exclude each other.
-- Assumes nothing.
use Prim.Native.Nat.{ℕ, ◌≤◌, ◌<◌}
use mathlib.Core.Path.{◌≡◌, refl, sym, ap, ap₂, subst, ◌∙◌}
use mathlib.Core.Logic.{⊎_elim}
use mathlib.Core.Bool.{cond, true≢false}
use borrow.Author.Tests.{lt-ltb, le-ltb}
use Rattle.sparse_array.specs.Bitmap.{bit, below}
use Rattle.std.specs.Prelude.{Option, Some, None, Result, Ok, Err, IsErr}
use Rattle.sparse_array.specs.declared.Refused.{Refused}
use Rattle.sparse_array.specs.Places.{refused, Place, place_if, place_of}
use Rattle.cases.proofs.Cases.{lt?}
use Rattle.sparse_array.proofs.Bitmap.{bit_cases}

module _ (b i : ℕ) where
  pub place_Refused : 64 ≤ i → place_of b i ≡ refused
  unfolding place_of
  place_Refused h = ap (λ t. cond t (Ok (place_if (bit b i) (below b i))) refused) (le-ltb i 64 h)

  place_by_bit : {x : ℕ} → i < 64 → bit b i ≡ x → place_of b i ≡ Ok (place_if x (below b i))
  unfolding place_of
  place_by_bit h e = ap₂ (λ t (x : ℕ). cond t (Ok (place_if x (below b i))) refused) (lt-ltb i 64 h) e

  pub place_Nothing : i < 64 → bit b i ≡ 0 → place_of b i ≡ Ok None
  place_Nothing h e = place_by_bit {x = 0} h e

  pub place_at : i < 64 → bit b i ≡ 1 → place_of b i ≡ Ok (Some (below b i))
  place_at h e = place_by_bit {x = 1} h e

  -- What an answer says.
  abbrev pub Says : Place → Type 0
  Says (Ok (Some k)) = (i < 64) × (bit b i ≡ 1) × (k ≡ below b i)
  Says (Ok None) = (i < 64) × (bit b i ≡ 0)
  Says (Err _) = 64 ≤ i

  said : Says (place_of b i)
  said =
      ⊎_elim
      (λ (h : i < 64).
      ⊎_elim
      (λ (e : bit b i ≡ 0). subst Says (sym (place_Nothing h e)) (h, e))
      (λ (e : bit b i ≡ 1). subst Says (sym (place_at h e)) (h, e, refl))
      (bit_cases b i))
      (λ (h : 64 ≤ i). subst Says (sym (place_Refused h)) h)
      (lt? i 64)

  pub place_Says : (p : Place) → p ≡ place_of b i → Says p
  place_Says p e = subst Says (sym e) said

  -- The same of an answer as a call takes it apart.
  pub there : {p : Place} {o : Option ℕ} {k : ℕ} → p ≡ place_of b i → p ≡ Ok o → o ≡ Some k → Says (Ok (Some k))
  there {k} e q r = place_Says (Ok (Some k)) (sym (q ∙ ap Ok r) ∙ e)

  pub free : {p : Place} {o : Option ℕ} → p ≡ place_of b i → p ≡ Ok o → o ≡ None → Says (Ok None)
  free e q r = place_Says (Ok None) (sym (q ∙ ap Ok r) ∙ e)

  pub no_index : {p : Place} (x : Refused) → p ≡ place_of b i → p ≡ Err x → 64 ≤ i
  no_index x e q = place_Says (Err x) (sym q ∙ e)

-- There is one refusal.
pub refused_is : {A : Type 0} (r : Result A Refused) → IsErr r → refused ≡ r
refused_is (Ok x) e = absurd (true≢false (sym e))
refused_is (Err x) e = refl
