-- A test of many numbers, by what it says of each and by the steps of a loop.
use Rattle.std.proofs.lemmas.Bool.{false≢true}
use Rattle.std.proofs.Common.{◌≡◌, ℕ, zero, suc, ◌+◌, ◌-◌, ◌<◌, ◌≤◌, Bool, true, false, sym, refl, ap, ◌∙◌, ⊎_elim, arith}
use Rattle.cases.proofs.Cases.{split, eq?}
use Rattle.audits.specs.Audits.{all_from}

module _ (p : ℕ → Bool) where
  pub all_says : (i n : ℕ) → all_from p i n ≡ true → (j : ℕ) → i ≤ j → j < i + n → p j ≡ true
  unfolding all_from
  all_says i zero e j l m = absurd (omega arith)
  all_says i (suc n) e j l m =
      split (p i)
      (λ t. ⊎_elim (λ q. sym (ap p q) ∙ t) (λ ne. all_says (suc i) n (rw t at e) j (omega arith) (omega arith)) (eq? i j))
      (λ f. absurd (false≢true (rw f at e)))

  pub all_is : (i n : ℕ) → ((j : ℕ) → i ≤ j → j < i + n → p j ≡ true) → all_from p i n ≡ true
  unfolding all_from
  all_is i zero h = refl
  all_is i (suc n) h = rw (h i (omega arith) (omega arith)) (all_is (suc i) n (λ j l m. h j (omega arith) (omega arith)))

  -- from 0 on
  pub all_below : (n : ℕ) → all_from p 0 n ≡ true → (j : ℕ) → j < n → p j ≡ true
  all_below n e j l = all_says 0 n e j (omega arith) (omega arith)

  pub below_all : (n : ℕ) → ((j : ℕ) → j < n → p j ≡ true) → all_from p 0 n ≡ true
  below_all n h = all_is 0 n (λ j l m. h j (omega arith))

  -- THE STEPS OF A LOOP over i up to n: one more holds, one fails, all are done
  step_back : (i n : ℕ) → i < n → all_from p i (n - i) ≡ all_from p i (suc (n - suc i))
  step_back i n l = let e : n - i ≡ suc (n - suc i) = omega arith in ap (all_from p i) e

  pub all_on : (i n : ℕ) → i < n → p i ≡ true → all_from p i (n - i) ≡ all_from p (suc i) (n - suc i)
  unfolding all_from
  all_on i n l t = step_back i n l ∙ rw t

  pub all_stops : (i n : ℕ) → i < n → p i ≡ false → all_from p i (n - i) ≡ false
  unfolding all_from
  all_stops i n l f = step_back i n l ∙ rw f

  pub all_over : (i n : ℕ) → n ≤ i → all_from p i (n - i) ≡ true
  unfolding all_from
  all_over i n l = let e : n - i ≡ 0 = omega arith in ap (all_from p i) e
