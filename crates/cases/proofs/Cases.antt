-- Going by cases on a test and on two numbers: the library's tests `eqb` and `ltb` decide what they say.
use mathlib.Core.Path.{◌≡◌, refl}
use mathlib.Core.Bool.{Bool, true, false, cond}
use mathlib.Core.Logic.{◌⊎◌, inl, inr}
use Prim.Native.Nat.{ℕ, ◌<◌, ◌≤◌}
use native.Mathlib.Omega.{arith}
use lib.Dec.{eqb, ltb}
use borrow.Author.Tests.{eqb-true, eqb-false, ltb-true, ltb-false}

-- a test, with what it says
pub split : {A : Type 0} → (b : Bool) → (b ≡ true → A) → (b ≡ false → A) → A
split true f g = f refl
split false f g = g refl

-- two tests that both have to pass
pub both : (x y : Bool) → cond x y false ≡ true → (x ≡ true) × (y ≡ true)
both true y e = (refl, e)
both false y e = let n : ◌≡◌ {A = ℕ} 0 1 = cc in absurd (omega arith)

-- two numbers: equal or not, lower or not, and the three ways together
pub eq? : (a b : ℕ) → (a ≡ b) ⊎ (a ≡ b → ⊥)
eq? a b = split (eqb a b) (λ e. inl (eqb-true a b e)) (λ e. inr (eqb-false a b e))

pub lt? : (a b : ℕ) → (a < b) ⊎ (b ≤ a)
lt? a b = split (ltb a b) (λ l. inl (ltb-true a b l)) (λ l. inr (ltb-false a b l))

pub data Tri (a b : ℕ) : Type 0 where
  is_less : a < b → Tri a b
  is_equal : a ≡ b → Tri a b
  is_more : b < a → Tri a b

pub tri : (a b : ℕ) → Tri a b
tri a b = by (lt? a b) (eq? a b)
  where
    by : (a < b) ⊎ (b ≤ a) → (a ≡ b) ⊎ (a ≡ b → ⊥) → Tri a b
    by (inl l) e = is_less l
    by (inr g) (inl e) = is_equal e
    by (inr g) (inr ne) = is_more (omega arith)
