-- The test of chain lengths passes exactly where the one is one more than the other.
use Prim.Native.Nat.{ℕ, suc, ◌-◌}
use mathlib.Core.Path.{◌≡◌}
use mathlib.Core.Bool.{true}
use native.Mathlib.Omega.{arith}
use lib.Dec.{ltb}
use borrow.Author.Tests.{eq-eqb, lt-ltb, eqb-true, ltb-true}
use Rattle.cases.proofs.Cases.{both}
use Rattle.audits.specs.Audits.{one_more}

pub more_says : (m n : ℕ) → one_more m n ≡ true → m ≡ suc n
unfolding one_more
more_says m n e =
    let w = both (ltb n m) _ e in
    omega (arith, ltb-true n m w.0, eqb-true (m - n) 1 w.1)

pub more_is : (m n : ℕ) → m ≡ suc n → one_more m n ≡ true
unfolding one_more
more_is m n e = rw (lt-ltb n m (omega arith)) (eq-eqb (m - n) 1 (omega arith))
