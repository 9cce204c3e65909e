-- What is seen below a root has the size that its slot says, where the test of the size passes.
use Rattle.std.proofs.Common.{◌≡◌, ℕ, true, Some, None, Option, ap, eqb-true}
use Rattle.std.proofs.lemmas.Bool.{false≢true}
use Rattle.levels.specs.declared.Seen.{Seen}
use Rattle.levels.specs.Levels.{Under, size_is}

pub size_some : (s : Option Seen) (n : ℕ) → size_is s n ≡ true → (l : ℕ) × (s ≡ Under l n)
unfolding size_is
size_some None n e = absurd (false≢true e)
size_some (Some v) n e = let q : v.size ≡ n = eqb-true _ _ e in (v.lead, ap (Under v.lead) q)
