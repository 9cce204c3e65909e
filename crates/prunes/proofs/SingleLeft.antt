-- What is left of a branch over a single: the single itself, where it is the only child, else one branch. The first is what the
-- reading pass tests, whether there are few children; the second asks of the child too, which is a single.
use Rattle.std.proofs.Common.{◌≡◌, Bool, true, false, cond, refl}
use Rattle.prunes.specs.declared.Left.TheVariants.{Single, More}

pub single_kept : (few : Bool) → cond few Single (More 1) ≡ cond (cond few true false) Single (More 1)
single_kept true = refl
single_kept false = refl
