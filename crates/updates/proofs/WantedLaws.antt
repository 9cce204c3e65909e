-- When test 6 of an update refuses, by its plan: where it is a change and the plan replaces no entry.
use mathlib.Core.Path.{◌≡◌}
use mathlib.Core.Bool.{Bool, false}
use mathlib.Core.Logic.{◌↔◌}
use Rattle.updates.specs.declared.Plan.{Plan}
use Rattle.updates.specs.Calls.{wanted}
use Rattle.updates.proofs.TestLaws.{NotThere, by_test}

pub wanted_lacks : (change : Bool) (p : Plan) → (wanted change p ≡ false) ↔ NotThere change p.replaced
unfolding wanted
wanted_lacks change p = by_test change p.replaced
