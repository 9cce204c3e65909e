-- `grafts::kids::with` meets its contract: a bit that is missing is added. Assumes nothing.
use Rattle.std.proofs.lemmas.Nat.{one_shl}
use Rattle.grafts.proofs.StepLaws.{with_one}
use Rattle.grafts.proofs.kids.with.Goals as goal

pub returns-else-gap-eq0 : goal.returns-else-gap-eq0
returns-else-gap-eq0 c = with_one _ _ _ _ c.requires.gap_is c.if-gap-eq0.false (one_shl _ 64 c.requires.in_bitmap)
