-- `prunes::without` meets its contract. Assumes nothing.
use Rattle.std.proofs.lemmas.Nat.{one_shl}
use Rattle.prunes.proofs.StepLaws.{without_is}
use Rattle.prunes.proofs.without.Goals as goal

pub returns : goal.returns
returns c = without_is _ _ _ (one_shl _ 64 c.requires)
