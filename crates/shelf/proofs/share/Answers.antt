-- `shelf::share` meets its contract: the header is read first, and the rest of the contract follows from the outcome.
-- Assumes nothing.
use Rattle.replies.proofs.AnswerLaws.{read_Right, read_Wrong}
use Rattle.makes.proofs.EditionLaws.{shares}
use Rattle.std.proofs.Common.{sym, ◌∙◌}
use Rattle.layout.proofs.HeaderLaws.{header_Lent}
use Rattle.shelf.proofs.share.Goals as goal

pub share-requires : goal.share-requires
share-requires c = header_Lent _ _ (sym c.read.ensures ∙ c.in-Some.is)

pub returns : goal.returns
returns c = shares _ _ _ _ (read_Right _ _ _ _ _ _ c.read.ensures c.in-Some.is c.share.ensures)

pub returns-in_default : goal.returns-in_default
returns-in_default c = shares _ _ _ _ (read_Wrong _ _ _ _ c.read.ensures c.in_default.is)
