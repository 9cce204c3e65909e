-- `shelf::new_edition` meets its contract: the header is read first, and the rest of the contract follows from the
-- outcome. Assumes nothing.
use Rattle.replies.proofs.AnswerLaws.{read_Right, read_Wrong}
use Rattle.makes.proofs.EditionLaws.{makes_new}
use Rattle.std.proofs.Common.{sym, ◌∙◌}
use Rattle.layout.proofs.HeaderLaws.{header_Lent}
use Rattle.shelf.proofs.new_edition.Goals as goal

pub new_edition-requires : goal.new_edition-requires
new_edition-requires c = header_Lent _ _ (sym c.read.ensures ∙ c.in-Some.is)

pub returns : goal.returns
returns c = makes_new _ _ _ (read_Right _ _ _ _ _ _ c.read.ensures c.in-Some.is c.new_edition.ensures)

pub returns-in_default : goal.returns-in_default
returns-in_default c = makes_new _ _ _ (read_Wrong _ _ _ _ c.read.ensures c.in_default.is)
