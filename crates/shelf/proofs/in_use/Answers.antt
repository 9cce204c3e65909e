-- `shelf::in_use` meets its contract: the header is read first, and the rest of the contract follows from the answer.
-- Assumes nothing.
use Rattle.replies.proofs.AnswerLaws.{read_Right, read_Wrong}
use Rattle.looks.proofs.ReadLaws.{uses}
use Rattle.std.proofs.Common.{sym, ◌∙◌}
use Rattle.layout.proofs.HeaderLaws.{header_Lent}
use Rattle.shelf.proofs.in_use.Goals as goal

pub in_use-requires : goal.in_use-requires
in_use-requires c = header_Lent _ _ (sym c.read.ensures ∙ c.in-Some.is)

pub returns : goal.returns
returns c = uses _ _ (read_Right _ _ _ _ _ _ c.read.ensures c.in-Some.is c.in_use.ensures)

pub returns-in_default : goal.returns-in_default
returns-in_default c = uses _ _ (read_Wrong _ _ _ _ c.read.ensures c.in_default.is)
