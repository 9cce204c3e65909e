-- `shelf::size` meets its contract: the header is read first, and the rest of the contract follows from the answer.
-- Assumes nothing.
use Rattle.replies.proofs.AnswerLaws.{read_Right, read_Wrong}
use Rattle.looks.proofs.ReadLaws.{sizes}
use Rattle.std.proofs.Common.{sym, ◌∙◌}
use Rattle.layout.proofs.HeaderLaws.{header_Lent}
use Rattle.shelf.proofs.size.Goals as goal

pub size-requires : goal.size-requires
size-requires c = header_Lent _ _ (sym c.read.ensures ∙ c.in-Some.is)

pub returns : goal.returns
returns c = sizes _ _ _ (read_Right _ _ _ _ _ _ c.read.ensures c.in-Some.is c.size.ensures)

pub returns-in_default : goal.returns-in_default
returns-in_default c = sizes _ _ _ (read_Wrong _ _ _ _ c.read.ensures c.in_default.is)
