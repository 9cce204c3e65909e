-- `shelf::list` meets its contract: the header is read first, and the rest follows from the outcome. Assumes nothing.
use Rattle.replies.proofs.AnswerLaws.{read_Right, read_Wrong}
use Rattle.looks.proofs.LookLaws.{lists}
use Rattle.std.proofs.Common.{sym, ◌∙◌}
use Rattle.layout.proofs.HeaderLaws.{header_Lent}
use Rattle.shelf.proofs.list.Goals as goal

pub list-requires : goal.list-requires
list-requires c = header_Lent _ _ (sym c.read.ensures ∙ c.in-Some.is)

pub returns : goal.returns
returns c = lists _ _ _ _ _ _ (read_Right _ _ _ _ _ _ c.read.ensures c.in-Some.is c.list.ensures)

pub returns-in_default : goal.returns-in_default
returns-in_default c = lists _ _ _ _ _ _ (read_Wrong _ _ _ _ c.read.ensures c.in_default.is)
