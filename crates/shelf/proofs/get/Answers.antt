-- `shelf::get` meets its contract: the header is read first, and the rest follows from the answer. Assumes nothing.
use Rattle.replies.proofs.AnswerLaws.{read_Right, read_Wrong}
use Rattle.looks.proofs.LookLaws.{gets}
use Rattle.std.proofs.Common.{sym, ◌∙◌}
use Rattle.layout.proofs.HeaderLaws.{header_Lent}
use Rattle.shelf.proofs.get.Goals as goal

pub get-requires : goal.get-requires
get-requires c = header_Lent _ _ (sym c.read.ensures ∙ c.in-Some.is)

pub returns : goal.returns
returns c = gets _ _ _ _ _ (read_Right _ _ _ _ _ _ c.read.ensures c.in-Some.is c.get.ensures)

pub returns-in_default : goal.returns-in_default
returns-in_default c = gets _ _ _ _ _ (read_Wrong _ _ _ _ c.read.ensures c.in_default.is)
