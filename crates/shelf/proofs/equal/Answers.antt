-- `shelf::equal` meets its contract: the header is read first, and the rest follows from the answer. Assumes nothing.
use Rattle.replies.proofs.AnswerLaws.{read_Right, read_Wrong}
use Rattle.looks.proofs.LookLaws.{compares}
use Rattle.std.proofs.Common.{sym, ◌∙◌}
use Rattle.layout.proofs.HeaderLaws.{header_Lent}
use Rattle.shelf.proofs.equal.Goals as goal

pub equal-requires : goal.equal-requires
equal-requires c = header_Lent _ _ (sym c.read.ensures ∙ c.in-Some.is)

pub returns : goal.returns
returns c = compares _ _ _ _ (read_Right _ _ _ _ _ _ c.read.ensures c.in-Some.is c.equal.ensures)

pub returns-in_default : goal.returns-in_default
returns-in_default c = compares _ _ _ _ (read_Wrong _ _ _ _ c.read.ensures c.in_default.is)
