-- `shelf::change` meets its contract: the header is read first, and the rest of the contract follows from the outcome.
-- Assumes nothing.
use Rattle.updates.proofs.UpdateLaws.{changes}
use Rattle.replies.proofs.AnswerLaws.{read_Right, read_Wrong}
use Rattle.std.proofs.Common.{sym, ◌∙◌, arith}
use Rattle.layout.proofs.HeaderLaws.{header_Lent}
use Rattle.shelf.proofs.change.Goals as goal

pub change-requires : goal.change-requires
change-requires c = header_Lent _ _ (sym c.read.ensures ∙ c.in-Some.is)

pub returns : goal.returns
returns c = changes _ _ _ _ _ (record { hash_fits = omega arith; key_fits = omega arith; value_fits = omega arith }) _ _ (read_Right _ _ _ _ _ _ c.read.ensures c.in-Some.is c.change.ensures)

pub returns-in_default : goal.returns-in_default
returns-in_default c = changes _ _ _ _ _ (record { hash_fits = omega arith; key_fits = omega arith; value_fits = omega arith }) _ _ (read_Wrong _ _ _ _ c.read.ensures c.in_default.is)
