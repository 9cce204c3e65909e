-- `shelf::check` meets its contract: the header is read first. Assumes nothing.
use Rattle.std.proofs.Common.{sym, ◌∙◌}
use Rattle.layout.proofs.HeaderLaws.{Header-says}
use Rattle.checks.specs.Terms.{wrong_header}
use Rattle.checks.proofs.JudgeLaws.{no_header}
use Rattle.shelf.proofs.check.Goals as goal

pub check-requires : goal.check-requires
check-requires c = (Header-says _ _).0 (sym c.read.ensures ∙ c.in-Some.is)

pub returns-in_default : goal.returns-in_default
returns-in_default c = wrong_header (no_header _ (sym c.read.ensures ∙ c.in_default.is))
