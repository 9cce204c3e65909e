-- `grafts::is_end` meets its contract. Assumes nothing.
use mathlib.Core.Path.{◌∙◌}
use Rattle.grafts.proofs.StepLaws.{stop_is, stop_not}
use Rattle.grafts.proofs.is_end.Goals as goal

pub returns-then-replaced : goal.returns-then-replaced
returns-then-replaced c = c.is_entry.ensures ∙ stop_is _ _ _ c.if-replaced.true

pub returns-else-replaced : goal.returns-else-replaced
returns-else-replaced c = stop_not _ _ _ c.if-replaced.false
