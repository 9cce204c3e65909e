-- `grafts::kids::gap` meets its contract. Assumes nothing.
use mathlib.Core.Path.{sym, ap, ◌∙◌}
use Rattle.std.specs.Prelude.{Ok}
use Rattle.grafts.proofs.StepLaws.{gap_by}
use Rattle.grafts.proofs.kids.gap.Goals as goal

pub returns-in-Ok-Some : goal.returns-in-Ok-Some
returns-in-Ok-Some c = gap_by _ _ _ (sym (c.in-Ok-Some.is ∙ ap Ok c.in-Ok-Some.field-0-is) ∙ c.map_index.ensures) c.requires

pub returns-in-Ok-None : goal.returns-in-Ok-None
returns-in-Ok-None c = gap_by _ _ _ (sym (c.in-Ok-None.is ∙ ap Ok c.in-Ok-None.field-0-is) ∙ c.map_index.ensures) c.requires

pub returns-in-Err : goal.returns-in-Err
returns-in-Err c = gap_by _ _ _ (sym c.in-Err.is ∙ c.map_index.ensures) c.requires
