-- `updates::write_held` meets its contract. Assumes nothing.
use mathlib.Core.Path.{refl, sym, ◌∙◌}
use Rattle.cells.proofs.SlotLaws.{held_says}
use Rattle.grants.proofs.CaseLaws.{read_goes, read_Absent}
use Rattle.updates.proofs.TestLaws.{writing_by}
use Rattle.updates.proofs.write_held.Goals as goal

pub survey-found-requires : goal.survey-found-requires
survey-found-requires c = record { lent = c.requires.lent; in_slots = (held_says _ _ _ c.requires.is_held).0 }

pub returns-then-wants : goal.returns-then-wants
returns-then-wants c = read_goes _ _ _ (writing_by _ _ _ _) _ _ c.survey-found.ensures c.requires.is_held _ (sym c.wants.ensures ∙ c.if-wants.true) c.write_planned.ensures

pub returns-else-wants : goal.returns-else-wants
returns-else-wants c = read_Absent _ _ _ (writing_by _ _ _ _) _ _ c.survey-found.ensures c.requires.is_held _ (sym c.wants.ensures ∙ c.if-wants.false) refl
