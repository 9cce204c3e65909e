-- `updates::write_edition` meets its contract. Assumes nothing.
use mathlib.Core.Path.{sym, ◌∙◌}
use Rattle.grants.proofs.CaseLaws.{update_not_held}
use Rattle.updates.proofs.write_edition.Goals as goal

pub write_held-requires : goal.write_held-requires
write_held-requires c = record { lent = c.requires; is_held = sym c.is_held.ensures ∙ c.if-is_held.true }

pub returns-else-is_held : goal.returns-else-is_held
returns-else-is_held c = sym (update_not_held _ _ _ _ (sym c.is_held.ensures ∙ c.if-is_held.false))
