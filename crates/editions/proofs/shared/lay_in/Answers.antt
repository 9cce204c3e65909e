-- `editions::shared::lay_in` meets what the writers of cells require: the two tests before the entry is filled say that
-- what was taken names an entry cell.
-- Assumes nothing.
use Rattle.std.proofs.Common.{sym, ◌∙◌, rules}
use Rattle.editions.proofs.shared.lay_in.Goals as goal

pub fill_entry-requires : goal.fill_entry-requires
fill_entry-requires c = record { lent = search rules; is_entry = (sym c.is_cell.ensures ∙ c.if-is_cell.true, sym c.in-Entry.ensures) }
