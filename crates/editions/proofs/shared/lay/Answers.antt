-- `editions::shared::lay` meets what `lay_in` requires: a header that is right says that the slice is long enough for
-- its shape.
-- Assumes nothing.
use Rattle.std.proofs.Common.{sym, ◌∙◌}
use Rattle.layout.proofs.HeaderLaws.{header_Lent}
use Rattle.editions.proofs.shared.lay.Goals as goal

pub lay_in-requires : goal.lay_in-requires
lay_in-requires g c = header_Lent _ _ (sym c.read.ensures ∙ c.in-Some.is)
