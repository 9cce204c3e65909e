-- `grafts::load_branch` meets its contract: after k turns the first k words are those of the row, but for the place of the new
-- child, which is cleared at the end. Assumes nothing.
use Rattle.layout.specs.Columns.{columns}
use Rattle.grafts.specs.Grafts.{kid_row}
use Rattle.grafts.proofs.LoadLaws.{RowBut}
use Rattle.grafts.proofs.load_branch.Given as given

abbrev pub invariant-loop-k : given.invariant-loop-k
invariant-loop-k l = RowBut (kid_row l.z (columns l.z l.a) l.r) l.at l.gap l.k l.row
