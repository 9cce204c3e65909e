-- `cells::fill::fill_row` meets its contract: after k turns the first k words of the row are written. Assumes nothing.
use mathlib.Core.Path.{◌≡◌}
use Rattle.cells.specs.Mirrors.{listed, row_words}
use Rattle.cells.proofs.fill.fill_row.Given as given

abbrev pub invariant-loop-k : given.invariant-loop-k
invariant-loop-k l = l.a ≡ row_words l.z l.r (listed l.row) l.k l.initial.a
