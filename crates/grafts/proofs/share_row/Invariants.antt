-- `grafts::share_row` meets its contract: after k turns the first k references are shared. Assumes nothing.
use mathlib.Core.Path.{◌≡◌}
use Rattle.cells.specs.Mirrors.{listed}
use Rattle.grafts.specs.Grafts.{row_shared}
use Rattle.grafts.proofs.share_row.Given as given

abbrev pub invariant-loop-k : given.invariant-loop-k
invariant-loop-k l = l.a ≡ row_shared l.z (listed l.row) l.k l.initial.a
