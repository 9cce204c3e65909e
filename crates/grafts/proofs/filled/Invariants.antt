-- `grafts::filled` meets its contract: the words that were passed are 0 where all of them together are. Assumes nothing.
use mathlib.Core.Path.{◌≡◌}
use Rattle.cells.specs.Mirrors.{listed}
use Rattle.grafts.specs.Grafts.{NoneFrom}
use Rattle.grafts.proofs.filled.Given as given

abbrev pub invariant-loop-k : given.invariant-loop-k
invariant-loop-k l = l.rest ≡ 0 → NoneFrom l.count l.k (listed l.row)
