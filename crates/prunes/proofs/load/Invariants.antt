-- `prunes::load` meets its contract: after k turns the first k words are those of the row. Assumes nothing.
use Rattle.layout.specs.Columns.{columns}
use Rattle.prunes.specs.Prunes.{out_at}
use Rattle.grafts.specs.Grafts.{IsRow}
use Rattle.prunes.proofs.load.Given as given

abbrev pub invariant-loop-k : given.invariant-loop-k
invariant-loop-k l = IsRow l.k (out_at l.z (columns l.z l.a) l.r l.at) l.row
