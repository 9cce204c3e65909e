-- `tallies::tally_cell` meets its contract. The loop's invariant: the first `k` references are tallied. Assumes nothing.
use Rattle.counts.specs.Counts.{times}
use Rattle.layout.specs.Columns.{columns}
use Rattle.tallies.specs.Tallies.{Adds}
use Rattle.tallies.proofs.tally_cell.Given as given

abbrev pub invariant-loop-k : given.invariant-loop-k
invariant-loop-k l = Adds l.z (times l.k ((columns l.z l.a).kid l.r)) l.initial.work l.work
