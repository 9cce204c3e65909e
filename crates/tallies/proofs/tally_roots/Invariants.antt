-- `tallies::tally_roots` meets its contract. The loop's invariant: the roots of the first `s` slots are tallied. Assumes
-- nothing.
use Rattle.counts.specs.Counts.{times}
use Rattle.layout.specs.Columns.{columns}
use Rattle.tallies.specs.Tallies.{Adds}
use Rattle.tallies.proofs.tally_roots.Given as given

abbrev pub invariant-loop-s : given.invariant-loop-s
invariant-loop-s l = Adds l.z (times l.s (columns l.z l.a).root) l.initial.work l.work
