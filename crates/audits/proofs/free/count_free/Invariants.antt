-- `audits::free::count_free` meets its contract: the number is that of the free cells among those passed. Assumes nothing.
use mathlib.Core.Path.{◌≡◌}
use Rattle.counts.specs.Counts.{ind, sum_to}
use Rattle.layout.specs.Layout.{reference, number_of_kind}
use Rattle.layout.specs.Columns.{columns}
use Rattle.audits.proofs.free.count_free.Given as given

abbrev pub invariant-loop-i : given.invariant-loop-i
invariant-loop-i l = l.n ≡ sum_to l.i (λ j. ind 0 ((columns l.z l.a).count (reference (number_of_kind l.kind) j)))
