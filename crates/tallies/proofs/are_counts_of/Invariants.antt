-- `tallies::are_counts_of` meets its contract: what is left of the test says what the whole test says. Assumes nothing.
use Prim.Native.Nat.{◌-◌}
use mathlib.Core.Path.{◌≡◌}
use Rattle.layout.specs.Layout.{number_of_kind}
use Rattle.layout.specs.Columns.{columns}
use Rattle.audits.specs.Audits.{all_from}
use Rattle.tallies.specs.Tallies.{counts_of}
use Rattle.tallies.proofs.CountsLaws.{count_is}
use Rattle.tallies.proofs.are_counts_of.Given as given

abbrev pub invariant-loop-i : given.invariant-loop-i
invariant-loop-i l = counts_of l.z (columns l.z l.a) l.work (number_of_kind l.kind) ≡ all_from (count_is l.z (columns l.z l.a) l.work (number_of_kind l.kind)) l.i (l.i-end - l.i)
