-- `tallies::tally_cells` meets its contract. The loop's invariant: the first `i` cells are tallied. Assumes nothing.
use Prim.Native.Nat.{ℕ}
use mathlib.Core.List.{List}
use Rattle.counts.specs.Counts.{sum_to, times}
use Rattle.layout.specs.declared.Shape.{Shape}
use Rattle.layout.specs.Layout.{reference, number_of_kind}
use Rattle.layout.specs.Columns.{columns}
use Rattle.tallies.specs.Tallies.{Adds}
use Rattle.tallies.proofs.tally_cells.Given as given

-- what is added for each cell
abbrev pub held : Shape → List ℕ → ℕ → ℕ → ℕ → ℕ → ℕ
held z a kind kids q j = times kids ((columns z a).kid (reference kind j)) q

abbrev pub invariant-loop-i : given.invariant-loop-i
invariant-loop-i l = Adds l.z (λ q. sum_to l.i (held l.z l.a (number_of_kind l.kind) l.kids q)) l.initial.work l.work
