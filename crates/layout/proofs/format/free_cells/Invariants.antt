-- `layout::format::free_cells` meets its contract. The loop's invariant: `here` is where cell `i` begins, and the cells from `i` on,
-- stored from `here` on, give what is asked for. Assumes nothing.
use Prim.Native.Nat.{◌+◌, ◌-◌, ◌*◌}
use mathlib.Core.Path.{◌≡◌}
use lib.ListN.{length}
use lib.Seq.{sets}
use Rattle.layout.specs.Layout.{number_of_kind}
use Rattle.layout.specs.Blank.{free_cell_words}
use Rattle.layout.proofs.format.free_cells.Given as given

abbrev pub invariant-loop-i : given.invariant-loop-i
invariant-loop-i l = (l.here ≡ l.at + l.i * (2 + l.rest))
    × (length l.a ≡ length l.initial.a)
    × (sets l.a l.here (free_cell_words (number_of_kind l.kind) l.rest l.i (l.n - l.i)) ≡ sets l.initial.a l.at (free_cell_words (number_of_kind l.kind) l.rest 0 l.n))
