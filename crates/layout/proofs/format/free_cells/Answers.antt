use Prim.Native.Nat.{ℕ, ◌+◌, ◌-◌, ◌*◌, ◌≤◌, ◌<◌}
use mathlib.Core.Path.{◌≡◌, sym, ap, ◌∙◌}
use native.Mathlib.Omega.{arith}
use native.Mathlib.Nat.{add-mul}
use lib.ListN.{length}
use lib.Seq.{length-sets}
use borrow.Author.Rules.{rules}
use Rattle.layout.specs.Layout.{number_of_kind}
use Rattle.layout.proofs.OffsetLaws.{place_lt}
use Rattle.layout.proofs.WriteLaws.{cells_first, cells_none}
use Rattle.layout.proofs.format.free_cells.Goals as goal

-- a cell that is still to be written lies before the end
cell-fits : (at rest n i here : ℕ) → i < n → here ≡ at + i * (2 + rest) → here + (2 + rest) ≤ at + n * (2 + rest)
cell-fits at rest n i here l e = omega (arith, place_lt (2 + rest) n i (1 + rest) l (omega arith))

pub loop-i-init : goal.loop-i-init
loop-i-init c =
    let s = c.args in
    let e : s.n - 0 ≡ s.n = omega arith in
    (search rules, search rules, rw e)

pub free_cell-requires : goal.free_cell-requires
free_cell-requires c =
    let s = c.args in
    let l = c.loop-i in
    omega (arith, cell-fits s.at s.rest s.n l.i l.here (omega arith) l.invariant.0)

pub overflow_add-here : goal.overflow_add-here
overflow_add-here c =
    let next_fits : let s = c.args in c.loop-i.here + (2 + s.rest) ≤ s.at + s.n * (2 + s.rest) = let s = c.args in
    let l = c.loop-i in
    cell-fits s.at s.rest s.n l.i l.here (omega arith) l.invariant.0 in
    omega (arith, next_fits)

pub overflow_add-here-in-loop-i : goal.overflow_add-here-in-loop-i
overflow_add-here-in-loop-i c =
    let next_fits : let s = c.args in c.loop-i.here + (2 + s.rest) ≤ s.at + s.n * (2 + s.rest) = let s = c.args in
    let l = c.loop-i in
    cell-fits s.at s.rest s.n l.i l.here (omega arith) l.invariant.0 in
    omega (arith, next_fits)

pub loop-i-preserved : goal.loop-i-preserved
loop-i-preserved c =
    let s = c.args in
    let l = c.loop-i in
    let e = c.free_cell.ensures in (
      omega (arith, add-mul l.i 1 (2 + s.rest)),
      ap length e ∙ simp length-sets l.invariant.1,
      cells_first (number_of_kind s.kind) s.rest l.a l.here l.i s.n _ _ (omega arith) c.next_free.ensures e ∙ l.invariant.2,
    )

pub shape_of-a : goal.shape_of-a
shape_of-a c = c.loop-i.invariant.1

pub returns : goal.returns
returns c =
    let s = c.args in
    let l = c.loop-i in
    sym (cells_none (number_of_kind s.kind) s.rest l.a l.here l.i s.n (omega arith)) ∙ l.invariant.2
