-- `layout::format::free_cell` meets its contract: two stores and the zeros behind them are one run. Assumes nothing.
use mathlib.Core.Path.{ap, ◌∙◌}
use native.Mathlib.Omega.{arith}
use lib.ListN.{length, length-set}
use lib.Seq.{length-sets}
use Rattle.layout.specs.Blank.{zeros}
use Rattle.layout.proofs.WriteLaws.{two_stores}
use Rattle.layout.proofs.format.free_cell.Goals as goal

pub bounds-a-at-2 : goal.bounds-a-at-2
bounds-a-at-2 c = simp length-set (omega arith)

pub zeros-requires : goal.zeros-requires
zeros-requires c = simp length-set (omega arith)

pub shape_of-a : goal.shape_of-a
shape_of-a c = ap length c.zeros.ensures ∙ simp (length-sets, length-set)

pub returns : goal.returns
returns c =
    let s = c.args in
    c.zeros.ensures ∙ two_stores s.a.now s.at 0 s.next (zeros s.rest)
