-- `audits::free::is_right` meets its contract: the word for the cells in use comes first, then the chain. Assumes nothing.
use mathlib.Core.Path.{sym}
use native.Mathlib.Omega.{arith}
use Rattle.layout.specs.Layout.{number_of_kind, cells_of}
use Rattle.layout.specs.Columns.{columns}
use Rattle.audits.proofs.StepLaws.{few_free, chain_wrong, chain_walk}
use Rattle.audits.proofs.free.is_right.Goals as goal

pub overflow_sub-cells_of : goal.overflow_sub-cells_of
overflow_sub-cells_of c =
    let s = c.args in
    let most = few_free (columns s.z s.a.now) (number_of_kind s.kind) (cells_of s.z (number_of_kind s.kind)) in
    omega (arith, most, c.cells_of.ensures, c.count_free-n.ensures)

pub returns-then-kind_word-cells_of : goal.returns-then-kind_word-cells_of
returns-then-kind_word-cells_of c =
    sym (chain_wrong _ _ _ _ _ _ c.kind_word.ensures c.cells_of.ensures
    c.count_free-n.ensures c.if-kind_word-cells_of.true)

pub returns : goal.returns
returns c =
    chain_walk _ _ _ _ _ _ c.kind_word.ensures
    c.cells_of.ensures
    c.count_free-n.ensures _ _ c.if-kind_word-cells_of.false
    c.kind_word-2.ensures c.ends_after.ensures
