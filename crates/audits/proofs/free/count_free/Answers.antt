use Prim.Native.Nat.{◌<◌}
use native.Mathlib.Omega.{arith}
use Rattle.layout.specs.Layout.{number_of_kind}
use Rattle.layout.proofs.KindLaws.{kind_low}
use Rattle.layout.specs.Columns.{columns}
use Rattle.layout.proofs.OffsetLaws.{cells_few}
use Rattle.layout.proofs.ColumnLaws.{has_low}
use Rattle.lookup.proofs.FindLaws.{kind_says}
use Rattle.audits.proofs.StepLaws.{cell_named, few_free, count_free, count_used}
use Rattle.audits.proofs.free.count_free.Goals as goal
use Rattle.audits.proofs.free.count_free.Goals.{then-word-eq0, else-word-eq0}

pub word-requires-clause-has_word : goal.word-requires-clause-has_word
word-requires-clause-has_word c =
    let named
    = cell_named c.args.z _ c.loop-i.i _ (kind_low c.args.kind)
    (omega (arith, c.loop-i-test, c.cells_of-i-end.ensures)) c.reference.ensures in
    has_low _ _ _ (kind_says _ _ _ named).0 (omega arith)

pub overflow_add-n : goal.overflow_add-n
overflow_add-n c =
    let few : c.loop-i.i < 4194304 = omega (
      arith,
      c.loop-i-test,
      c.cells_of-i-end.ensures,
      cells_few c.args.z (number_of_kind c.args.kind)
          c.requires.allowed,
    ) in
    let s = c.args in
    let l = c.loop-i in
    omega (arith, few, l.invariant, few_free (columns s.z s.a.now) (number_of_kind s.kind) l.i)

pub loop-i-preserved : goal.loop-i-preserved
loop-i-preserved c =
    let s = c.args in
    let σ = columns s.z s.a.now in
    let l = c.loop-i in
    elim c.if-word-eq0.branch [
      | then-word-eq0 w ↦ count_free σ (number_of_kind s.kind) l.i _ _ _ c.reference.ensures c.word.ensures l.invariant _ w.if-word-eq0.true w.n-is
      | else-word-eq0 w ↦ count_used σ (number_of_kind s.kind) l.i _ _ _ c.reference.ensures c.word.ensures l.invariant _ w.if-word-eq0.false w.n-is
    ]
