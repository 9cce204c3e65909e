use Prim.Native.Nat.{◌<◌}
use mathlib.Core.Path.{sym, ap, ◌∙◌}
use Rattle.layout.specs.Layout.{number_of_kind}
use Rattle.layout.specs.Columns.{columns}
use Rattle.layout.proofs.KindLaws.{kind_low}
use Rattle.layout.proofs.ColumnLaws.{has_low}
use Rattle.lookup.proofs.FindLaws.{kind_says}
use Rattle.audits.proofs.StepLaws.{cell_named}
use Rattle.tallies.specs.Tallies.{work_place, work_words}
use Rattle.tallies.proofs.WorkLaws.{work_below}
use Rattle.tallies.proofs.CountsLaws.{counts_start, counts_on, counts_stop, counts_over}
use native.Mathlib.Omega.{arith}
use Rattle.tallies.proofs.are_counts_of.Goals as goal

pub loop-i-init : goal.loop-i-init
loop-i-init c = counts_start _ _ _ _ _ c.cells_of-i-end.ensures

pub work_at-requires : goal.work_at-requires
work_at-requires c =
    let named = (kind_says _ _ _ (cell_named c.args.z _ _ _ (kind_low c.args.kind) (omega (arith, c.loop-i-test.true, c.cells_of-i-end.ensures)) c.reference-r.ensures)).0 in
    record { allowed = c.requires.lent.allowed; is_cell = named }

pub offset_bounds-work-work_at : goal.offset_bounds-work-work_at
offset_bounds-work-work_at c =
    let named = (kind_says _ _ _ (cell_named c.args.z _ _ _ (kind_low c.args.kind) (omega (arith, c.loop-i-test.true, c.cells_of-i-end.ensures)) c.reference-r.ensures)).0 in
    let inside : c.work_at.result < work_words c.args.z = omega (arith, c.work_at.ensures, work_below _ _ named) in
    let k = c.requires.lent.allowed in
    omega (arith, inside, k.few_branches, k.few_entries)

pub bounds-work-work_at : goal.bounds-work-work_at
bounds-work-work_at c =
    let named = (kind_says _ _ _ (cell_named c.args.z _ _ _ (kind_low c.args.kind) (omega (arith, c.loop-i-test.true, c.cells_of-i-end.ensures)) c.reference-r.ensures)).0 in
    let inside : c.work_at.result < work_words c.args.z = omega (arith, c.work_at.ensures, work_below _ _ named) in
    omega (arith, inside, c.requires.work_fits)

pub word-requires : goal.word-requires
word-requires c =
    let named = (kind_says _ _ _ (cell_named c.args.z _ _ _ (kind_low c.args.kind) (omega (arith, c.loop-i-test.true, c.cells_of-i-end.ensures)) c.reference-r.ensures)).0 in
    record { lent = c.requires.lent; has_word = has_low _ _ _ named (omega arith) }

pub returns-then-work-work_at : goal.returns-then-work-work_at
returns-then-work-work_at c =
    let s = c.args in
    let σ = columns s.z s.a.now in
    let e = c.work_at.ensures ∙ ap (work_place s.z) c.reference-r.ensures in
    let l = c.loop-i in
    let v = c.word.ensures ∙ ap σ.count c.reference-r.ensures in
    sym
    (l.invariant
    ∙ counts_stop s.z σ s.work.now (number_of_kind s.kind) _ l.i _ _ c.loop-i-test.true e v c.if-work-work_at.true)

pub loop-i-preserved : goal.loop-i-preserved
loop-i-preserved c =
    let s = c.args in
    let σ = columns s.z s.a.now in
    let e = c.work_at.ensures ∙ ap (work_place s.z) c.reference-r.ensures in
    let l = c.loop-i in
    let v = c.word.ensures ∙ ap σ.count c.reference-r.ensures in
    l.invariant
    ∙ counts_on s.z σ s.work.now (number_of_kind s.kind) _ l.i _ _ c.loop-i-test.true e v c.if-work-work_at.false

pub returns : goal.returns
returns c =
    let s = c.args in
    let σ = columns s.z s.a.now in
    sym (c.loop-i.invariant ∙ counts_over s.z σ s.work.now (number_of_kind s.kind) _ _ c.loop-i-test.false)
