use Prim.Native.Nat.{ℕ, ◌-◌}
use mathlib.Core.Path.{ap, ◌∙◌}
use Rattle.layout.specs.Columns.{columns}
use Rattle.layout.proofs.SizeLaws.{small}
use Rattle.grafts.specs.Grafts.{kid_row}
use Rattle.grafts.proofs.LoadLaws.{has_child, child_is, rise_low, RowBut-next, RowBut-all}
use native.Mathlib.Omega.{arith}
use Rattle.grafts.proofs.load_branch.Goals as goal

pub word-requires : goal.word-requires
word-requires c =
    record { lent = c.requires.lent; has_word = has_child _ _ _ _ c.requires.is_branch (omega (arith, c.rise.ensures, rise_low c.args.at c.args.gap c.loop-k.k c.requires.small_gap)) c.loop-k-test.true }

pub bounds-row-k : goal.bounds-row-k
bounds-row-k c = omega (arith, c.loop-k-test.true, (small _ c.requires.lent.allowed).degree_high)

pub loop-k-preserved : goal.loop-k-preserved
loop-k-preserved c =
    let l = c.loop-k in
    let u = c.rise.ensures in
    let f = kid_row c.args.z (columns c.args.z c.args.a.now) c.args.r in
    RowBut-next f _ _ l.k _ l.row
    (omega (arith, c.loop-k-test.true, (small _ c.requires.lent.allowed).degree_high))
    (c.word.ensures
    ∙ child_is _ _ _ _ c.requires.is_branch (omega (arith, u, rise_low c.args.at c.args.gap l.k c.requires.small_gap)) c.loop-k-test.true _ c.requires.lent
    ∙ ap (λ (x : ℕ). f (l.k - x)) u)
    l.invariant

pub bounds-row-at : goal.bounds-row-at
bounds-row-at c = omega (arith, c.requires.in_row, (small _ c.requires.lent.allowed).degree_high)

pub returns : goal.returns
returns c =
    let l = c.loop-k in
    RowBut-all (kid_row c.args.z (columns c.args.z c.args.a.now) c.args.r) _ _ l.k _ l.row (omega (arith, c.loop-k-test.false))
    (omega (arith, c.requires.in_row, (small _ c.requires.lent.allowed).degree_high)) l.invariant
