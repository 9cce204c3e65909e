use Prim.Native.Nat.{ℕ, ◌^◌, ◌≤◌, ◌<◌}
use mathlib.Core.Path.{refl, sym}
use Rattle.layout.specs.Layout.{reference, number_of_kind}
use Rattle.layout.specs.Columns.{columns}
use Rattle.layout.proofs.OffsetLaws.{cells_few}
use Rattle.tallies.proofs.WorkLaws.{Adds-none_yet, Adds-next, cells_low, Works-long}
use native.Mathlib.Omega.{arith}
use Rattle.tallies.proofs.tally_cells.Invariants.{held}
use Rattle.tallies.proofs.tally_cells.Goals as goal

pub loop-i-init : goal.loop-i-init
loop-i-init c =
    let s = c.args in
    Adds-none_yet s.z (held s.z s.a.now (number_of_kind s.kind) s.kids) s.work.now

pub tally_cell-requires : goal.tally_cell-requires
tally_cell-requires c =
    let few : c.loop-i.i < 4194304 = let w = cells_few c.args.z (number_of_kind c.args.kind) c.requires.lent.allowed in
    omega (arith, c.loop-i-test.true, c.cells_of-i-end.ensures, w) in
    let s = c.args in
    let l = c.loop-i in
    let f : ℕ → ℕ → ℕ = λ j. (columns s.z s.a.now).kid (reference (number_of_kind s.kind) j) in
    let i : l.i ≤ 4194304 = omega (arith, few) in
    let few_kids = c.requires.few_kids in
    let low =
    cells_low s.z f l.i s.kids (2 ^ 40) (2 ^ 50) s.work.now l.work c.requires.low l.invariant i few_kids
    (omega arith)
    in
    record { lent = c.requires.lent; work_fits = Works-long s.z _ _ _ l.invariant c.requires.work_fits; low = low; few_kids = few_kids }

pub loop-i-preserved : goal.loop-i-preserved
loop-i-preserved c =
    let s = c.args in
    let l = c.loop-i in
    Adds-next s.z (held s.z s.a.now (number_of_kind s.kind) s.kids) _ l.i s.work.now l.work _ l.invariant
    (rw (sym c.reference.ensures) c.tally_cell.ensures) (λ q. refl)
