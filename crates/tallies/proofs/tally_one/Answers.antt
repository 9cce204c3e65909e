-- `tallies::tally_one` meets its contract: one more where the reference names a cell, and nothing else. Assumes nothing.
use Prim.Native.Nat.{◌<◌}
use mathlib.Core.Path.{◌≡◌, sym, ◌∙◌}
use mathlib.Core.Bool.{true}
use Rattle.layout.specs.Layout.{names}
use Rattle.tallies.specs.Tallies.{work_words}
use Rattle.tallies.proofs.WorkLaws.{work_below, adds_one, Adds-no_cell}
use native.Mathlib.Omega.{arith}
use Rattle.tallies.proofs.tally_one.Goals as goal

pub offset_bounds-work-i : goal.offset_bounds-work-i
offset_bounds-work-i c =
    let named : names c.args.z c.args.r ≡ true = sym c.is_cell.ensures ∙ c.if-is_cell.true in
    let inside : c.work_at-i.result < work_words c.args.z = omega (arith, c.work_at-i.ensures, work_below c.args.z c.args.r (named)) in
    let k = c.requires.allowed in
    omega (arith, inside, k.few_branches, k.few_entries)

pub bounds-work-i : goal.bounds-work-i
bounds-work-i c =
    let named : names c.args.z c.args.r ≡ true = sym c.is_cell.ensures ∙ c.if-is_cell.true in
    let inside : c.work_at-i.result < work_words c.args.z = omega (arith, c.work_at-i.ensures, work_below c.args.z c.args.r (named)) in
    omega (arith, inside, c.requires.work_fits)

pub bounds-work-i-then-is_cell : goal.bounds-work-i-then-is_cell
bounds-work-i-then-is_cell c =
    let named : names c.args.z c.args.r ≡ true = sym c.is_cell.ensures ∙ c.if-is_cell.true in
    let inside : c.work_at-i.result < work_words c.args.z = omega (arith, c.work_at-i.ensures, work_below c.args.z c.args.r (named)) in
    omega (arith, inside, c.requires.work_fits)

pub returns-then-is_cell : goal.returns-then-is_cell
returns-then-is_cell c =
    let named : names c.args.z c.args.r ≡ true = sym c.is_cell.ensures ∙ c.if-is_cell.true in
    adds_one _ _ _ _ c.work_at-i.ensures (named) c.requires.work_fits

pub returns-else-is_cell : goal.returns-else-is_cell
returns-else-is_cell c = Adds-no_cell _ _ _ (sym c.is_cell.ensures ∙ c.if-is_cell.false)
