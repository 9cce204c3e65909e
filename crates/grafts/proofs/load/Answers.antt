-- `grafts::load` meets its contract: a branch's children part by part, an entry as its own only child. Assumes nothing.
use mathlib.Core.Path.{refl, sym, ◌∙◌}
use Rattle.layout.specs.Columns.{columns}
use Rattle.grafts.specs.Grafts.{kid_row}
use Rattle.grafts.proofs.StepLaws.{row_entry, row_beyond, row_none}
use Rattle.grafts.proofs.LoadLaws.{one_before, one_behind, one_left_out, none_row}
use native.Mathlib.Omega.{arith}
use Rattle.grafts.proofs.load.Goals as goal

pub returns-then-at-ne0 : goal.returns-then-at-ne0
returns-then-at-ne0 c =
    let σ = columns c.args.z c.args.a.now in
    let other = sym c.is_branch.ensures ∙ c.if-is_branch.false in
    one_before (kid_row c.args.z σ c.args.r) _ _ _ _ c.requires.blank (λ k nz. row_beyond _ σ _ k other nz) _ c.requires.small_gap c.if-at-ne0.true
    (row_entry _ σ _ 0 other (sym c.is_entry.ensures ∙ c.if-is_entry.true) refl)

pub returns-then-gap-eq1 : goal.returns-then-gap-eq1
returns-then-gap-eq1 c =
    let σ = columns c.args.z c.args.a.now in
    let other = sym c.is_branch.ensures ∙ c.if-is_branch.false in
    one_behind (kid_row c.args.z σ c.args.r) _ _ _ _ c.requires.blank (λ k nz. row_beyond _ σ _ k other nz) _ c.if-at-ne0.false c.if-gap-eq1.true
    (row_entry _ σ _ 0 other (sym c.is_entry.ensures ∙ c.if-is_entry.true) refl)

pub returns-else-gap-eq1 : goal.returns-else-gap-eq1
returns-else-gap-eq1 c =
    let σ = columns c.args.z c.args.a.now in
    let other = sym c.is_branch.ensures ∙ c.if-is_branch.false in
    one_left_out (kid_row c.args.z σ c.args.r) _ _ _ _ c.requires.blank (λ k nz. row_beyond _ σ _ k other nz) c.if-at-ne0.false
    (omega (arith, c.if-gap-eq1.false, c.requires.small_gap))

pub returns-else-is_entry : goal.returns-else-is_entry
returns-else-is_entry c =
    let σ = columns c.args.z c.args.a.now in
    let other = sym c.is_branch.ensures ∙ c.if-is_branch.false in
    none_row (kid_row c.args.z σ c.args.r) _ _ _ _ c.requires.blank
    (λ k. row_none _ σ _ k other (sym c.is_entry.ensures ∙ c.if-is_entry.false))
