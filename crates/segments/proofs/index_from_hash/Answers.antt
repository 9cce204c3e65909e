-- `segments::index_from_hash` meets its contract: each arm is one of the laws of `index_of`, at the row that `degree_row` answered.
-- Assumes nothing.
use Rattle.std.proofs.Common.{sym, ap, ◌∙◌}
use Rattle.segments.specs.declared.Index.TheVariants.{At}
use Rattle.segments.proofs.IndexLaws.{found_right, shift_below, index_at, index_Exhausted, index_no_degree}
use Rattle.segments.proofs.index_from_hash.Goals as goal

pub segment_at-requires : goal.segment_at-requires
segment_at-requires c =
    let found = sym c.degree_row.ensures ∙ c.in-Some.is in
    (shift_below _ _ _ _ found _ c.if-depth-row.true, (found_right _ _ _ _ found).few_bits)

pub returns-then-depth-row : goal.returns-then-depth-row
returns-then-depth-row c =
    let found = sym c.degree_row.ensures ∙ c.in-Some.is in
    ap At c.segment_at.ensures ∙ sym (index_at _ _ _ _ found _ _ c.if-depth-row.true)

pub returns-else-depth-row : goal.returns-else-depth-row
returns-else-depth-row c =
    let found = sym c.degree_row.ensures ∙ c.in-Some.is in
    sym (index_Exhausted _ _ _ _ found _ _ c.if-depth-row.false)

pub returns-in_default : goal.returns-in_default
returns-in_default c = sym (index_no_degree _ _ _ (sym c.degree_row.ensures ∙ c.in_default.is))
