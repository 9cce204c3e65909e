-- `segments::degree_row` meets its contract: a degree of the table is a power of two whose exponent is its bits, and the columns have
-- the rest of the row. Assumes nothing.
use Rattle.std.proofs.Common.{sym, refl, ap, ◌∙◌, inl, inr, arith}
use Rattle.segments.specs.Segments.{row_of}
use Rattle.std.proofs.lemmas.Nat.{one_shl}
use Rattle.segments.proofs.RowLaws.{row_by_bits, no_row}
use Rattle.segments.proofs.degree_row.Goals as goal

pub returns-then-bits-eq0 : goal.returns-then-bits-eq0
returns-then-bits-eq0 c = no_row c.args.degree _ refl (inl c.if-bits-eq0.true)

pub returns-then-bits-gt6 : goal.returns-then-bits-gt6
returns-then-bits-gt6 c = no_row c.args.degree _ refl (inr (inl c.if-bits-gt6.true))

pub returns-then-degree-bits : goal.returns-then-degree-bits
returns-then-degree-bits c = no_row c.args.degree _ refl (inr (inr (λ q. c.if-degree-bits.true (q ∙ sym (one_shl _ 64 (omega (arith, c.if-bits-gt6.false)))))))

pub returns : goal.returns
returns c = rw (c.column.ensures, c.column-2.ensures) (row_by_bits _ c.if-bits-eq0.false (omega (arith, c.if-bits-gt6.false))) ∙ ap row_of (sym (c.if-degree-bits.false ∙ one_shl _ 64 (omega (arith, c.if-bits-gt6.false))))
