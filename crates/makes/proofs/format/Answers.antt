-- `makes::format` meets its contract: the test of the length is the one before 3, and the rest follows from the outcome. Assumes
-- nothing.
use Rattle.std.proofs.Common.{sym, ◌∙◌, arith}
use Rattle.makes.proofs.FormatLaws.{format_done, formats}
use Rattle.makes.proofs.format.Goals as goal

pub returns : goal.returns
returns c = formats _ _ _ _ _ _ _ (cc c.lay_out.ensures ∙ sym (format_done _ _ _ (sym c.shape.ensures ∙ c.in_ok-z.was) (omega (arith, c.total.ensures, c.if-a-total.false))))
