-- `levels::see` meets its contract: the cell is tested for its kind and its use, and what is kept of a branch is what it is.
-- Assumes nothing.
use Rattle.std.proofs.Common.{sym, refl, ◌∙◌, arith}
use Rattle.layout.proofs.ColumnLaws.{has_low}
use Rattle.lookup.proofs.FindLaws.{kind_is}
use Rattle.levels.proofs.CaseLaws.{see_none, see_free, see_entry}
use Rattle.levels.proofs.see.Goals as goal

pub returns-then-not-is_cell : goal.returns-then-not-is_cell
returns-then-not-is_cell c = sym (see_none _ _ _ _ _ (sym c.is_cell.ensures ∙ c.if-not-is_cell.true))

pub word-requires : goal.word-requires
word-requires c =
    record { lent = c.requires.lent; has_word = has_low _ _ _ (sym c.is_cell.ensures ∙ c.if-not-is_cell.false) (omega arith) }

pub returns-then-word-eq0 : goal.returns-then-word-eq0
returns-then-word-eq0 c = sym (see_free _ _ _ _ _ (sym c.word.ensures ∙ c.if-word-eq0.true))

pub see_kept-requires-clause-is_branch : goal.see_kept-requires-clause-is_branch
see_kept-requires-clause-is_branch c =
    kind_is _ _ _ (sym c.is_cell.ensures ∙ c.if-not-is_cell.false) (sym c.in-Branch.ensures)

pub see_kept-requires-clause-is_in_use : goal.see_kept-requires-clause-is_in_use
see_kept-requires-clause-is_in_use c = omega (arith, c.word.ensures, c.if-word-eq0.false)

pub see_entry-requires : goal.see_entry-requires
see_entry-requires c =
    record {
      lent = c.requires.lent;
      is_entry = kind_is _ _ _ (sym c.is_cell.ensures ∙ c.if-not-is_cell.false) (sym c.in-Entry.ensures);
    }

pub returns-in-Entry : goal.returns-in-Entry
returns-in-Entry c =
    c.see_entry.ensures
    ∙ sym
    (see_entry _ _ _ _ (sym c.is_cell.ensures ∙ c.if-not-is_cell.false) c.word.ensures
    c.if-word-eq0.false _ _ (sym c.in-Entry.ensures))
