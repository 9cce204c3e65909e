-- `chains::take_from` meets its contract. Assumes nothing.
use native.Mathlib.Omega.{arith}
use mathlib.Core.Path.{sym, ◌∙◌}
use Rattle.chains.proofs.StepLaws.{new_names, take_shares, take_ends, take_fails, take_done}
use Rattle.cells.proofs.KeptLaws.{lent_same}
use Rattle.chains.proofs.take_from.Goals as goal

pub returns-then-tail-eq0 : goal.returns-then-tail-eq0
returns-then-tail-eq0 c = take_shares _ _ _ _ _ _ c.if-tail-eq0.true c.share.ensures

pub returns-then-not-is_entry : goal.returns-then-not-is_entry
returns-then-not-is_entry c = take_ends _ _ _ _ _ c.if-tail-eq0.false (sym c.is_entry.ensures ∙ c.if-not-is_entry.true)

pub copy_entry-first-requires : goal.copy_entry-first-requires
copy_entry-first-requires c = record { lent = c.requires; is_entry = sym c.is_entry.ensures ∙ c.if-not-is_entry.false }

pub returns-then-first-eq0 : goal.returns-then-first-eq0
returns-then-first-eq0 c = take_fails _ _ _ _ _ _ (sym c.is_entry.ensures ∙ c.if-not-is_entry.false) c.copy_entry-first.ensures _ c.if-tail-eq0.false c.if-first-eq0.true

pub stand_behind-requires : goal.stand_behind-requires
stand_behind-requires c = record { lent = lent_same (omega (arith, c.copy_entry-first.auto.a)) c.requires; is_entry = new_names _ _ _ _ _ _ c.copy_entry-first.ensures c.if-first-eq0.false }

pub returns : goal.returns
returns c = c.stand_behind.ensures ∙ take_done _ _ _ _ _ _ (sym c.is_entry.ensures ∙ c.if-not-is_entry.false) c.copy_entry-first.ensures _ _ c.if-tail-eq0.false c.if-first-eq0.false c.kid-next.ensures
