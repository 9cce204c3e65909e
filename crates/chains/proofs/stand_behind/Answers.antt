-- `chains::stand_behind` meets its contract. Assumes nothing.
use native.Mathlib.Omega.{arith}
use Rattle.chains.proofs.StepLaws.{entry_refs, on_names, stand_fails, stand_done}
use Rattle.cells.proofs.KeptLaws.{lent_same}
use Rattle.chains.proofs.stand_behind.Goals as goal

pub returns-then-last-eq0 : goal.returns-then-last-eq0
returns-then-last-eq0 c = stand_fails _ _ _ _ _ _ _ _ c.copy_on-last.ensures c.if-last-eq0.true

pub share-requires : goal.share-requires
share-requires c = lent_same (omega (arith, c.copy_on-last.auto.a)) c.requires.lent

pub put_in-requires : goal.put_in-requires
put_in-requires c = record { lent = lent_same (omega (arith, c.share.auto.a, c.copy_on-last.auto.a)) c.requires.lent; has_ref = entry_refs _ c.requires.lent (on_names _ _ _ _ _ _ _ c.requires.is_entry c.copy_on-last.ensures c.if-last-eq0.false) }

pub returns : goal.returns
returns c = stand_done _ _ _ _ _ _ _ _ c.copy_on-last.ensures _ _ c.if-last-eq0.false c.share.ensures c.put_in.ensures
