-- `audits::entries::is_linked` meets its contract: an entry is its chain's last, or has a next that may stand there. Assumes
-- nothing.
use native.Mathlib.Omega.{arith}
use Rattle.lookup.proofs.FindLaws.{has_part}
use Rattle.audits.proofs.StepLaws.{linked_last, linked_next}
use Rattle.audits.proofs.entries.is_linked.Goals as goal

pub word-requires : goal.word-requires
word-requires c = record { lent = c.requires.lent; has_word = has_part _ _ _ c.requires.is_entry (omega arith) }

pub returns-then-next-eq0 : goal.returns-then-next-eq0
returns-then-next-eq0 c = linked_last _ _ _ _ c.kid-next.ensures _ c.if-next-eq0.true c.word.ensures

pub returns : goal.returns
returns c = linked_next _ _ _ _ c.kid-next.ensures _ c.if-next-eq0.false c.is_linked_to.ensures
