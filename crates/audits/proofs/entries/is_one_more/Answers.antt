-- `audits::entries::is_one_more` meets its contract: the difference is taken where there is one. Assumes nothing.
use borrow.Author.Tests.{lt-ltb, le-ltb}
use Rattle.audits.specs.Audits.{one_more}
use Rattle.audits.proofs.entries.is_one_more.Goals as goal

pub returns-then-n-m : goal.returns-then-n-m
unfolding one_more
returns-then-n-m c = rw (lt-ltb _ _ c.if-n-m.true)

pub returns-else-n-m : goal.returns-else-n-m
unfolding one_more
returns-else-n-m c = rw (le-ltb _ _ c.if-n-m.false)
