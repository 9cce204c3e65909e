-- `layout::header::read` meets its contract: 12 words are there before any is read, and the tests are those of `header_of`.
-- Assumes nothing.
use Rattle.layout.specs.Header.{header_of}
use borrow.Author.Tests.{le-leb, lt-leb, eq-eqb, ne_eqb}
use Rattle.layout.proofs.header.read.Goals as goal

pub returns-then-a-lt12 : goal.returns-then-a-lt12
unfolding header_of
returns-then-a-lt12 c = simp (lt-leb _ _ c.if-a-lt12.true)

pub returns-then-a-ne-LAYOUT : goal.returns-then-a-ne-LAYOUT
unfolding header_of
returns-then-a-ne-LAYOUT c = simp (le-leb _ _ c.if-a-lt12.false, ne_eqb _ _ c.if-a-ne-LAYOUT.true)

pub returns : goal.returns
unfolding header_of
returns c = simp (le-leb _ _ c.if-a-lt12.false, eq-eqb _ _ c.if-a-ne-LAYOUT.false) c.right.ensures
