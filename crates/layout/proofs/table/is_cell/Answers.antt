-- `layout::table::is_cell` meets its contract: its tests are those of `names`. Assumes nothing.
use Rattle.layout.specs.Layout.{names}
use Rattle.layout.proofs.TableLaws.{cells_picked}
use mathlib.Core.Path.{ap}
use lib.ListN.{length}
use borrow.Author.Tests.{lt-ltb, le-ltb}
use native.Mathlib.Omega.{arith}
use Rattle.layout.proofs.table.is_cell.Goals as goal

pub returns-then-r-lt2 : goal.returns-then-r-lt2
unfolding names
returns-then-r-lt2 c = simp (lt-ltb _ _ c.if-r-lt2.true)

pub picked-requires : goal.picked-requires
picked-requires c = (ap length c.requires, omega arith)

pub returns : goal.returns
unfolding names
returns c = simp (le-ltb _ _ c.if-r-lt2.false, c.picked.ensures, cells_picked _ _ c.args.r c.requires)
