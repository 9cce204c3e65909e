-- `layout::format::lay_out` meets its contract: each part begins where the one before it ends, so that the four runs are one.
-- Assumes nothing.
use native.Mathlib.Omega.{arith}
use Rattle.layout.proofs.SizeLaws.{small}
use Rattle.layout.proofs.WriteLaws.{blank_stored}
use Rattle.layout.proofs.format.lay_out.Goals as goal

pub overflow_add-z : goal.overflow_add-z
overflow_add-z c = omega (arith, small _ c.requires.allowed)

pub returns : goal.returns
returns c =
    blank_stored c.args.z c.args.a.now c.requires.long _ _ _ _ _ _ c.write_header.ensures
    c.zeros.ensures c.at_branches.ensures c.free_cells.ensures
    c.at_entries.ensures c.free_cells-2.ensures
