-- `levels::read_row` meets its contract: what is left of the row, from the child at hand on, comes to what the whole row comes to.
-- Assumes nothing.
use Rattle.std.proofs.Common.{◌≡◌, suc, ◌-◌, ◌^◌, ◌<◌, ◌≤◌}
use Rattle.layout.specs.Columns.{columns}
use Rattle.levels.specs.Levels.{row_from, see_at}
use Rattle.levels.proofs.read_row.Given as given

abbrev pub invariant-loop-k : given.invariant-loop-k
invariant-loop-k l = record {
  same : row_from (see_at l.z (columns l.z l.a) (suc l.depth)) l.z (columns l.z l.a) l.depth l.r l.lead l.z.degree 0 0 0 0
      ≡ row_from (see_at l.z (columns l.z l.a) (suc l.depth)) l.z (columns l.z l.a) l.depth l.r l.lead (l.z.degree - l.k) l.k l.low l.bits l.size;
  bits_below : l.bits < 2 ^ l.low;
  low_fits : l.low ≤ 64;
  size_fits : l.size ≤ l.z.entries;
}
