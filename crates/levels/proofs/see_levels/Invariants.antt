-- `levels::see_levels` meets its contract: the levels from the depth at hand on are seen. Assumes nothing.
use Rattle.std.proofs.Common.{◌≡◌}
use Rattle.layout.specs.Columns.{columns}
use Rattle.levels.specs.Levels.{levels_seen, Known, OnlyBranches}
use Rattle.levels.proofs.see_levels.Given as given

abbrev pub invariant-loop-depth : given.invariant-loop-depth
invariant-loop-depth l = record {
  same : levels_seen l.z (columns l.z l.a) l.z.depths ≡ levels_seen l.z (columns l.z l.a) l.depth;
  known : Known l.z l.a l.depth l.work;
  only : OnlyBranches l.z l.initial.work l.work;
}
