-- `levels::are_slots_right` meets its contract: what is left of the slots decides as all do. Assumes nothing.
use Rattle.std.proofs.Common.{◌≡◌, ◌-◌}
use Rattle.layout.specs.Columns.{columns}
use Rattle.audits.specs.Audits.{all_from}
use Rattle.levels.specs.Levels.{slot_right, slots_right}
use Rattle.levels.proofs.are_slots_right.Given as given

abbrev pub invariant-loop-s : given.invariant-loop-s
invariant-loop-s l = slots_right l.z (columns l.z l.a) ≡ all_from (slot_right l.z (columns l.z l.a)) l.s (l.z.slots - l.s)
