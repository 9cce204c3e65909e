-- `audits::branches::are_right` meets its contract: what is left of the branches decides as all do. Assumes nothing.
use Prim.Native.Nat.{◌-◌}
use mathlib.Core.Path.{◌≡◌}
use Rattle.layout.specs.Layout.{reference}
use Rattle.layout.specs.Columns.{columns}
use Rattle.audits.specs.Audits.{all_from, branch_right, branches_right}
use Rattle.audits.proofs.branches.are_right.Given as given

abbrev pub invariant-loop-i : given.invariant-loop-i
invariant-loop-i l = branches_right l.z (columns l.z l.a) ≡ all_from (λ j. branch_right l.z (columns l.z l.a) (reference 0 j)) l.i (l.z.branches - l.i)
