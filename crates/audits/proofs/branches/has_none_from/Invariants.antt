-- `audits::branches::has_none_from` meets its contract: what is left of the row decides as the whole does. Assumes nothing.
use Prim.Native.Nat.{◌-◌}
use mathlib.Core.Path.{◌≡◌}
use Rattle.layout.specs.Columns.{columns}
use Rattle.audits.specs.Audits.{none_from}
use Rattle.audits.proofs.branches.has_none_from.Given as given

abbrev pub invariant-loop-k : given.invariant-loop-k
invariant-loop-k l = none_from ((columns l.z l.a).kid l.r) l.from (l.z.degree - l.from) ≡ none_from ((columns l.z l.a).kid l.r) l.k (l.z.degree - l.k)
