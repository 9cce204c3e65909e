-- `tallies::tally` meets its contract: zeros, the roots, the children of the branches and the nexts of the entries, one after
-- the other. Assumes nothing.
use Prim.Native.Nat.{◌^◌}
use native.Mathlib.Omega.{arith}
use Rattle.layout.specs.Columns.{columns}
use Rattle.layout.proofs.SizeLaws.{small}
use Rattle.tallies.proofs.WorkLaws.{Works-long}
use Rattle.tallies.proofs.OccLaws.{Works-all, Low-roots, Low-branches}
use Rattle.tallies.proofs.tally.Goals as goal

pub tally_cells-requires : goal.tally_cells-requires
tally_cells-requires c =
    let ok = c.requires.lent.allowed in
    let σ = columns c.args.z c.args.a.now in
    let long = Works-long _ _ _ _ c.tally_roots.ensures (Works-long _ _ _ _ c.clear.ensures c.requires.work_fits) in
    let low = Low-roots _ σ _ _ _ ok (2 ^ 40) (omega arith) c.clear.ensures c.tally_roots.ensures in
    record { lent = c.requires.lent; work_fits = long; low = low; few_kids = (small c.args.z ok).degree_high }

pub tally_cells-requires-2 : goal.tally_cells-requires-2
tally_cells-requires-2 c =
    let σ = columns c.args.z c.args.a.now in
    let first = Works-long _ _ _ _ c.tally_roots.ensures (Works-long _ _ _ _ c.clear.ensures c.requires.work_fits) in
    let long = Works-long c.args.z _ _ _ c.tally_cells.ensures first in
    let low =
    Low-branches _ σ _ _ _ _ c.requires.lent.allowed c.clear.ensures c.tally_roots.ensures c.tally_cells.ensures
    in
    record { lent = c.requires.lent; work_fits = long; low = low; few_kids = omega arith }

pub returns : goal.returns
returns c =
    let d = small c.args.z c.requires.lent.allowed in
    let σ = columns c.args.z c.args.a.now in
    Works-all _ σ _ _ _ _ _ (omega (arith, d.degree_low)) c.clear.ensures c.tally_roots.ensures
    c.tally_cells.ensures c.tally_cells-2.ensures
