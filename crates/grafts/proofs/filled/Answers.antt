use Rattle.layout.proofs.SizeLaws.{small}
use Rattle.grafts.proofs.LoadLaws.{none_next}
use native.Mathlib.Omega.{arith}
use Rattle.grafts.proofs.filled.Goals as goal

pub offset_bounds-row-k : goal.offset_bounds-row-k
offset_bounds-row-k c = omega (arith, c.loop-k-test.true, (small _ c.requires.allowed).degree_high)

pub bounds-row-k : goal.bounds-row-k
bounds-row-k c =
    omega (arith, c.loop-k-test.true, (small _ c.requires.allowed).degree_high)

pub loop-k-preserved : goal.loop-k-preserved
loop-k-preserved c =
    let l = c.loop-k in
    λ e. none_next _ _ _ _ e l.invariant
