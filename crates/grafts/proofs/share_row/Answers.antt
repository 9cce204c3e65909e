use Rattle.layout.proofs.SizeLaws.{small}
use Rattle.grafts.proofs.StepLaws.{share_none_yet, share_next}
use native.Mathlib.Omega.{arith}
use Rattle.grafts.proofs.share_row.Goals as goal

pub loop-k-init : goal.loop-k-init
loop-k-init c = share_none_yet _ _ _

pub bounds-row-k : goal.bounds-row-k
bounds-row-k c =
    omega (arith, c.loop-k-test.true, c.requires.in_row, (small _ c.requires.lent.allowed).degree_high)

pub loop-k-preserved : goal.loop-k-preserved
loop-k-preserved c =
    share_next _ _ _ _ _ _ c.loop-k.invariant c.share_by.ensures
