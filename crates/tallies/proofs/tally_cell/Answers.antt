use Prim.Native.Nat.{ℕ, ◌^◌, ◌≤◌}
use mathlib.Core.Path.{ap}
use mathlib.Core.List.{List}
use Rattle.counts.specs.Counts.{ind}
use Rattle.layout.specs.declared.Shape.{Shape}
use Rattle.layout.specs.Columns.{columns}
use Rattle.tallies.proofs.WorkLaws.{Adds-none_yet, Adds-next, times-Low, Works-long}
use native.Mathlib.Omega.{arith}
use Rattle.tallies.proofs.tally_cell.Goals as goal

-- what is added for each reference
abbrev one : Shape → List ℕ → ℕ → ℕ → ℕ → ℕ
one z a r q j = ind q ((columns z a).kid r j)

pub loop-k-init : goal.loop-k-init
loop-k-init c =
    let s = c.args in
    Adds-none_yet s.z (one s.z s.a.now s.r) s.work.now

pub tally_one-requires : goal.tally_one-requires
tally_one-requires c =
    let s = c.args in
    let l = c.loop-k in
    let f = (columns s.z s.a.now).kid s.r in
    let k : l.k ≤ 64 = omega (arith, c.requires.few_kids) in
    let low =
    times-Low s.z f l.k (2 ^ 50) 64 (2 ^ 60) s.work.now l.work c.requires.low l.invariant k (omega arith)
    in
    record { allowed = c.requires.lent.allowed; work_fits = Works-long s.z _ _ _ l.invariant c.requires.work_fits; low = low }

pub loop-k-preserved : goal.loop-k-preserved
loop-k-preserved c =
    let s = c.args in
    let l = c.loop-k in
    let e = c.kid.ensures in
    Adds-next s.z (one s.z s.a.now s.r) _ l.k s.work.now l.work _ l.invariant
    c.tally_one.ensures (λ q. ap (ind q) e)
