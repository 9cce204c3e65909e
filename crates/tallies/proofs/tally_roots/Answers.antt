use Prim.Native.Nat.{ℕ, ◌^◌, ◌≤◌}
use mathlib.Core.Path.{ap}
use mathlib.Core.List.{List}
use Rattle.counts.specs.Counts.{ind}
use Rattle.layout.specs.declared.Shape.{Shape}
use Rattle.layout.specs.Columns.{columns}
use Rattle.tallies.proofs.WorkLaws.{Adds-none_yet, Adds-next, times-Low, Works-long}
use native.Mathlib.Omega.{arith}
use Rattle.tallies.proofs.tally_roots.Goals as goal

-- what is added for each slot
abbrev one : Shape → List ℕ → ℕ → ℕ → ℕ
one z a q j = ind q ((columns z a).root j)

pub loop-s-init : goal.loop-s-init
loop-s-init c =
    let s = c.args in
    Adds-none_yet s.z (one s.z s.a.now) s.work.now

pub tally_one-requires : goal.tally_one-requires
tally_one-requires c =
    let s = c.args in
    let l = c.loop-s in
    let f = (columns s.z s.a.now).root in
    let k : l.s ≤ 4096 = omega (arith, c.requires.lent.allowed.few_slots) in
    let low = times-Low s.z f l.s 0 4096 (2 ^ 60) s.work.now l.work c.requires.low l.invariant k (omega arith) in
    record { allowed = c.requires.lent.allowed; work_fits = Works-long s.z _ _ _ l.invariant c.requires.work_fits; low = low }

pub loop-s-preserved : goal.loop-s-preserved
loop-s-preserved c =
    let l = c.loop-s in
    let s = c.args in
    let e = c.slot_word.ensures in
    Adds-next s.z (one s.z s.a.now) _ l.s s.work.now l.work _ l.invariant
    c.tally_one.ensures (λ q. ap (ind q) e)
