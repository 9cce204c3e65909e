use Prim.Native.Nat.{◌+◌, ◌*◌}
use Rattle.reads.proofs.WriteLaws.{Rest-start, Rest-next, rest_end}
use mathlib.Core.Path.{◌≡◌, sym, ◌∙◌}
use Rattle.iter.proofs.WalkLaws.{met_stop}
use mathlib.Core.Logic.{inl}
use native.Mathlib.Omega.{arith}
use Rattle.reads.proofs.write.Goals as goal

pub loop-k-init : goal.loop-k-init
loop-k-init c = (Rest-start, c.requires.settled)

pub returns-then-not-has_entry-clause-answers : goal.returns-then-not-has_entry-clause-answers
returns-then-not-has_entry-clause-answers c = (rest_end c.loop-k.invariant.0 (inl (met_stop _ _ (sym c.has_entry.ensures ∙ c.if-not-has_entry.true) c.loop-k.invariant.1 _))).0

pub returns-then-not-has_entry-clause-leaves : goal.returns-then-not-has_entry-clause-leaves
returns-then-not-has_entry-clause-leaves c = (rest_end c.loop-k.invariant.0 (inl (met_stop _ _ (sym c.has_entry.ensures ∙ c.if-not-has_entry.true) c.loop-k.invariant.1 _))).1

pub loop-k-preserved : goal.loop-k-preserved
loop-k-preserved c =
    let e : 3 * (c.loop-k.k + 1) ≡ 3 * c.loop-k.k + 3 = omega arith in
    (rw e (Rest-next c.loop-k.invariant.0 c.next.ensures.gives_first (omega (arith, c.loop-k-test.true, c.loop-k.invariant.0.as_long)) c.entry-entry.ensures), c.next.ensures.settled)
