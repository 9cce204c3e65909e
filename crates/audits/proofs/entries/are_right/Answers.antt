use Prim.Native.Nat.{ℕ, ◌+◌, ◌*◌}
use mathlib.Core.Path.{◌≡◌, sym, ◌∙◌}
use native.Mathlib.Omega.{arith}
use Rattle.layout.specs.Columns.{columns}
use Rattle.audits.specs.Audits.{entry_right, entries_right}
use Rattle.audits.proofs.AllLaws.{all_over}
use Rattle.audits.proofs.StepLaws.{entry_cell, fits_on, all_first, cells_on, cells_stop}
use Rattle.audits.proofs.entries.are_right.Goals as goal

pub loop-i-init : goal.loop-i-init
unfolding entries_right
loop-i-init c = record { right = all_first _ _; fit = λ j l. absurd (omega arith) }

pub is_right-requires : goal.is_right-requires
is_right-requires c = record { lent = c.requires; is_entry = entry_cell _ _ _ c.loop-i-test.true (omega arith) }

pub returns-then-not-is_right : goal.returns-then-not-is_right
returns-then-not-is_right c =
    let l = c.loop-i in
    let wrong
    = l.invariant.right
    ∙ cells_stop (entry_right _ _) 1 _ _ _ _ c.loop-i-test.true (omega arith) c.is_right.ensures.answers
    (c.if-not-is_right.true) in
    record { answers = sym wrong; entries_fit = λ e. let n : ◌≡◌ {A = ℕ} 0 1 = cc in absurd (omega arith) }

pub loop-i-preserved : goal.loop-i-preserved
loop-i-preserved c =
    let s = c.args in
    let l = c.loop-i in
    record {
      right = l.invariant.right
          ∙ cells_on (entry_right _ _) 1 _ _ _ _ c.loop-i-test.true (omega arith) c.is_right.ensures.answers
          (c.if-not-is_right.false);
      fit = fits_on (columns s.z s.a.now) l.i (2 * l.i + 3) (omega arith) c.is_right.ensures.word64 l.invariant.fit;
    }

pub returns : goal.returns
returns c =
    let l = c.loop-i in
    record { answers = sym (l.invariant.right ∙ all_over _ _ _ c.loop-i-test.false); entries_fit = λ e j m. l.invariant.fit j (omega (arith, c.loop-i-test.false)) }
