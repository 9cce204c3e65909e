use mathlib.Core.Path.{sym, ◌∙◌}
use native.Mathlib.Omega.{arith}
use Rattle.audits.specs.Audits.{key_right, keys_right}
use Rattle.audits.proofs.AllLaws.{all_over}
use Rattle.audits.proofs.StepLaws.{entry_cell, all_first, cells_on, cells_stop}
use Rattle.audits.proofs.entries.have_own_keys.Goals as goal

pub loop-i-init : goal.loop-i-init
unfolding keys_right
loop-i-init c = all_first _ _

pub has_own_key-requires : goal.has_own_key-requires
has_own_key-requires c = record { lent = c.requires; is_entry = entry_cell _ _ _ c.loop-i-test.true (omega arith) }

pub returns-then-not-has_own_key : goal.returns-then-not-has_own_key
returns-then-not-has_own_key c =
    let l = c.loop-i in
    sym
    (l.invariant
    ∙ cells_stop (key_right _ _) 1 _ _ _ _ c.loop-i-test.true (omega arith) c.has_own_key.ensures
    (c.if-not-has_own_key.true))

pub loop-i-preserved : goal.loop-i-preserved
loop-i-preserved c =
    let l = c.loop-i in
    l.invariant
    ∙ cells_on (key_right _ _) 1 _ _ _ _ c.loop-i-test.true (omega arith) c.has_own_key.ensures
    (c.if-not-has_own_key.false)

pub returns : goal.returns
returns c = sym (c.loop-i.invariant ∙ all_over _ _ _ c.loop-i-test.false)
