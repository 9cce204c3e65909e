use Prim.Native.Nat.{ℕ, ◌+◌, ◌-◌}
use mathlib.Core.Path.{sym, ap, ◌∙◌}
use native.Mathlib.Omega.{arith}
use Rattle.layout.specs.Layout.{number_of_kind}
use Rattle.layout.specs.Columns.{columns}
use Rattle.layout.proofs.ColumnLaws.{has_low}
use Rattle.lookup.proofs.FindLaws.{kind_says}
use Rattle.audits.specs.Audits.{walk}
use Rattle.audits.proofs.StepLaws.{walk_not, walk_used, walk_on, walk_over}
use Rattle.audits.proofs.free.ends_after.Goals as goal

pub returns-then-not-is_kind : goal.returns-then-not-is_kind
returns-then-not-is_kind c =
    let other = sym c.is_kind.ensures ∙ c.if-not-is_kind.true in
    sym (c.loop.invariant ∙ walk_not _ _ _ _ _ (omega (arith, c.loop-test)) other)

pub word-requires : goal.word-requires
word-requires c =
    let named = kind_says _ _ _ (sym c.is_kind.ensures ∙ c.if-not-is_kind.false) in
    record { lent = c.requires; has_word = has_low _ _ _ named.0 (omega arith) }

pub returns-then-word-ne0 : goal.returns-then-word-ne0
returns-then-word-ne0 c =
    let named = sym c.is_kind.ensures ∙ c.if-not-is_kind.false in
    sym
    (c.loop.invariant
    ∙ walk_used _ _ _ _ _ _ (omega (arith, c.loop-test)) named
    c.word.ensures c.if-word-ne0.true)

pub word-r-requires : goal.word-r-requires
word-r-requires c =
    let named = kind_says _ _ _ (sym c.is_kind.ensures ∙ c.if-not-is_kind.false) in
    record { lent = c.requires; has_word = has_low _ _ _ named.0 (omega arith) }

pub loop-preserved : goal.loop-preserved
loop-preserved c =
    let s = c.args in
    let l = c.loop in
    let named = sym c.is_kind.ensures ∙ c.if-not-is_kind.false in
    l.invariant
    ∙ walk_on _ _ _ _ _ _ _ (omega (arith, c.loop-test)) named
    c.word.ensures c.if-word-ne0.false c.word-r.ensures
    ∙ ap (λ (i : ℕ). walk s.z (columns s.z s.a.now) (number_of_kind s.kind) i c.word-r.result) {x = s.n - l.counter - 1} {y = s.n - (l.counter + 1)} (omega arith)

pub returns : goal.returns
returns c = sym (c.loop.invariant ∙ walk_over _ _ _ _ _ (omega (arith, c.loop-test)))
