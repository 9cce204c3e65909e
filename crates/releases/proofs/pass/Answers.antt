-- `releases::pass` meets its contract: each turn leaves what the row comes to with one place more.
use Prim.Native.Nat.{ℕ, ◌≤◌}
use mathlib.Core.List.{List}
use mathlib.Core.Path.{refl, sym, ap, ◌∙◌, subst}
use Rattle.layout.specs.declared.Shape.{Shape}
use Rattle.releases.specs.Releases.{RowGoesOn}
use lib.ListN.{length}
use Rattle.cells.proofs.KeptLaws.{lent_same}
use Rattle.releases.proofs.SharedLaws.{child_place, out_names, none_turn, shared_turn}
use native.Mathlib.Omega.{arith}
use Rattle.releases.proofs.pass.Goals as goal
use Rattle.releases.proofs.pass.Goals.{then-child-ne0+else-not-is_shared, else-child-ne0}

pub loop-k-init : goal.loop-k-init
loop-k-init c = ((λ w g. g), refl)

pub word-child-requires : goal.word-child-requires
word-child-requires c = record { lent = lent_same c.loop-k.invariant.1 c.requires.lent; has_word = child_place _ _ _ c.requires.rest_of_branch.0 c.loop-k-test.true }

pub is_shared-requires : goal.is_shared-requires
is_shared-requires c = record { lent = (lent_same c.loop-k.invariant.1 c.requires.lent, c.of-t.ensures); in_depths = c.requires.rest_of_branch.1 }

pub returns-then-not-is_shared : goal.returns-then-not-is_shared
returns-then-not-is_shared c = record { in_row = (omega arith, omega arith); row_goes_on = c.loop-k.invariant.0 }

pub set_word-requires : goal.set_word-requires
set_word-requires c = record { lent = lent_same c.loop-k.invariant.1 c.requires.lent; has_word = child_place _ _ _ c.requires.rest_of_branch.0 c.loop-k-test.true }

pub lessen-requires : goal.lessen-requires
lessen-requires c = record { lent = (lent_same (omega (arith, c.set_word.auto.a, c.loop-k.invariant.1)) c.requires.lent, c.of-t.ensures); is_in_use = out_names _ _ _ _ (lent_same c.loop-k.invariant.1 c.requires.lent) c.requires.rest_of_branch.0 c.loop-k-test.true _ _ _ _ (sym c.is_shared.ensures ∙ c.if-not-is_shared.false) c.set_word.ensures }

pub loop-k-preserved : goal.loop-k-preserved
loop-k-preserved c =
    elim c.if-child-ne0.branch [
      | then-child-ne0+else-not-is_shared w ↦ (
        shared_turn _ _ _ _ (lent_same c.loop-k.invariant.1 c.requires.lent) c.requires.rest_of_branch.0 c.loop-k-test.true
            _ _ _ _ _ c.loop-k.invariant.0 c.word-child.ensures _ _ (sym w.is_shared.ensures ∙ w.if-not-is_shared.false)
            w.set_word.ensures (w.a-is ∙ w.lessen.ensures),
        omega (arith, ap length w.a-is, w.lessen.auto.a, w.set_word.auto.a, c.loop-k.invariant.1),
      )
      | else-child-ne0 w ↦ (
        (λ x g.
            w.a-is ∙ none_turn _ _ _ _ (lent_same c.loop-k.invariant.1 c.requires.lent) c.requires.rest_of_branch.0
            c.loop-k-test.true _ _ _ _ _ c.loop-k.invariant.0 c.word-child.ensures w.if-child-ne0.false x g),
        omega (arith, ap length w.a-is, c.loop-k.invariant.1),
      )
    ]

-- a row that was gone through to k has been gone through to n, where the two are one number
goes-to : (f : ℕ → List ℕ → List ℕ) (z : Shape) (r m k n : ℕ) (a b : List ℕ) → RowGoesOn f z r m k a b → k ≤ n → n ≤ k → RowGoesOn f z r m n a b
goes-to f z r m k n a b on l g = subst (λ (x : ℕ). RowGoesOn f z r m x a b) {x = k} {y = n} (omega arith) on

pub returns : goal.returns
returns c = record { in_row = (omega arith, omega arith); row_goes_on = goes-to _ _ _ _ _ _ _ _ c.loop-k.invariant.0 (omega arith) (omega (arith, c.loop-k-test.false)) }
