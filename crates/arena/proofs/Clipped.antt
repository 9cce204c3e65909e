-- The columns of an arena are 0 where they have no word: at references that name no cell, from a cell's references on, and
-- behind the two kinds. All that the local form needs of words is here.
use Prim.Native.Nat.{ℕ, ◌+◌, ◌≤◌, ◌<◌}
use mathlib.Core.Path.{◌≡◌, refl}
use mathlib.Core.Bool.{Bool, true, false, cond}
use mathlib.Core.List.{List}
use native.Mathlib.Omega.{arith}
use lib.Dec.{ltb}
use borrow.Author.Tests.{le-ltb}
use Rattle.cases.proofs.Cases.{split}
use Rattle.layout.specs.declared.Shape.{Shape}
use Rattle.layout.specs.Layout.{kind_of, names, has}
use Rattle.layout.specs.Columns.{State, columns, word, refs, plain_place, plains_of}
use Rattle.layout.proofs.StoreLaws.{kind_out}
use Rattle.arena.proofs.RefLaws.{names-refs}

pub record Clipped (z : Shape) (σ : State) : Type 0 where
  pub no_first : (p : ℕ) → 2 ≤ p → σ.first p ≡ 0
  pub no_used : (p : ℕ) → 2 ≤ p → σ.used p ≡ 0
  pub no_count : (r : ℕ) → refs z r ≡ 0 → σ.count r ≡ 0
  pub no_mark : (r : ℕ) → refs z r ≡ 0 → σ.mark r ≡ 0
  pub no_kid : (r k : ℕ) → refs z r ≤ k → σ.kid r k ≡ 0
  pub no_plain : (r k : ℕ) → refs z r ≡ 0 → σ.plain r k ≡ 0

not_named : (z : Shape) → 0 < z.degree → (r : ℕ) → refs z r ≡ 0 → names z r ≡ false
not_named z d r e = split (names z r) (λ t. absurd (omega (arith, (names-refs z d r).0 t))) (λ f. f)

no_word : (z : Shape) (a : List ℕ) (r p : ℕ) → names z r ≡ false → word z a r p ≡ 0
unfolding word has
no_word z a r p e = rw e

zero_else : (b : Bool) (x : ℕ) → x ≡ 0 → cond b x 0 ≡ 0
zero_else true x e = e
zero_else false x e = refl

pub columns-Clipped : (z : Shape) (a : List ℕ) → 0 < z.degree → Clipped z (columns z a)
columns-Clipped z a d =
    record {
      no_first = kind_out a 8;
      no_used = kind_out a 10;
      no_count = λ r e. no_word z a r 0 (not_named z d r e);
      no_mark = λ r e. no_word z a r 1 (not_named z d r e);
      no_kid = λ r k l. rw (le-ltb k (refs z r) l);
      no_plain = λ r k e. zero_else (ltb k (plains_of (kind_of r))) _ (no_word z a r (plain_place (kind_of r) + k) (not_named z d r e));
    }
