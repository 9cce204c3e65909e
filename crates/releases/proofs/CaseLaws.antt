-- A release step by step, as its mirror has it.
use Prim.Native.Nat.{ℕ, zero, suc, ◌≤◌, ◌<◌}
use mathlib.Core.Path.{◌≡◌, refl}
use mathlib.Core.Bool.{true, false}
use mathlib.Core.List.{List}
use native.Mathlib.Omega.{arith}
use borrow.Author.Tests.{eqb-true, eq-eqb, ne_eqb, lt-ltb, le-ltb}
use Rattle.cases.proofs.Cases.{both}
use Rattle.layout.specs.declared.Shape.{Shape}
use Rattle.layout.specs.Layout.{kind_of}
use Rattle.layout.specs.Columns.{State, word, refs, columns}
use Rattle.layout.proofs.OffsetLaws.{names_low}
use Rattle.layout.proofs.ColumnLaws.{kids_branch, kids_entry}
use Rattle.lookup.specs.Lookup.{names_kind}
use Rattle.lookup.proofs.FindLaws.{kind_says, kind_none}
use Rattle.cells.specs.Mirrors.{unshare_words, take_out_words, give_back_words}
use Rattle.releases.specs.Releases.{is_last, less_words, chain_from, row_from, at_place, release_from}

-- NO CELL
-- 0 names none
pub none_kind : (z : Shape) (k r : ℕ) → r ≡ 0 → names_kind z k r ≡ false
none_kind z k r e = kind_none z k r (names_low z r (omega arith))

-- THE ROWS OF A CELL
pub entry_place : (z : Shape) (r : ℕ) → names_kind z 1 r ≡ true → 0 < refs z r
unfolding refs
entry_place z r e =
    let w = kind_says z 1 r e in rw (w.0, kids_entry z (kind_of r) (λ o. omega (arith, w.1))) (omega arith)

pub branch_place : (z : Shape) (r k : ℕ) → names_kind z 0 r ≡ true → k < z.degree → k < refs z r
unfolding refs
branch_place z r k e l = let w = kind_says z 0 r e in rw (w.0, kids_branch z (kind_of r) w.1) l

-- ONE WORD FEWER
module _ (z : Shape) (a : List ℕ) (r : ℕ) where
  pub last_is : word z a r 0 ≡ 1 → is_last z a r ≡ true
  unfolding is_last
  last_is e = eq-eqb _ 1 e

  pub last_says : is_last z a r ≡ true → word z a r 0 ≡ 1
  unfolding is_last
  last_says e = eqb-true _ 1 e

  pub last_not : (word z a r 0 ≡ 1 → ⊥) → is_last z a r ≡ false
  unfolding is_last
  last_not ne = ne_eqb _ 1 ne

  pub less_shared : 1 < word z a r 0 → less_words z a r ≡ unshare_words z a r
  unfolding less_words
  less_shared l = rw (lt-ltb 1 (word z a r 0) l)

  pub less_none : word z a r 0 ≤ 1 → less_words z a r ≡ a
  unfolding less_words
  less_none l = rw (le-ltb 1 (word z a r 0) l)

-- CHAINS
module _ (z : Shape) (r : ℕ) (a : List ℕ) where
  pub chain_ends : (n : ℕ) → names_kind z 1 r ≡ false → chain_from z n r a ≡ a
  unfolding chain_from
  chain_ends zero e = refl
  chain_ends (suc n) e = rw e

  pub chain_less : (n : ℕ) → names_kind z 1 r ≡ true → is_last z a r ≡ false → chain_from z (suc n) r a ≡ less_words z a r
  unfolding chain_from
  chain_less n e f = rw (e, f)

  pub chain_last : (n : ℕ) → names_kind z 1 r ≡ true → is_last z a r ≡ true
      → chain_from z (suc n) r a ≡ chain_from z n ((columns z a).kid r 0) (give_back_words z (take_out_words z a r 0) r)
  unfolding chain_from
  chain_last n e f = rw (e, f)

-- BRANCHES
module _ (z : Shape) (σ : State) (t r : ℕ) where
  pub place_is : names_kind z 0 r ≡ true → σ.mark r ≡ t → at_place z σ t r ≡ true
  unfolding at_place
  place_is e m = rw (e, eq-eqb (σ.mark r) t m)

  pub place_says : at_place z σ t r ≡ true → (names_kind z 0 r ≡ true) × (σ.mark r ≡ t)
  unfolding at_place
  place_says e = let w = both (names_kind z 0 r) _ e in (w.0, eqb-true _ _ w.1)

  pub place_none : names_kind z 0 r ≡ false → at_place z σ t r ≡ false
  unfolding at_place
  place_none e = rw e

module _ (z : Shape) (t r : ℕ) (a : List ℕ) where
  pub release_entry : (n : ℕ) → names_kind z 1 r ≡ true → release_from z n t r a ≡ chain_from z z.entries r a
  unfolding release_from
  release_entry zero e = rw e
  release_entry (suc n) e = rw e

  -- below the last depth no branch is entered
  pub release_low : names_kind z 1 r ≡ false → release_from z 0 t r a ≡ a
  unfolding release_from
  release_low e = rw e

  pub release_none : (n : ℕ) → names_kind z 1 r ≡ false → at_place z (columns z a) t r ≡ false → release_from z n t r a ≡ a
  unfolding release_from
  release_none zero e f = rw e
  release_none (suc n) e f = rw (e, f)

  module _ (n : ℕ) (e : names_kind z 1 r ≡ false) (p : at_place z (columns z a) t r ≡ true) where
    pub release_less : is_last z a r ≡ false → release_from z (suc n) t r a ≡ less_words z a r
    unfolding release_from
    release_less f = rw (e, p, f)

    pub release_last : is_last z a r ≡ true
        → release_from z (suc n) t r a ≡ give_back_words z (row_from (release_from z n (suc t)) z r z.degree a) r
    unfolding release_from
    release_last f = rw (e, p, f)
