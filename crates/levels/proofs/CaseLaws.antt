-- The answers of the tests of this crate, case by case, as the code comes to them: by the words that it has read, and by what
-- is kept of a branch.
use Rattle.std.proofs.Common.{◌≡◌, ℕ, zero, suc, ◌+◌, ◌-◌, ◌/◌, ◌%◌, ◌<◌, ◌≤◌, true, false, List, get_or, Option, sym, refl, ap, ◌∙◌, subst, arith, le-ltb, ne_eqb}
use Rattle.cases.proofs.Cases.{split}
use Rattle.layout.specs.declared.Shape.{Shape}
use Rattle.layout.specs.Layout.{kind_of, cell_of, names, Allowed}
use Rattle.layout.specs.Columns.{State, columns}
use Rattle.layout.proofs.OffsetLaws.{names_says, cells_branch}
use Rattle.lookup.specs.Lookup.{names_kind}
use Rattle.lookup.proofs.FindLaws.{kind_is, kind_other, kind_none}
use Rattle.audits.specs.Audits.{all_from, is_live}
use Rattle.audits.proofs.AllLaws.{all_on}
use Rattle.audits.proofs.LiveLaws.{live_is}
use Rattle.levels.specs.declared.Seen.{Seen}
use Rattle.levels.specs.Levels.{Fault, Under, seen_entry, see_by, branch_by, see_from, see_at, slot_right, kept, Known}

-- NODES. What is below a branch at a depth, with n depths left.
module _ (z : Shape) (σ : State) where
  unfoldable below : ℕ → ℕ → ℕ → Option Seen
  below zero t = λ q. Fault
  below (suc n) t = branch_by (see_from z σ n (suc t)) z σ t

  see_by_lem : (n t r : ℕ) → see_from z σ n t r ≡ see_by z σ (below n t) t r
  unfolding see_from below
  see_by_lem zero t r = refl
  see_by_lem (suc n) t r = refl

  -- a cell that is not of the kind, or not in use
  other_kind : (k r : ℕ) → names_kind z k r ≡ false → is_live z σ k r ≡ false
  unfolding is_live
  other_kind k r e = rw e

  not_used : (k r : ℕ) → σ.count r ≡ 0 → is_live z σ k r ≡ false
  unfolding is_live
  not_used k r e = split (names_kind z k r) (λ y. rw (y, le-ltb 0 (σ.count r) (omega arith))) (λ f. rw f)

  see_dead : (n t r : ℕ) → is_live z σ 1 r ≡ false → is_live z σ 0 r ≡ false → see_from z σ n t r ≡ Fault
  unfolding see_by
  see_dead n t r e f = see_by_lem n t r ∙ rw (e, f)

  pub see_none : (n t r : ℕ) → names z r ≡ false → see_from z σ n t r ≡ Fault
  see_none n t r e = see_dead n t r (other_kind 1 r (kind_none z 1 r e)) (other_kind 0 r (kind_none z 0 r e))

  pub see_free : (n t r : ℕ) → σ.count r ≡ 0 → see_from z σ n t r ≡ Fault
  see_free n t r e = see_dead n t r (not_used 1 r e) (not_used 0 r e)

  -- a cell in use, by its count c
  module _ (r c : ℕ) (named : names z r ≡ true) (ec : c ≡ σ.count r) (some : c ≡ 0 → ⊥) where
    used : 0 < σ.count r
    used = omega (arith, ec)

    pub see_entry : (n t : ℕ) → kind_of r ≡ 1 → see_from z σ n t r ≡ seen_entry z σ t r
    unfolding see_by
    see_entry n t k = see_by_lem n t r ∙ rw (live_is z σ 1 r (kind_is z 1 r named k) used)

    pub branch_live : (kind_of r ≡ 1 → ⊥) → is_live z σ 0 r ≡ true
    branch_live even = live_is z σ 0 r (kind_is z 0 r named (omega arith)) used

    pub see_elsewhere : (n t m : ℕ) → (kind_of r ≡ 1 → ⊥) → m ≡ σ.mark r → (m ≡ t → ⊥) → see_from z σ n t r ≡ Fault
    unfolding see_by
    see_elsewhere n t m even em ne =
        see_by_lem n t r
        ∙ rw (other_kind 1 r (kind_other z 1 r even), branch_live even, ne_eqb (σ.mark r) t (λ q. ne (em ∙ q)))

-- a branch at its depth, by the work word v
pub see_kept : (z : Shape) (a w : List ℕ) (t r m v : ℕ) → Known z a t w → is_live z (columns z a) 0 r ≡ true
    → m ≡ (columns z a).mark r → m ≡ t → v ≡ get_or w (cell_of r) 0
    → see_at z (columns z a) t r ≡ Under (v / 4294967296) (v % 4294967296)
see_kept z a w t r m v k y em e ev =
    let here : (columns z a).mark r ≡ t = sym em ∙ e in
    rw ev (subst (λ (x : ℕ). see_at z (columns z a) x r ≡ kept w r) here (k.known r y (omega (arith, here))))

-- and where that word stands
pub record Kept (z : Shape) (r : ℕ) : Type 0 where
  pub low : 1 ≤ r / 2
  pub small : r / 2 - 1 < 1048576
  pub inside : r / 2 - 1 < z.branches

pub kept_at : (z : Shape) (r : ℕ) → Allowed z → names z r ≡ true → (kind_of r ≡ 1 → ⊥) → Kept z r
kept_at z r al named even =
    let cell = names_says z r named in
    let kind : kind_of r ≡ 0 = omega arith in
    let number : r / 2 - 1 < z.branches = omega (arith, cell.number, cells_branch z (kind_of r) kind) in
    record { low = omega (arith, cell.low); small = omega (arith, al.few_branches); inside = number }

-- one slot more
pub slots_on : (z : Shape) (σ : State) (s : ℕ) → s < z.slots → slot_right z σ s ≡ true
    → all_from (slot_right z σ) s (z.slots - s) ≡ all_from (slot_right z σ) (s + 1) (z.slots - (s + 1))
slots_on z σ s l y =
    let e : suc s ≡ s + 1 = omega arith in
    all_on (slot_right z σ) s z.slots l y ∙ ap (λ (j : ℕ). all_from (slot_right z σ) j (z.slots - j)) e
