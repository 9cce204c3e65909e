-- How far the search for a key that stands twice goes: once the tests of the entries have passed, it looks at fewer entries than the
-- chain is long, and on any words at no more than the arena has.
use Prim.Native.Nat.{ℕ, zero, suc, ◌≤◌, ◌<◌}
use mathlib.Core.Path.{◌≡◌, refl, ap}
use mathlib.Core.Bool.{true}
use mathlib.Core.Logic.{◌⊎◌, ⊎_elim}
use native.Mathlib.Omega.{arith}
use Rattle.cases.proofs.Cases.{split}
use Rattle.trie.specs.Entry.{matches}
use Rattle.layout.specs.declared.Shape.{Shape}
use Rattle.layout.specs.Columns.{State}
use Rattle.arena.proofs.RefLaws.{names-refs}
use Rattle.lookup.specs.Lookup.{names_kind, entry_at}
use Rattle.lookup.proofs.FindLaws.{kind_other}
use Rattle.audits.specs.Audits.{is_live, entries_right}
use Rattle.audits.specs.Looked.{looked_from}
use Rattle.audits.proofs.LinkLaws.{Followed, used_says}
use Rattle.audits.proofs.LiveLaws.{live_cell}
use Rattle.audits.proofs.CellLaws.{entry_tested}

module _ (z : Shape) (σ : State) (h k : ℕ) where
  -- on any words
  pub looked_most : (n r : ℕ) → looked_from z σ h k n r ≤ n
  unfolding looked_from
  looked_most zero r = omega arith
  looked_most (suc n) r =
      split (names_kind z 1 r)
      (λ t.
      split (matches h k (entry_at σ r)) (λ m. rw (t, m) (omega arith))
      (λ m. rw (t, m) (omega (arith, looked_most n (σ.kid r 0)))))
      (λ f. rw f (omega arith))

  looked_none : (n : ℕ) → looked_from z σ h k n 0 ≡ 0
  unfolding looked_from
  looked_none zero = refl
  looked_none (suc n) = rw (kind_other z 1 0 (λ e. omega (arith, e)))

  looked_step : (n r : ℕ) → looked_from z σ h k (suc n) r ≤ suc (looked_from z σ h k n (σ.kid r 0))
  unfolding looked_from
  looked_step n r =
      split (names_kind z 1 r)
      (λ t. split (matches h k (entry_at σ r)) (λ m. rw (t, m) (omega arith)) (λ m. rw (t, m) (omega arith)))
      (λ f. rw f (omega arith))

  -- behind an entry in use
  module _ (some : 0 < z.degree) (right : entries_right z σ ≡ true) where
    linked_or_last : (r : ℕ) → is_live z σ 1 r ≡ true → ((σ.kid r 0 ≡ 0) × (σ.mark r ≡ 1)) ⊎ Followed z σ r
    linked_or_last r live =
        let c = live_cell z σ 1 r live in
        used_says z σ r c.2 (entry_tested z σ right r ((names-refs z some r).0 c.1) c.0)

    pub looked_few : (n r : ℕ) → is_live z σ 1 r ≡ true → looked_from z σ h k n (σ.kid r 0) < σ.mark r
    looked_few zero r live =
        ⊎_elim (λ (e, m). omega (arith, m, looked_most 0 (σ.kid r 0))) (λ f. omega (arith, f.shorter, looked_most 0 (σ.kid r 0)))
        (linked_or_last r live)
    looked_few (suc n) r live =
        ⊎_elim
        (λ (e, m). omega (arith, m, ap (looked_from z σ h k (suc n)) e, looked_none (suc n)))
        (λ f. omega (arith, looked_step n (σ.kid r 0), f.shorter, looked_few n (σ.kid r 0) f.live))
        (linked_or_last r live)
