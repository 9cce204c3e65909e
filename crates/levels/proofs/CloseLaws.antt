-- A row whose children are all read passes, where the branch's bitmap is that of its children and it has two entries or stands at
-- the root.
use Rattle.std.proofs.Common.{◌≡◌, ℕ, ◌<◌, cond, eqb, ltb, ◌⊎◌, inl, inr, lt-ltb, eq-eqb, ne_eqb}
use Rattle.cases.proofs.Cases.{eq?}
use Rattle.layout.specs.Columns.{State}
use Rattle.levels.specs.Levels.{Fault, Under, closed}

pub closes : (σ : State) (t r l bits size : ℕ) → σ.plain r 0 ≡ bits → (t ≡ 0) ⊎ (1 < size) → closed σ t r l bits size ≡ Under l size
unfolding closed
closes σ t r l bits size e many = rw (eq-eqb (σ.plain r 0) bits e) (go many (eq? t 0))
  where
    go : (t ≡ 0) ⊎ (1 < size) → (t ≡ 0) ⊎ (t ≡ 0 → ⊥)
        → cond (eqb t 0) (Under l size) (cond (ltb 1 size) (Under l size) Fault) ≡ Under l size
    go m (inl e) = rw (eq-eqb t 0 e)
    go (inl e) (inr ne) = absurd (ne e)
    go (inr m) (inr ne) = rw (ne_eqb t 0 ne, lt-ltb 1 size m)
