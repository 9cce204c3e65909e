-- The steps that updates are made of, on the columns of an arena. Beside these a count moves by one (`set_count`), a reference is
-- taken out of a cell or put into one (`set_kid`) and a slot is written (`set_slot`); nothing else writes a cell or a slot.
use Rattle.std.specs.Prelude.{ℕ, ◌+◌, ◌-◌, cond, List, ◌∷◌, eqb}
use Rattle.counts.specs.Counts.{upd, upd_row}
use Rattle.layout.specs.Layout.{kind_of}
use Rattle.layout.specs.Columns.{State, state}

module _ (σ : State) where
  -- TAKE: c, the first free cell of kind p, leaves its chain. It is named once, by what is in hand, and holds nothing.
  abbrev pub take_state : ℕ → ℕ → State
  take_state p c =
      state (upd σ.first p (σ.mark c)) (upd σ.used p (σ.used p + 1)) σ.held σ.root σ.size
      (upd σ.count c 1) (upd σ.mark c 0) σ.kid σ.plain

  -- FILL: a cell that was taken gets its mark, its references and its other words
  abbrev pub fill_state : ℕ → ℕ → (ℕ → ℕ) → (ℕ → ℕ) → State
  fill_state c v f d =
      state σ.first σ.used σ.held σ.root σ.size σ.count (upd σ.mark c v) (upd_row σ.kid c f)
      (upd_row σ.plain c d)

  -- GIVE BACK: a cell that holds no reference any more becomes the first of its free chain
  abbrev pub give_state : ℕ → State
  give_state c =
      state (upd σ.first (kind_of c) c) (upd σ.used (kind_of c) (σ.used (kind_of c) - 1)) σ.held σ.root
      σ.size (upd σ.count c 0) (upd σ.mark c (σ.first (kind_of c))) σ.kid (upd_row σ.plain c (λ k. 0))

-- the free cells with c in front of its kind
unfoldable pub on_chain : (ℕ → List ℕ) → ℕ → ℕ → List ℕ
on_chain free c p = cond (eqb p (kind_of c)) (c ∷ free p) (free p)
