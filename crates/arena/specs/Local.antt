-- The local form of soundness: nothing is said of what is reached. The count of a cell is how many words of the whole arena name
-- it, since free cells and free slots hold zeros there, and how often it is in hand. While an update is under way some
-- references are in hand, which is to say in no word yet or in none any more.
use Rattle.std.specs.Prelude.{ℕ, suc, ◌+◌, ◌≤◌, ◌<◌, ◌≡◌, cond, List, ◌⊎◌, eqb, length}
use Rattle.counts.specs.Counts.{ind, sum_to, times, among}
use Rattle.layout.specs.declared.Shape.{Shape}
use Rattle.layout.specs.Layout.{kind_of}
use Rattle.layout.specs.Header.{Header}
use Rattle.layout.specs.Columns.{State, columns, refs}
use Rattle.arena.specs.Sound.{top, FreeSlot, HeldSlot, Chain}

-- 1 at the references that name a cell of kind p; how many there are
unfoldable pub cell : Shape → ℕ → ℕ → ℕ
cell z p r = cond (eqb (kind_of r) p) (cond (eqb (refs z r) 0) 0 1) 0

abbrev pub num : Shape → ℕ → ℕ
num z p = sum_to (top z) (λ r. cell z p r)

abbrev pub kid_occ : Shape → (ℕ → ℕ → ℕ) → ℕ → ℕ
kid_occ z kid r = sum_to (top z) (λ q. times (refs z q) (kid q) r)

-- how many slots, child words and next words are r
abbrev pub occ : Shape → State → ℕ → ℕ
occ z σ r = times z.slots σ.root r + kid_occ z σ.kid r

-- kind and mark of a cell, and of a cell that it names: a branch below a branch stands one deeper, and behind an entry stands an
-- entry whose chain is one shorter
abbrev pub Below : ℕ → ℕ → ℕ → ℕ → Type 0
Below a v b u = (a ≡ 0 → b ≡ 0 → u ≡ suc v) × (a ≡ 1 → (b ≡ 1) × (v ≡ suc u))

-- hand r is how often r is in hand, free p the free cells of kind p in their order
pub record Local (z : Shape) (σ : State) (hand : ℕ → ℕ) (free : ℕ → List ℕ) : Type 0 where
  pub exact : (r : ℕ) → (r ≡ 0 → ⊥) → σ.count r ≡ occ z σ r + hand r
  pub out : (r : ℕ) → refs z r ≡ 0 → σ.count r ≡ 0
  pub chain : (p : ℕ) → Chain σ.mark (σ.first p) (free p)
  pub free_once : (r : ℕ) → 0 < refs z r → among (free (kind_of r)) r ≡ ind 0 (σ.count r)
  pub within : (p r : ℕ) → 0 < among (free p) r → (0 < refs z r) × (kind_of r ≡ p)
  pub used_ok : (p : ℕ) → σ.used p + length (free p) ≡ num z p
  pub rest : (q k : ℕ) → σ.count q ≡ 0 → σ.kid q k ≡ 0
  pub blank : (q k : ℕ) → σ.count q ≡ 0 → σ.plain q k ≡ 0
  pub deep : (q : ℕ) → 0 < σ.count q → kind_of q ≡ 0 → σ.mark q < z.depths
  pub clip : (q k : ℕ) → refs z q ≤ k → σ.kid q k ≡ 0
  pub below : (q k : ℕ) → (σ.kid q k ≡ 0 → ⊥) → Below (kind_of q) (σ.mark q) (kind_of (σ.kid q k)) (σ.mark (σ.kid q k))
  pub no_root : (i : ℕ) → i < z.slots → (σ.held i ≡ 1 → ⊥) → σ.root i ≡ 0

-- with nothing in hand, and what the slots show
pub record LocallySound (a : List ℕ) : Type 0 where
  pub shape : Shape
  pub header : Header a shape
  pub slots : (s : ℕ) → s < shape.slots → FreeSlot (columns shape a) s ⊎ HeldSlot shape (columns shape a) s
  pub free : ℕ → List ℕ
  pub local : Local shape (columns shape a) (λ r. 0) free

-- FRAMES. What lived lives, with the same words.
pub record Grow (σ τ : State) : Type 0 where
  pub live : (r : ℕ) → 0 < σ.count r → 0 < τ.count r
  pub mark_eq : (r : ℕ) → 0 < σ.count r → τ.mark r ≡ σ.mark r
  pub kid_eq : (r : ℕ) → 0 < σ.count r → τ.kid r ≡ σ.kid r
  pub plain_eq : (r : ℕ) → 0 < σ.count r → τ.plain r ≡ σ.plain r

-- what lives lived, with the same words, but for the cell x
pub record Shrink (x : ℕ) (σ τ : State) : Type 0 where
  pub live : (r : ℕ) → (r ≡ x → ⊥) → 0 < τ.count r → 0 < σ.count r
  pub mark_eq : (r : ℕ) → (r ≡ x → ⊥) → 0 < τ.count r → τ.mark r ≡ σ.mark r
  pub kid_eq : (r : ℕ) → (r ≡ x → ⊥) → 0 < τ.count r → τ.kid r ≡ σ.kid r
  pub plain_eq : (r : ℕ) → (r ≡ x → ⊥) → 0 < τ.count r → τ.plain r ≡ σ.plain r

pub record SameSlots (σ τ : State) : Type 0 where
  pub held_eq : τ.held ≡ σ.held
  pub root_eq : τ.root ≡ σ.root
  pub size_eq : τ.size ≡ σ.size
