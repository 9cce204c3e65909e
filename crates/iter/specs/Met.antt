-- What the iterator meets, on any words: document 01, "The iterator's growing stack becomes a fixed array of 65 places". On an
-- edition this is the trie's listing (proofs/Meaning.antt); on damaged words it is what the walk comes to, at most as many cells
-- as it has steps.
use Rattle.std.specs.Prelude.{ℕ, zero, suc, ◌+◌, ◌*◌, ◌/◌, ◌%◌, ◌≤◌, ◌<◌, ◌≡◌, Bool, false, cond, List, [], ◌∷◌, eqb, ltb, length, get_or}
use Rattle.trie.specs.declared.Entry.{Entry}
use Rattle.layout.specs.declared.Shape.{Shape}
use Rattle.layout.specs.Columns.{State, columns}
use Rattle.lookup.specs.Lookup.{names_kind, entry_at}
use Rattle.iter.specs.declared.Walk.{Walk}

-- PLACES. A branch that waits and its next child, as one number; no branch has 128 children.
abbrev pub place_of : ℕ → ℕ → ℕ
place_of r k = r * 128 + k

abbrev pub waits : State → ℕ → ℕ
waits σ p = σ.kid (p / 128) (p % 128)

-- the places on the stack, the last first
unfoldable pub waiting : List ℕ → ℕ → List ℕ
waiting stack zero = []
waiting stack (suc d) = get_or stack d 0 ∷ waiting stack d

-- a reference to go to, and the places that wait meanwhile
pub record Spot : Type 0 where
  pub at : ℕ
  pub places : List ℕ

abbrev pub spot : ℕ → List ℕ → Spot
spot r ps = record { at = r; places = ps }

-- the place of the child behind
abbrev pub onward : ℕ → ℕ
onward p = suc p

-- the next child of the last branch that has one; its place moves on
unfoldable pub climbed : State → List ℕ → Spot
climbed σ [] = spot 0 []
climbed σ (p ∷ ps) = cond (eqb (waits σ p) 0) (climbed σ ps) (spot (waits σ p) (onward p ∷ ps))

-- behind an entry: the next in its chain, or else upwards
unfoldable pub behind_entry : State → ℕ → List ℕ → Spot
behind_entry σ r ps = cond (eqb (σ.kid r 0) 0) (climbed σ ps) (spot (σ.kid r 0) ps)

-- a branch's first child
abbrev pub first_child : State → ℕ → ℕ
first_child σ r = σ.kid r 0

-- whether the walk enters r: a branch, while there is a place for it
unfoldable pub enters : Shape → ℕ → ℕ → Bool
enters z r depth = cond (ltb depth 65) (names_kind z 0 r) false

-- the entries met in at most n steps
unfoldable pub met_from : Shape → State → ℕ → ℕ → List ℕ → List Entry
met_from z σ zero r ps = []
met_from z σ (suc n) r ps =
    cond (names_kind z 1 r)
    (entry_at σ r ∷ (let s = behind_entry σ r ps in met_from z σ n s.at s.places))
    (cond (enters z r (length ps)) (met_from z σ n (first_child σ r) (place_of r 1 ∷ ps)) [])

-- a step for each cell that an arena of this shape has
abbrev pub visits : Shape → ℕ
visits z = z.branches + z.entries

-- the entries met below a root
abbrev pub met : Shape → List ℕ → ℕ → List Entry
met z a r = met_from z (columns z a) (visits z) r []

-- what a walk still meets
abbrev pub still : Shape → List ℕ → Walk → List Entry
still z a w = met_from z (columns z a) w.left w.at (waiting w.stack w.depth)

-- whether it has come to an entry
unfoldable pub is_at_entry : Shape → Walk → Bool
is_at_entry z w = cond (ltb 0 w.left) (names_kind z 1 w.at) false

-- it does not look at a branch that it would enter: it has come to an entry, or meets no more
abbrev pub Settled : Shape → Walk → Type 0
Settled z w = (w.depth ≤ 65) × (0 < w.left → enters z w.at w.depth ≡ false)
