-- What is asked of branches and slots: document 01, SOUND, as tests on the columns of an arena, by the leftmost entry and the
-- number of entries below each node. What a reference shows if they hold, and that they hold where it shows a trie that the
-- rules can build, is in the proofs of this crate.
use Rattle.std.specs.Prelude.{ℕ, zero, suc, ◌+◌, ◌-◌, ◌*◌, ◌/◌, ◌%◌, ◌^◌, ◌≤◌, ◌≡◌, Bool, true, false, cond, List, eqb, ltb, leb, length, get_or, Option, Some, None}
use Rattle.segments.specs.Segments.{segment}
use Rattle.layout.specs.declared.Shape.{Shape}
use Rattle.layout.specs.Layout.{reference, cell_of}
use Rattle.layout.specs.Columns.{State, columns}
use Rattle.audits.specs.Audits.{all_from, none_from, is_live}
use Rattle.levels.specs.declared.Seen.{Seen}

-- what is seen below a reference: nothing where there is a fault, and else the leftmost entry and how many entries there are
abbrev pub Fault : Option Seen
Fault = None

abbrev pub Under : ℕ → ℕ → Option Seen
Under l s = Some record { lead = l; size = s }

unfoldable pub on_seen : {A : Type 0} → Option Seen → A → (ℕ → ℕ → A) → A
on_seen None x f = x
on_seen (Some v) x f = f v.lead v.size

abbrev pub is_seen : Option Seen → Bool
is_seen s = on_seen s false (λ l n. true)

-- LEAVES. A chain stands at the depth where a hash is exhausted; above it every entry is a single.
unfoldable pub seen_entry : Shape → State → ℕ → ℕ → Option Seen
seen_entry z σ t r = cond (eqb (σ.mark r) 1) (Under r 1) (cond (eqb t z.depths) (Under r (σ.mark r)) Fault)

-- the reference r at depth t: an entry, or a branch whose depth word is its place
unfoldable pub see_by : Shape → State → (ℕ → Option Seen) → ℕ → ℕ → Option Seen
see_by z σ below t r =
    cond (is_live z σ 1 r) (seen_entry z σ t r) (cond (is_live z σ 0 r) (cond (eqb (σ.mark r) t) (below r) Fault) Fault)

-- ROWS. The child at a place: its segment is that of its leftmost entry, whose hash h has the segments of the path to here, as
-- the branch's leftmost entry, whose hash is g, has them; segments ascend; and there are no more entries than the arena has.
unfoldable pub same_prefix : Shape → ℕ → ℕ → ℕ → Bool
same_prefix z t g h = eqb (h % 2 ^ (t * z.bits)) (g % 2 ^ (t * z.bits))

unfoldable pub fits : Shape → ℕ → ℕ → ℕ → ℕ → ℕ → ℕ → Bool
fits z t g low size h s =
    cond (leb low (segment z.bits t h)) (cond (same_prefix z t g h) (leb s (z.entries - size)) false) false

-- all children read: the bitmap has their segments and no others, and below the root a single is not the only child
unfoldable pub closed : State → ℕ → ℕ → ℕ → ℕ → ℕ → Option Seen
closed σ t r l bits size = cond (eqb (σ.plain r 0) bits) (cond (eqb t 0) (Under l size) (cond (ltb 1 size) (Under l size) Fault)) Fault

-- the children end at place k. Packed: behind a 0 all is 0.
unfoldable pub ended : Shape → State → ℕ → ℕ → ℕ → ℕ → ℕ → ℕ → Option Seen
ended z σ t r l k bits size = cond (none_from (σ.kid r) k (z.degree - k)) (closed σ t r l bits size) Fault

module _ (look : ℕ → Option Seen) (z : Shape) (σ : State) (t r l : ℕ) where
  -- n children of r from place k on. The segments before are below low, in bits, with size entries. Packed: behind a 0 all is 0.
  unfoldable pub row_from : ℕ → ℕ → ℕ → ℕ → ℕ → Option Seen
  row_from zero k low bits size = closed σ t r l bits size
  row_from (suc n) k low bits size =
      cond (eqb (σ.kid r k) 0)
      (cond (none_from (σ.kid r) k (suc n)) (closed σ t r l bits size) Fault)
      (on_seen (look (σ.kid r k)) Fault
      (λ m s.
      let h = σ.plain m 0 in
      let g = segment z.bits t h in
      cond (fits z t (σ.plain l 0) low size h s) (row_from n (suc k) (suc g) (bits + 2 ^ g) (size + s)) Fault))

-- the branch r at depth t
unfoldable pub branch_by : (ℕ → Option Seen) → Shape → State → ℕ → ℕ → Option Seen
branch_by look z σ t r =
    cond (eqb (σ.kid r 0) 0) Fault
    (on_seen (look (σ.kid r 0)) Fault (λ l s. row_from look z σ t r l z.degree 0 0 0 0))

-- THE NODE r at depth t, with n depths left: the reference of its leftmost entry, and how many entries it has
unfoldable pub see_from : Shape → State → ℕ → ℕ → ℕ → Option Seen
see_from z σ zero t r = see_by z σ (λ q. Fault) t r
see_from z σ (suc n) t r = see_by z σ (branch_by (see_from z σ n (suc t)) z σ t) t r

abbrev pub see_at : Shape → State → ℕ → ℕ → Option Seen
see_at z σ t r = see_from z σ (z.depths - t) t r

-- LEVELS. A branch in use whose depth is t, and all of them; then all depths below d, the deepest first.
unfoldable pub is_at : State → ℕ → ℕ → Bool
is_at σ t r = cond (eqb (σ.count r) 0) false (eqb (σ.mark r) t)

unfoldable pub branch_seen : Shape → State → ℕ → ℕ → Bool
branch_seen z σ t r = cond (is_at σ t r) (is_seen (see_at z σ t r)) true

unfoldable pub level_seen : Shape → State → ℕ → Bool
level_seen z σ t = all_from (λ i. branch_seen z σ t (reference 0 i)) 0 z.branches

unfoldable pub levels_seen : Shape → State → ℕ → Bool
levels_seen z σ zero = true
levels_seen z σ (suc d) = cond (level_seen z σ d) (levels_seen z σ d) false

-- SLOTS. "Slot: held (0 or 1), root, size; all 0 if not held"; a held root shows a trie with its size.
unfoldable pub size_is : Option Seen → ℕ → Bool
size_is None n = false
size_is (Some v) n = eqb v.size n

unfoldable pub root_right : Shape → State → ℕ → ℕ → Bool
root_right z σ r n = cond (eqb r 0) (eqb n 0) (size_is (see_at z σ 0 r) n)

unfoldable pub slot_right : Shape → State → ℕ → Bool
slot_right z σ s =
    cond (eqb (σ.held s) 0) (cond (eqb (σ.root s) 0) (eqb (σ.size s) 0) false)
    (cond (eqb (σ.held s) 1) (root_right z σ (σ.root s) (σ.size s)) false)

unfoldable pub slots_right : Shape → State → Bool
slots_right z σ = all_from (slot_right z σ) 0 z.slots

-- MEMORY. A work word keeps a branch's leftmost entry and number of entries; a work word for each branch from depth t on that is
-- in use.
abbrev pub kept_as : ℕ → ℕ → ℕ
kept_as l s = l * 2 ^ 32 + s

abbrev pub kept : List ℕ → ℕ → Option Seen
kept w r = Under (get_or w (cell_of r) 0 / 2 ^ 32) (get_or w (cell_of r) 0 % 2 ^ 32)

pub record Known (z : Shape) (a : List ℕ) (t : ℕ) (w : List ℕ) : Type 0 where
  pub deep : (r : ℕ) → is_live z (columns z a) 0 r ≡ true → suc ((columns z a).mark r) ≤ z.depths
  pub known :
      (r : ℕ) → is_live z (columns z a) 0 r ≡ true → t ≤ (columns z a).mark r
      → see_at z (columns z a) ((columns z a).mark r) r ≡ kept w r

-- branch i, where it is in use at depth t: what is below it is kept
abbrev pub KeptAt : Shape → List ℕ → ℕ → List ℕ → ℕ → Type 0
KeptAt z a t w i = is_at (columns z a) t (reference 0 i) ≡ true → see_at z (columns z a) t (reference 0 i) ≡ kept w (reference 0 i)

-- what is written: the work word of branch i, if it is in use at depth t
pub record OnlyAt (z : Shape) (a : List ℕ) (t i : ℕ) (w w' : List ℕ) : Type 0 where
  pub same_length : length w' ≡ length w
  pub not_there : is_at (columns z a) t (reference 0 i) ≡ false → w' ≡ w
  pub others : (j : ℕ) → (j ≡ i → ⊥) → get_or w' j 0 ≡ get_or w j 0

-- the work words of branches
pub record OnlyBranches (z : Shape) (w w' : List ℕ) : Type 0 where
  pub same_length : length w' ≡ length w
  pub others : (j : ℕ) → z.branches ≤ j → get_or w' j 0 ≡ get_or w j 0
