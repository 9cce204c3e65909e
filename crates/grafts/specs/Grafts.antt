-- The new path of an update, on any words: document 01, "Insert at a missing child places a single entry there .. Above depth D,
-- at another key, branches are made until the segments differ; the old entry is shared", followed through the columns of an
-- arena. On an edition this is what the trie's own definition makes (proofs/Meaning.antt).
use Rattle.std.specs.Prelude.{ℕ, zero, suc, ◌+◌, ◌-◌, ◌*◌, ◌^◌, ◌≤◌, ◌<◌, ◌≡◌, Bool, false, cond, List, eqb, ltb, length, get_or, Option, Some, None, Ok, Err}
use Rattle.counts.specs.Counts.{upd}
use Rattle.segments.specs.Segments.{segment}
use Rattle.sparse_array.specs.Bitmap.{bit, below}
use Rattle.sparse_array.specs.Places.{Place, place_of}
use Rattle.layout.specs.declared.Shape.{Shape}
use Rattle.layout.specs.Columns.{State, columns}
use Rattle.lookup.specs.Lookup.{names_kind}
use Rattle.cells.specs.Mirrors.{Wrote, wrote, and_then, taken, share_words, fill_branch_words}
use Rattle.grafts.specs.declared.Reach.{Reach}

-- A NODE AS CHILDREN of a branch at depth t: a branch's own; an entry is its own only child, at its hash's segment; else none
unfoldable pub kid_bits : Shape → State → ℕ → ℕ → ℕ
kid_bits z σ t r =
    cond (names_kind z 0 r) (σ.plain r 0) (cond (names_kind z 1 r) (2 ^ segment z.bits t (σ.plain r 0)) 0)

unfoldable pub kid_row : Shape → State → ℕ → ℕ → ℕ
kid_row z σ r k = cond (names_kind z 0 r) (σ.kid r k) (cond (names_kind z 1 r) (cond (eqb k 0) r 0) 0)

-- 1 where no child stands at a segment
abbrev pub gap_at : ℕ → ℕ → ℕ
gap_at b s = 1 - bit b s

-- THE PATH. It goes on to the child at the hash's segment, and stops at the one entry that the new one takes the place of.
abbrev pub child_of : Shape → State → ℕ → Place → Option ℕ
child_of z σ r (Ok (Some i)) = Some (kid_row z σ r i)
child_of z σ r (Ok None) = None
child_of z σ r (Err _) = None

unfoldable pub onward_in : Shape → State → ℕ → ℕ → ℕ → Option ℕ
onward_in z σ h t r = child_of z σ r (place_of (kid_bits z σ t r) (segment z.bits t h))

unfoldable pub on_onward : {A : Type 0} → Option ℕ → A → (ℕ → A) → A
on_onward None x f = x
on_onward (Some c) x f = f c

unfoldable pub stops : Shape → Bool → ℕ → Bool
stops z replaced r = cond replaced (names_kind z 1 r) false

abbrev pub reaches : ℕ → ℕ → Reach
reaches n r = record { branches = n; behind = r }

-- how many branches it has from the node r at depth t on, with n depths left, and what stands at its end
unfoldable pub reach_from : Shape → State → ℕ → Bool → ℕ → ℕ → ℕ → Reach
reach_from z σ h replaced zero t r = reaches t r
reach_from z σ h replaced (suc n) t r =
    cond (stops z replaced r) (reaches t 0)
    (on_onward (onward_in z σ h t r) (reaches (suc t) 0) (λ c. reach_from z σ h replaced n (suc t) c))

-- ROWS. The row f with x at place p, where what stood from there on goes up by g places.
unfoldable pub row_with : (ℕ → ℕ) → ℕ → ℕ → ℕ → ℕ → ℕ
row_with f p g x k = cond (eqb k p) x (cond (ltb p k) (f (k - g)) (f k))

abbrev pub row_at : Shape → State → ℕ → ℕ → ℕ → ℕ → ℕ → ℕ
row_at z σ r p g x = row_with (kid_row z σ r) p g x

-- the first n words of a list are those of a row
abbrev pub IsRow : ℕ → (ℕ → ℕ) → List ℕ → Type 0
IsRow n f w = (k : ℕ) → k < n → get_or w k 0 ≡ f k

-- a list of the length of every row, with nothing in it yet
pub record Blank (w : List ℕ) : Type 0 where
  pub long : length w ≡ 64
  pub none : (k : ℕ) → get_or w k 0 ≡ 0

-- of the first m words of a row those from n on are 0
abbrev pub NoneFrom : ℕ → ℕ → (ℕ → ℕ) → Type 0
NoneFrom n m f = (k : ℕ) → n ≤ k → k < m → f k ≡ 0

-- the first n references of a row are named once more
unfoldable pub row_shared : Shape → (ℕ → ℕ) → ℕ → List ℕ → List ℕ
row_shared z f zero a = a
row_shared z f (suc n) a = share_words z (row_shared z f n a) (f n)

unfoldable pub branch_made : Shape → List ℕ → ℕ → ℕ → (ℕ → ℕ) → Wrote
branch_made z a t b f = and_then (taken z a 0) (λ c w. wrote c (fill_branch_words z w c t b f))

-- a branch at depth t with the bitmap b and the row f of a node, and with x as the child at segment s: all others are shared
unfoldable pub put_in : Shape → ℕ → ℕ → (ℕ → ℕ) → ℕ → ℕ → List ℕ → Wrote
put_in z t b f s x a =
    let row = row_with f (below b s) (gap_at b s) x in
    branch_made z (row_shared z (upd row (below b s) 0) z.degree a) t (b + gap_at b s * 2 ^ s) row

unfoldable pub child_put : Shape → ℕ → ℕ → ℕ → ℕ → List ℕ → Wrote
child_put z h t r x a =
    put_in z t (kid_bits z (columns z a) t r) (kid_row z (columns z a) r) (segment z.bits t h) x a

abbrev pub below_put : Shape → ℕ → ℕ → ℕ → Wrote → Wrote
below_put z h t r s = and_then s (child_put z h t r)

-- THE NEW PATH from the node r at depth t on, with n depths left: the leaf at its end, and a new branch at each depth above
unfoldable pub graft_from : Shape → ℕ → ℕ → Bool → ℕ → ℕ → ℕ → List ℕ → Wrote
graft_from z h leaf replaced zero t r a = wrote leaf a
graft_from z h leaf replaced (suc n) t r a =
    cond (stops z replaced r) (wrote leaf a)
    (below_put z h t r
    (on_onward (onward_in z (columns z a) h t r) (wrote leaf a) (λ c. graft_from z h leaf replaced n (suc t) c a)))
