-- The new path of a removal, on any words: document 01, "An emptied child leaves its branch. Then, upwards, each branch on the path
-- whose only child is a single becomes that single, root included. A branch whose only child is a branch or chain stays", followed
-- through the columns of an arena. On an edition this is what the trie's own definition makes (proofs/Meaning.antt).
use Rattle.std.specs.Prelude.{ℕ, zero, suc, ◌-◌, ◌*◌, ◌^◌, Bool, true, false, cond, List, eqb, ltb}
use Rattle.segments.specs.Segments.{segment}
use Rattle.sparse_array.specs.Bitmap.{bit, below}
use Rattle.layout.specs.declared.Shape.{Shape}
use Rattle.layout.specs.Columns.{State, columns}
use Rattle.lookup.specs.Lookup.{names_kind}
use Rattle.cells.specs.Mirrors.{Wrote, wrote, and_then, one_more, share_words}
use Rattle.grafts.specs.Grafts.{kid_bits, kid_row, onward_in, on_onward, row_shared, branch_made, child_put}
use Rattle.prunes.specs.declared.Left.{Left}
use Rattle.prunes.specs.declared.Left.TheVariants.{Nothing, Single, More}

-- SINGLES. An entry with none behind it; a branch with no second child.
unfoldable pub is_a_single : Shape → State → ℕ → Bool
is_a_single z σ r = cond (names_kind z 1 r) (eqb (σ.mark r) 1) false

unfoldable pub is_the_only : Shape → State → ℕ → Bool
is_the_only z σ r = eqb (kid_row z σ r 1) 0

-- ROWS. The row f without the word at place p, and the children of r without the one there.
unfoldable pub row_out : (ℕ → ℕ) → ℕ → ℕ → ℕ
row_out f p k = cond (ltb k p) (f k) (f (suc k))

abbrev pub out_at : Shape → State → ℕ → ℕ → ℕ → ℕ
out_at z σ r p = row_out (kid_row z σ r) p

-- a single is all that is left of them
unfoldable pub is_lone : Shape → State → ℕ → ℕ → Bool
is_lone z σ r p = cond (eqb (out_at z σ r p 1) 0) (is_a_single z σ (out_at z σ r p 0)) false

-- the place of the child at the hash's segment
abbrev pub place_at : Shape → State → ℕ → ℕ → ℕ → ℕ
place_at z σ h t r = below (kid_bits z σ t r) (segment z.bits t h)

-- WHAT WILL BE LEFT, and how many branches stand on the path to it: of a chain of so many entries,
unfoldable pub left_of_chain : ℕ → Left
left_of_chain zero = Nothing
left_of_chain (suc zero) = Single
left_of_chain (suc (suc n)) = More 0

-- of a branch whose child on the path is emptied,
unfoldable pub left_of_cut : Shape → State → ℕ → ℕ → ℕ → Left
left_of_cut z σ h t r =
    let p = place_at z σ h t r in
    cond (eqb (out_at z σ r p 0) 0) Nothing (cond (is_lone z σ r p) Single (More 1))

-- of a branch, by what is left of that child,
unfoldable pub left_of_settled : Shape → State → ℕ → ℕ → ℕ → Left → Left
left_of_settled z σ h t r Nothing = left_of_cut z σ h t r
left_of_settled z σ h t r Single = cond (is_the_only z σ r) Single (More 1)
left_of_settled z σ h t r (More n) = More (one_more n)

-- and of the node r at depth t, with n depths left, if l entries are left of the chain at the end of the path
unfoldable pub left_from : Shape → State → ℕ → ℕ → ℕ → ℕ → ℕ → Left
left_from z σ h l zero t r = left_of_chain l
left_from z σ h l (suc n) t r =
    cond (names_kind z 1 r) (left_of_chain l)
    (on_onward (onward_in z σ h t r) (More 0) (λ c. left_of_settled z σ h t r (left_from z σ h l n (suc t) c)))

-- ONE STEP UP. The branch r at depth t with x as the child on the path: x itself, where it is a single and the only child.
abbrev pub is_coming_up : Shape → State → ℕ → ℕ → Bool
is_coming_up z σ r x = cond (is_the_only z σ r) (is_a_single z σ x) false

unfoldable pub child_settled : Shape → ℕ → ℕ → ℕ → ℕ → List ℕ → Wrote
child_settled z h t r x a = cond (is_coming_up z (columns z a) r x) (wrote x a) (child_put z h t r x a)

abbrev pub below_settled : Shape → ℕ → ℕ → ℕ → Wrote → Wrote
below_settled z h t r s = and_then s (child_settled z h t r)

-- The branch r without the child at segment s, which stands at place p: all others are shared.
unfoldable pub cut_at : Shape → ℕ → ℕ → ℕ → ℕ → List ℕ → Wrote
cut_at z s t r p a =
    let b = kid_bits z (columns z a) t r in
    let row = out_at z (columns z a) r p in
    branch_made z (row_shared z row z.degree a) t (b - bit b s * 2 ^ s) row

-- the one child that is left, where it is a single
unfoldable pub child_cut : Shape → ℕ → ℕ → ℕ → List ℕ → Wrote
child_cut z h t r a =
    let p = place_at z (columns z a) h t r in
    let x = out_at z (columns z a) r p 0 in
    cond (is_lone z (columns z a) r p) (wrote x (share_words z a x)) (cut_at z (segment z.bits t h) t r p a)

-- THE NEW PATH from the node r at depth t on, with n depths left: the leaf at its end, which is 0 where nothing is left of the
-- chain there
unfoldable pub is_emptied : Shape → ℕ → ℕ → ℕ → Bool
is_emptied z leaf n c = cond (eqb leaf 0) (cond (eqb n 0) true (names_kind z 1 c)) false

unfoldable pub prune_from : Shape → ℕ → ℕ → ℕ → ℕ → ℕ → List ℕ → Wrote
prune_from z h leaf zero t r a = wrote leaf a
prune_from z h leaf (suc n) t r a =
    cond (names_kind z 1 r) (wrote leaf a)
    (on_onward (onward_in z (columns z a) h t r) (wrote 0 a)
    (λ c. cond (is_emptied z leaf n c) (child_cut z h t r a) (below_settled z h t r (prune_from z h leaf n (suc t) c a))))
