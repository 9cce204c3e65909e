-- The new path of a removal keeps words 0 to 7, the words beyond the total and the length, on any words: what is written is a
-- share's count and the words of branch cells that were taken.
use Rattle.std.proofs.Common.{ℕ, zero, suc, false, cond, List}
use Rattle.cases.proofs.Cases.{split}
use Rattle.segments.specs.Segments.{segment}
use Rattle.layout.specs.declared.Shape.{Shape}
use Rattle.layout.specs.Columns.{columns}
use Rattle.lookup.specs.Lookup.{names_kind}
use Rattle.cells.specs.Frame.{Kept}
use Rattle.cells.proofs.KeptLaws.{kept_refl, kept_trans, share_Kept}
use Rattle.cells.proofs.Made.{then_Kept}
use Rattle.grafts.specs.Grafts.{onward_in}
use Rattle.grafts.proofs.BranchLaws.{row_shared-Kept}
use Rattle.grafts.proofs.KeptLaws.{branch_kept, put_Kept, below_Kept}
use Rattle.prunes.specs.Prunes.{is_a_single, is_the_only, is_lone, place_at, child_settled, cut_at, child_cut, is_emptied, prune_from}

pub child_settled-Kept : (z : Shape) (h t r x : ℕ) (a : List ℕ) → Kept z a (child_settled z h t r x a).words
unfolding child_settled
child_settled-Kept z h t r x a =
    split (cond (is_the_only z (columns z a) r) (is_a_single z (columns z a) x) false)
    (λ e. rw e (kept_refl z a))
    (λ e. rw e (put_Kept z h t r x a))

cut_at-Kept : (z : Shape) (s t r p : ℕ) (a : List ℕ) → Kept z a (cut_at z s t r p a).words
unfolding cut_at
cut_at-Kept z s t r p a = kept_trans (row_shared-Kept z _ z.degree a) (branch_kept z _ t _ _)

pub child_cut-Kept : (z : Shape) (h t r : ℕ) (a : List ℕ) → Kept z a (child_cut z h t r a).words
unfolding child_cut
child_cut-Kept z h t r a =
    split (is_lone z (columns z a) r (place_at z (columns z a) h t r))
    (λ e. rw e (share_Kept z a _))
    (λ e. rw e (cut_at-Kept z (segment z.bits t h) t r (place_at z (columns z a) h t r) a))

pub prune_Kept : (z : Shape) (h leaf n t r : ℕ) (a : List ℕ) → Kept z a (prune_from z h leaf n t r a).words
unfolding prune_from
prune_Kept z h leaf zero t r a = kept_refl z a
prune_Kept z h leaf (suc n) t r a =
    split (names_kind z 1 r)
    (λ e. rw e (kept_refl z a))
    (λ e.
    rw e
    (below_Kept (onward_in z (columns z a) h t r) 0 _
    (λ c.
    split (is_emptied z leaf n c)
    (λ o. rw o (child_cut-Kept z h t r a))
    (λ o.
    rw o
    (then_Kept _ (child_settled z h t r) (prune_Kept z h leaf n (suc t) c a) (λ ne. child_settled-Kept z h t r _ _))))))
