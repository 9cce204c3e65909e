-- A new path keeps words 0 to 7, the words beyond the total and the length, on any words: what is written is a share's count and
-- the words of branch cells that were taken.
use Prim.Native.Nat.{ℕ, zero, suc}
use mathlib.Core.Path.{refl}
use mathlib.Core.Bool.{Bool}
use mathlib.Core.List.{List}
use native.Mathlib.Omega.{arith}
use Rattle.cases.proofs.Cases.{split}
use Rattle.layout.specs.declared.Shape.{Shape}
use Rattle.layout.specs.Columns.{columns}
use Rattle.cells.specs.Frame.{Kept}
use Rattle.cells.specs.Mirrors.{Wrote, wrote, taken, taken_of, take_words}
use Rattle.cells.proofs.KeptLaws.{kept_refl, kept_trans, take_Kept, fill_branch_Kept}
use Rattle.cells.proofs.TakeLaws.{taken_cell}
use Rattle.cells.proofs.Made.{then_Kept}
use Rattle.grafts.specs.Grafts.{onward_in, on_onward, stops, branch_made, put_in, child_put, graft_from}
use Rattle.grafts.proofs.BranchLaws.{row_shared-Kept}
use Rattle.std.specs.Prelude.{Option, Some, None}

pub branch_kept : (z : Shape) (a : List ℕ) (t b : ℕ) (f : ℕ → ℕ) → Kept z a (branch_made z a t b f).words
unfolding branch_made
branch_kept z a t b f =
    then_Kept (taken z a 0) _ (take_Kept z a 0 (omega arith))
    (λ ne.
    let c = taken_cell z a 0 (taken_of z a 0) refl ne in
    fill_branch_Kept z (take_words z a 0) (taken_of z a 0) t b f c.0 c.1)

pub put_Kept : (z : Shape) (h t r x : ℕ) (a : List ℕ) → Kept z a (child_put z h t r x a).words
unfolding child_put put_in
put_Kept z h t r x a = kept_trans (row_shared-Kept z _ z.degree a) (branch_kept z _ t _ _)

pub below_Kept : {z : Shape} {a : List ℕ} (y : Option ℕ) (leaf : ℕ) (f : ℕ → Wrote) → ((c : ℕ) → Kept z a (f c).words)
    → Kept z a (on_onward y (wrote leaf a) f).words
unfolding on_onward
below_Kept {z} {a} None leaf f k = kept_refl z a
below_Kept (Some c) leaf f k = k c

pub graft_Kept : (z : Shape) (h leaf : ℕ) (rep : Bool) (n t r : ℕ) (a : List ℕ) → Kept z a (graft_from z h leaf rep n t r a).words
unfolding graft_from
graft_Kept z h leaf rep zero t r a = kept_refl z a
graft_Kept z h leaf rep (suc n) t r a =
    split (stops z rep r)
    (λ e. rw e (kept_refl z a))
    (λ e.
    rw e
    (then_Kept _ (child_put z h t r)
    (below_Kept (onward_in z (columns z a) h t r) leaf _ (λ c. graft_Kept z h leaf rep n (suc t) c a))
    (λ ne. put_Kept z h t r _ _)))
