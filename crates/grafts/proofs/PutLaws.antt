-- A branch copied with one child put in: what stood beside it is shared, and what was in hand is now below the new branch.
use Prim.Native.Nat.{ℕ, suc, ◌+◌, ◌<◌}
use mathlib.Core.Path.{◌≡◌, refl, sym, ap, ◌∙◌}
use mathlib.Core.Logic.{⊎_elim}
use mathlib.Core.List.{List}
use native.Mathlib.Omega.{arith}
use lib.ListN.{length, get_or}
use Rattle.cases.proofs.Cases.{eq?}
use Rattle.counts.specs.Counts.{upd, ind, times}
use Rattle.counts.proofs.CountLaws.{upd_same, upd_other, ind_other, ind_le, cnt_upd}
use Rattle.sparse_array.specs.Bitmap.{below}
use Rattle.sparse_array.proofs.Bitmap.{below_le}
use Rattle.layout.specs.declared.Shape.{Shape}
use Rattle.layout.specs.Layout.{cell_of, Lent}
use Rattle.layout.specs.Columns.{State, columns}
use Rattle.layout.proofs.SizeLaws.{small}
use Rattle.trie.specs.Trie.{Node, branch, Kids, put}
use Rattle.trie.specs.Canon.{Asc, AllKids}
use Rattle.trie.proofs.KidsLaws.{Asc-put, all_put}
use Rattle.arena.specs.Shows.{bitmap, Shows, ShowsRow}
use Rattle.arena.specs.Local.{Local, Grow, SameSlots}
use Rattle.arena.proofs.LocalLaws.{rehand}
use Rattle.arena.proofs.Frames.{Grow-trans, slots_trans, row_live, row_kept}
use Rattle.cells.specs.Frame.{Kept}
use Rattle.cells.specs.Mirrors.{Wrote}
use Rattle.cells.proofs.KeptLaws.{kept_trans, Kept-Lent}
use Rattle.cells.proofs.Meaning.{Grown}
use Rattle.cells.proofs.Made.{taking, Made}
use Rattle.grafts.specs.Grafts.{gap_at, row_with, row_shared, put_in}
use Rattle.grafts.proofs.RowLaws.{with_at, bitmap-put, row_put}
use Rattle.grafts.proofs.BranchLaws.{row_shared-Kept, row_shared_means, branch_made_means}

-- a row without the word at one place lives where the row does
rest_live : (σ : State) (row : ℕ → ℕ) (p : ℕ) → ((k : ℕ) → (row k ≡ 0 → ⊥) → 0 < σ.count (row k))
    → (k : ℕ) → (upd row p 0 k ≡ 0 → ⊥) → 0 < σ.count (upd row p 0 k)
rest_live σ row p live k nz =
    ⊎_elim
    (λ e. absurd (nz (upd_same row p 0 k e)))
    (λ ne. let e = upd_other row p 0 k ne in rw e (live k (λ y. nz (e ∙ y))))
    (eq? k p)

-- what was made from words that had grown was made from the words before
pub made_after : {z : Shape} {a w : List ℕ} {free : ℕ → List ℕ} {n : ℕ → ℕ} {s : Wrote}
    → Kept z a w → Grow (columns z a) (columns z w) → SameSlots (columns z a) (columns z w) → Made z w free n s
    → Made z a free n s
made_after k g e M =
    record {
      some = M.some;
      kept = kept_trans k M.kept;
      local = M.local;
      grow = Grow-trans g M.grow;
      slots = slots_trans e M.slots;
    }

module _ {z : Shape} {a : List ℕ} {free : ℕ → List ℕ} (l : Lent z a) (t s x c : ℕ) (f : ℕ → ℕ) (ks : Kids ℕ) (m : Node ℕ)
    (I : Local z (columns z a) (λ r. ind r x) free) (shows : Shows (columns z a) m (suc t) x)
    (asc : Asc ks) (within : AllKids (λ i n. i < z.degree) ks) (ls : s < z.degree) (shown : ShowsRow (columns z a) ks t f)
    (deep : t < z.depths) (some : 0 < length (free 0)) (ec : c ≡ cell_of (get_or (free 0) 0 0)) where
  -- the new row and the place of the child in it, and the words in which the others are shared
  abbrev p : ℕ
  p = below (bitmap ks) s

  abbrev row : ℕ → ℕ
  row = row_with f p (gap_at (bitmap ks) s) x

  abbrev others : ℕ → ℕ
  others = upd row p 0

  abbrev after : List ℕ
  after = row_shared z others z.degree a

  row_shown : ShowsRow (columns z a) (put s m ks) t row
  row_shown = row_put (columns z a) s m ks t x f asc shows shown

  shared : Grown z (columns z a) (columns z after) (λ r. times z.degree others r + ind r x) free
  shared =
      row_shared_means others z.degree l (rest_live (columns z a) row p (row_live (columns z a) (put s m ks) t row row_shown))
      (λ r. omega (arith, (small z l.allowed).degree_high, ind_le r x)) I

  -- the others and the child are the row
  in_hand : Local z (columns z after) (λ r. times z.degree row r) free
  in_hand =
      rehand _
      (λ r nz.
      omega (
        arith,
        cnt_upd z.degree row p 0 r (omega (arith, below_le (bitmap ks) s)),
        ap (ind r) (with_at f p (gap_at (bitmap ks) s) x p refl),
        ind_other r 0 (λ e. nz (sym e)),
      ))
      shared.local

  put_by_bits : Made z a free (taking 0 1) (put_in z t (bitmap ks) f s x a)
      × Shows (columns z (put_in z t (bitmap ks) f s x a).words) (branch c (put s m ks)) t (put_in z t (bitmap ks) f s x a).at
  unfolding put_in
  put_by_bits =
      let kept = row_shared-Kept z others z.degree a in
      let (M, S) =
      branch_made_means (Kept-Lent kept l) t _ c row (put s m ks) in_hand (sym (bitmap-put s m ks asc))
      (Asc-put s m ks asc) (all_put (λ i n. i < z.degree) s m ks ls within)
      (row_kept shared.grow (put s m ks) t row row_shown)
      deep some ec in
      (made_after kept shared.grow shared.slots M, S)

pub put_means : {z : Shape} {a : List ℕ} {free : ℕ → List ℕ} → Lent z a → (t b s x c : ℕ) (f : ℕ → ℕ) (ks : Kids ℕ) (m : Node ℕ)
    → Local z (columns z a) (λ r. ind r x) free
    → Shows (columns z a) m (suc t) x
    → b ≡ bitmap ks → Asc ks → AllKids (λ i n. i < z.degree) ks → s < z.degree → ShowsRow (columns z a) ks t f
    → t < z.depths → 0 < length (free 0) → c ≡ cell_of (get_or (free 0) 0 0)
    → Made z a free (taking 0 1) (put_in z t b f s x a)
    × Shows (columns z (put_in z t b f s x a).words) (branch c (put s m ks)) t (put_in z t b f s x a).at
put_means l t b s x c f ks m I shows eb asc within ls shown deep some ec =
    rw eb (put_by_bits l t s x c f ks m I shows asc within ls shown deep some ec)
