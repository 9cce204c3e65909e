-- A row of references is named once more, and a new branch takes a row that is in hand: what the two come to on an arena in the
-- local form.
use Prim.Native.Nat.{ℕ, zero, suc, ◌+◌, ◌≤◌, ◌<◌}
use mathlib.Core.Path.{◌≡◌, ap, ◌∙◌, fun_ext}
use mathlib.Core.Logic.{⊎_elim}
use mathlib.Core.List.{List}
use native.Mathlib.Omega.{arith}
use lib.ListN.{length, get_or, drop}
use borrow.Author.Tests.{lt-ltb, le-ltb}
use Rattle.cases.proofs.Cases.{lt?}
use Rattle.counts.specs.Counts.{ind, sum_to, times}
use Rattle.counts.proofs.CountLaws.{cnt_le}
use Rattle.layout.specs.declared.Shape.{Shape}
use Rattle.layout.specs.Layout.{cell_of, Lent}
use Rattle.layout.specs.Columns.{columns}
use Rattle.layout.proofs.OffsetLaws.{names_says}
use Rattle.trie.specs.Trie.{branch, Kids}
use Rattle.trie.specs.Canon.{Asc, AllKids}
use Rattle.arena.specs.Shows.{bitmap, Shows, ShowsRow}
use Rattle.arena.specs.Local.{Local}
use Rattle.arena.proofs.LocalLaws.{rehand, refree}
use Rattle.arena.proofs.Frames.{Grow-refl, Grow-trans, slots_refl, slots_trans, row_below, row_kept}
use Rattle.cells.specs.Frame.{Kept}
use Rattle.cells.specs.Mirrors.{wrote, taken, take_words, fill_branch_words}
use Rattle.cells.proofs.KeptLaws.{kept_refl, kept_trans, Kept-Lent, share_Kept, take_Kept, fill_branch_Kept}
use Rattle.cells.proofs.StepColumns.{one, row_up_to}
use Rattle.cells.proofs.Meaning.{Grown, share_means, Taken, take_means, Filled, fill_branch_means}
use Rattle.cells.proofs.Made.{left, taking, Made, then_on, next_free, one_taken, none_taken}
use Rattle.grafts.specs.Grafts.{row_shared, branch_made}
use Rattle.grafts.proofs.RowLaws.{row_clip}

-- SHARED ROWS
pub row_shared-Kept : (z : Shape) (f : ℕ → ℕ) (n : ℕ) (a : List ℕ) → Kept z a (row_shared z f n a)
unfolding row_shared
row_shared-Kept z f zero a = kept_refl z a
row_shared-Kept z f (suc n) a = kept_trans (row_shared-Kept z f n a) (share_Kept z (row_shared z f n a) (f n))

-- a row of live references is in hand once more
pub row_shared_means : {z : Shape} {a : List ℕ} {H : ℕ → ℕ} {free : ℕ → List ℕ} (f : ℕ → ℕ) (n : ℕ)
    → Lent z a → ((k : ℕ) → (f k ≡ 0 → ⊥) → 0 < (columns z a).count (f k)) → ((r : ℕ) → n + H r ≤ 1000000)
    → Local z (columns z a) H free
    → Grown z (columns z a) (columns z (row_shared z f n a)) (λ r. times n f r + H r) free
unfolding row_shared sum_to
row_shared_means {z} {a} f zero l live few I =
    record { local = rehand _ (λ r nz. omega arith) I; grow = Grow-refl (columns z a); slots = slots_refl (columns z a) }
row_shared_means {z} {a} {H} f (suc n) l live few I =
    let A = row_shared_means f n l live (λ r. omega (arith, few r)) I in
    let B = share_means (f n) (Kept-Lent (row_shared-Kept z f n a) l) (λ nz. A.grow.live (f n) (live n nz))
    (omega (arith, few (f n), cnt_le n f (f n))) A.local in
    record {
      local = rehand _ (λ r nz. omega arith) B.local;
      grow = Grow-trans A.grow B.grow;
      slots = slots_trans A.slots B.slots;
    }

-- NEW BRANCHES
row_full : (n : ℕ) (row : ℕ → ℕ) → ((k : ℕ) → n ≤ k → row k ≡ 0) → row_up_to n row ≡ row
unfolding row_up_to
row_full n row clip =
    fun_ext (λ k. ⊎_elim (λ l. rw (lt-ltb k n l)) (λ l. rw (le-ltb k n l, clip k l)) (lt? k n))

module _ {z : Shape} {a : List ℕ} {free : ℕ → List ℕ} (l : Lent z a) (t b c : ℕ) (row : ℕ → ℕ) (ks : Kids ℕ)
    (I : Local z (columns z a) (λ r. times z.degree row r) free)
    (eb : b ≡ bitmap ks) (asc : Asc ks) (within : AllKids (λ i n. i < z.degree) ks) (shows : ShowsRow (columns z a) ks t row)
    (deep : t < z.depths) (some : 0 < length (free 0)) (ec : c ≡ cell_of (get_or (free 0) 0 0)) where
  -- the cell that is taken, and the words behind it and behind its filling
  abbrev new : ℕ
  new = get_or (free 0) 0 0

  abbrev after : List ℕ
  after = take_words z a 0

  abbrev done : List ℕ
  done = fill_branch_words z after new t b row

  took : Taken z a 0 new (λ r. ind r new + times z.degree row r) (λ q. drop (ind q 0) (free q))
  took = take_means 0 (omega arith) l I new (drop 1 (free 0)) (next_free free 0 0 some)

  full : row_up_to z.degree row ≡ row
  full = row_full z.degree row (row_clip (columns z a) z.degree ks t row asc within shows)

  in_hand : Local z (columns z after) (λ r. times z.degree (row_up_to z.degree row) r + (ind r new + 0))
      (left (taking 0 1) free)
  in_hand =
      rw full
      (refree (λ p. ap (drop (ind p 0)) (none_taken free 0 p) ∙ one_taken free 0 0 p)
      (rehand _ (λ r nz. omega arith) took.grown.local))

  filled : Filled z new t (row_up_to z.degree row) (one b) (columns z after) (columns z done) (λ r. ind r new + 0)
      (left (taking 0 1) free)
  filled =
      fill_branch_means (λ r. 0) new (Kept-Lent (take_Kept z a 0 (omega arith)) l) took.alone took.bare
      t b row took.kind in_hand
      (rw full (row_below (columns z after) ks t row (row_kept took.grown.grow ks t row shows))) deep

  made : Made z a free (taking 0 1) (wrote new done)
  made =
      record {
        some = λ e. omega (arith, names_says z new took.named);
        kept = kept_trans (take_Kept z a 0 (omega arith)) (fill_branch_Kept z after new t b row took.named took.kind);
        local = rehand _ (λ r nz. omega arith) filled.local;
        grow = filled.grow took.grown.grow took.unused;
        slots = slots_trans took.grown.slots filled.slots;
      }

  shown : Shows (columns z done) (branch c ks) t new
  unfolding Shows one
  shown = (
    omega (arith, names_says z new took.named, took.kind, ec),
    omega (arith, ap (λ (g : ℕ → ℕ). g new) filled.count_eq, took.alone),
    filled.mark_is,
    ap (λ (g : ℕ → ℕ). g 0) filled.plain_is ∙ eb,
    asc,
    rw (filled.kid_is ∙ full) (row_kept made.grow ks t row shows),
  )

  answered : branch_made z a t b row ≡ wrote new done
  unfolding branch_made
  answered =
      then_on (taken z a 0) (λ r w. wrote r (fill_branch_words z w r t b row))
      (λ e. omega (arith, names_says z new took.named, took.taken))
      ∙ ap (λ (r : ℕ). wrote r (fill_branch_words z after r t b row)) took.taken

  -- the first free branch cell gets the row, which is all that was in hand, and shows its children
  pub branch_made_means : Made z a free (taking 0 1) (branch_made z a t b row)
      × Shows (columns z (branch_made z a t b row).words) (branch c ks) t (branch_made z a t b row).at
  branch_made_means = rw answered (made, shown)
