-- What `index_of` answers, by the columns of a degree's row: below D the segment, from D on that the hash is exhausted. The row stands in the
-- table, where a depth is below D exactly if its shift is below 64.
-- Assumes nothing.
use Rattle.std.proofs.Common.{◌≡◌, ℕ, ◌*◌, ◌<◌, ◌≤◌, true, false, None, le_trans, mul-le-mul_right, arith, leb-false, leb-true}
use Rattle.cases.proofs.Cases.{split}
use Rattle.segments.specs.declared.Index.TheVariants.{At, Exhausted, NoSuchDegree}
use Rattle.segments.specs.Segments.{row, segment, row_of, exhausted, index_in, index_of}
use Rattle.segments.proofs.TableLaws.{Right, row_Right, depths_cover, below_depths, row_of_in}
use Rattle.segments.specs.Segments.{found}

module _ (g bits depths last : ℕ) (is : row_of g ≡ found bits depths last) where
  pub found_right : Right (row g bits depths last)
  found_right = row_Right (row g bits depths last) (row_of_in g bits depths last is)

  pub shift_below : (t : ℕ) → t < depths → t * bits < 64
  shift_below t l = (below_depths (row g bits depths last) found_right t).0 l

  shift_past : (t : ℕ) → depths ≤ t → 64 ≤ t * bits
  shift_past t l = le_trans (depths_cover (row g bits depths last) found_right) (mul-le-mul_right bits l)

  not_exhausted : (t : ℕ) → t < depths → exhausted bits t ≡ false
  unfolding exhausted
  not_exhausted t l =
      split (exhausted bits t) (λ e. absurd (omega (arith, leb-true, shift_below t l))) (λ e. e)

  is_exhausted : (t : ℕ) → depths ≤ t → exhausted bits t ≡ true
  unfolding exhausted
  is_exhausted t l =
      split (exhausted bits t) (λ e. e) (λ e. absurd (omega (arith, leb-false, shift_past t l)))

  pub index_at : (h t : ℕ) → t < depths → index_of h t g ≡ At (segment bits t h)
  unfolding index_of index_in
  index_at h t l = simp (is, not_exhausted t l)

  pub index_Exhausted : (h t : ℕ) → depths ≤ t → index_of h t g ≡ Exhausted
  unfolding index_of index_in
  index_Exhausted h t l = simp (is, is_exhausted t l)

pub index_no_degree : (h t g : ℕ) → row_of g ≡ None → index_of h t g ≡ NoSuchDegree
unfolding index_of index_in
index_no_degree h t g none = simp none
