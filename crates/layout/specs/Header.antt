-- Document 01, "The arena", the table of the header: words 0 to 7 and the length of the slice. As sentences (`Header`), and as
-- the test that decides them (`header_of`); that the two agree is `Header-says`.
use Rattle.std.specs.Prelude.{ℕ, ◌≤◌, ◌≡◌, Bool, false, cond, List, eqb, leb, length, get_or, Option, Some, None, Result, Ok, Err}
use Rattle.segments.specs.Segments.{row_of}
use Rattle.layout.specs.declared.Shape.{Shape}
use Rattle.layout.specs.Layout.{header_words, branches_at, entries_at, total, most_branches, most_entries, most_slots, Allowed}
use Rattle.layout.specs.declared.Misfit.{Misfit}
use Rattle.layout.specs.declared.Misfit.TheVariants.{BadDegree, BadSizes}
use Rattle.segments.specs.declared.DegreeRow.{DegreeRow}

-- "words 0 to 7 right" and the slice not "shorter than 12 words or the total", with the shape read off
pub record Header (a : List ℕ) (z : Shape) : Type 0 where
  pub allowed : Allowed z
  pub three : z.stride ≡ 3
  pub word_0 : get_or a 0 0 ≡ 1
  pub word_1 : get_or a 1 0 ≡ z.degree
  pub word_2 : get_or a 2 0 ≡ z.branches
  pub word_3 : get_or a 3 0 ≡ z.entries
  pub word_4 : get_or a 4 0 ≡ z.slots
  pub word_5 : get_or a 5 0 ≡ header_words
  pub word_6 : get_or a 6 0 ≡ branches_at z
  pub word_7 : get_or a 7 0 ≡ entries_at z
  pub long : total z ≤ length a

-- THE TEST
unfoldable pub within : ℕ → ℕ → Bool
within x most = cond (leb 1 x) (leb x most) false

unfoldable pub are_sizes_fit : ℕ → ℕ → ℕ → Bool
are_sizes_fit b n s = cond (within b most_branches) (cond (within n most_entries) (within s most_slots) false) false

abbrev pub shape : ℕ → ℕ → ℕ → ℕ → ℕ → ℕ → Shape
shape g bits depths b n s =
    record { degree = g; bits = bits; depths = depths; stride = 3; slots = s; branches = b; entries = n }

unfoldable pub shape_in : Option DegreeRow → ℕ → ℕ → ℕ → ℕ → Result Shape Misfit
shape_in (Some r) g b n s = cond (are_sizes_fit b n s) (Ok (shape g r.bits r.depths b n s)) (Err BadSizes)
shape_in None g b n s = Err BadDegree

-- the shape of a degree and three sizes, or what is wrong with them, the degree first
unfoldable pub shape_of : ℕ → ℕ → ℕ → ℕ → Result Shape Misfit
shape_of g b n s = shape_in (row_of g) g b n s

unfoldable pub are_offsets_fit : List ℕ → Shape → Bool
are_offsets_fit a z =
    cond (eqb (get_or a 5 0) header_words)
    (cond (eqb (get_or a 6 0) (branches_at z)) (cond (eqb (get_or a 7 0) (entries_at z)) (leb (total z) (length a)) false) false)
    false

unfoldable pub right_in : List ℕ → Result Shape Misfit → Option Shape
right_in a (Ok z) = cond (are_offsets_fit a z) (Some z) None
right_in a (Err why) = None

unfoldable pub header_of : List ℕ → Option Shape
header_of a =
    cond (leb header_words (length a))
    (cond (eqb (get_or a 0 0) 1) (right_in a (shape_of (get_or a 1 0) (get_or a 2 0) (get_or a 3 0) (get_or a 4 0))) None)
    None
