-- Document 01, "The arena", restated: limits, offsets and references. What stands in quotes is document 01's. A shape is what the
-- header says and no call but format changes. All offsets are stated over its stride, the words in a slot, which is three.
use Rattle.std.specs.Prelude.{ℕ, ◌+◌, ◌-◌, ◌*◌, ◌/◌, ◌%◌, ◌≤◌, ◌≡◌, Bool, false, cond, List, eqb, ltb, length}
use Rattle.segments.specs.Segments.{row_of}
use Rattle.layout.specs.declared.Shape.{Shape}
use Rattle.layout.specs.declared.Kind.{Kind}
use Rattle.layout.specs.declared.Kind.TheVariants.{Branch, Entry}
use Rattle.segments.specs.Segments.{found}

-- REFERENCES. "0 is none, branch cell i is 2i+2, entry cell i is 2i+3." The kind of a branch is 0, that of an entry 1.
abbrev pub reference : ℕ → ℕ → ℕ
reference k i = 2 * i + 2 + k

abbrev pub number_of_kind : Kind → ℕ
number_of_kind Branch = 0
number_of_kind Entry = 1

abbrev pub kind_of : ℕ → ℕ
kind_of r = r % 2

abbrev pub cell_of : ℕ → ℕ
cell_of r = r / 2 - 1

-- WIDTHS. "Branch cell: count, depth, bitmap, children", as many as the degree. "Entry cell: count, chain length from here,
-- next, hash, key, value."
unfoldable pub width_of : Shape → ℕ → ℕ
width_of z k = cond (eqb k 0) (3 + z.degree) 6

-- how many cells there are of a kind: B or N
unfoldable pub cells_of : Shape → ℕ → ℕ
cells_of z k = cond (eqb k 0) z.branches z.entries

-- OFFSETS. "12", "12 + 3·S", "word 6 + B·(3 + degree)"; "the total is word 7 + 6·N".
abbrev pub header_words : ℕ
header_words = 12

abbrev pub branches_at : Shape → ℕ
branches_at z = header_words + z.stride * z.slots

abbrev pub entries_at : Shape → ℕ
entries_at z = branches_at z + z.branches * (3 + z.degree)

abbrev pub total : Shape → ℕ
total z = entries_at z + 6 * z.entries

unfoldable pub cells_at : Shape → ℕ → ℕ
cells_at z k = cond (eqb k 0) (branches_at z) (entries_at z)

-- where word p of slot s lies
unfoldable pub slot_at : Shape → ℕ → ℕ → ℕ
slot_at z s p = header_words + s * z.stride + p

-- where word p of the cell that r names lies
unfoldable pub word_at : Shape → ℕ → ℕ → ℕ
word_at z r p = cells_at z (kind_of r) + cell_of r * width_of z (kind_of r) + p

-- whether r names a cell, and whether word p is one of a cell that r names
unfoldable pub names : Shape → ℕ → Bool
names z r = cond (ltb r 2) false (ltb (cell_of r) (cells_of z (kind_of r)))

unfoldable pub has : Shape → ℕ → ℕ → Bool
has z r p = cond (names z r) (ltb p (width_of z (kind_of r))) false

-- LIMITS. "branch cells B, 1 to 1,048,576", "entry cells N, 1 to 4,194,304", "edition slots S, 1 to 4,096".
abbrev pub most_branches : ℕ
most_branches = 1048576

abbrev pub most_entries : ℕ
most_entries = 4194304

abbrev pub most_slots : ℕ
most_slots = 4096

-- the bits and depths are those of the degree's row in the table; a slot has three to five words
pub record Allowed (z : Shape) : Type 0 where
  pub last : ℕ
  pub in_table : row_of z.degree ≡ found z.bits z.depths last
  pub some_branches : 1 ≤ z.branches
  pub few_branches : z.branches ≤ most_branches
  pub some_entries : 1 ≤ z.entries
  pub few_entries : z.entries ≤ most_entries
  pub some_slots : 1 ≤ z.slots
  pub few_slots : z.slots ≤ most_slots
  pub wide : 3 ≤ z.stride
  pub narrow : z.stride ≤ 5

-- a slice that is long enough for an arena of this shape
pub record Lent (z : Shape) (a : List ℕ) : Type 0 where
  pub allowed : Allowed z
  pub long : total z ≤ length a
