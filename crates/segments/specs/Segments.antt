-- Document 01, "Depths" and "Port order", 2: the table of degrees, the segment of a hash at a depth, and what `index_from_hash` answers.
use Rattle.std.specs.Prelude.{ℕ, ◌*◌, ◌/◌, ◌%◌, ◌^◌, ◌≡◌, Bool, cond, List, [], ◌∷◌, ◌⊎◌, eqb, leb, Option, Some, None}
use Rattle.segments.specs.declared.Index.{Index}
use Rattle.segments.specs.declared.Index.TheVariants.{At, Exhausted, NoSuchDegree}
use Rattle.segments.specs.declared.DegreeRow.{DegreeRow}

-- "Depths", a row of the table: degree, bits, depths D, bits at the last depth.
pub record Row : Type 0 where
  pub degree : ℕ
  pub bits : ℕ
  pub depths : ℕ
  pub last : ℕ

abbrev pub row : ℕ → ℕ → ℕ → ℕ → Row
row g b d l = record { degree = g; bits = b; depths = d; last = l }

-- "Depths", the table: its six rows in their order.
unfoldable pub table : List Row
table =
    row 2 1 64 1
    ∷ row 4 2 32 2
    ∷ row 8 3 22 1
    ∷ row 16 4 16 4
    ∷ row 32 5 13 4
    ∷ row 64 6 11 4
    ∷ []

-- A row stands in a list of rows.
unfoldable pub Listed : List Row → Row → Type 0
Listed [] r = ⊥
Listed (q ∷ qs) r = (q ≡ r) ⊎ Listed qs r

-- What is found for a degree: the other three columns of its row.
abbrev pub found : ℕ → ℕ → ℕ → Option DegreeRow
found b d l = Some (record { bits = b; depths = d; last = l })

-- The first row of a degree in a list of rows, or none.
unfoldable pub find : List Row → ℕ → Option DegreeRow
find [] g = None
find (q ∷ qs) g = cond (eqb g q.degree) (found q.bits q.depths q.last) (find qs g)

-- The row of a degree in the table, or none: "bad degree" is one that is "not in the table".
unfoldable pub row_of : ℕ → Option DegreeRow
row_of g = find table g

-- "The segment at depth t is the hash divided by 2 to the power t·bits, modulo the degree." The degree is 2 to the power bits, which
-- is the first fact of the table's rule (proofs/TableLaws.antt).
unfoldable pub segment : ℕ → ℕ → ℕ → ℕ
segment bits t h = h / 2 ^ (t * bits) % 2 ^ bits

-- "`index_from_hash`: none once the shift reaches 64." The shift is t·bits, and the hash is exhausted from there on.
unfoldable pub exhausted : ℕ → ℕ → Bool
exhausted bits t = leb 64 (t * bits)

-- What `index_from_hash` answers. A degree that is not in the table has no shift.
unfoldable pub index_in : Option DegreeRow → ℕ → ℕ → Index
index_in (Some r) h t = cond (exhausted r.bits t) Exhausted (At (segment r.bits t h))
index_in None h t = NoSuchDegree

unfoldable pub index_of : ℕ → ℕ → ℕ → Index
index_of h t g = index_in (row_of g) h t
