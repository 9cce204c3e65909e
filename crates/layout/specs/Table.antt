-- What differs between the kinds of cells, in one list: how many cells there are, where they begin, and how wide they are, each
-- of a branch and then of an entry.
use Rattle.std.specs.Prelude.{ℕ, List, [], ◌∷◌}
use Rattle.layout.specs.declared.Shape.{Shape}
use Rattle.layout.specs.Layout.{width_of, cells_of, cells_at}

abbrev pub table_of : Shape → List ℕ
table_of z = cells_of z 0 ∷ cells_of z 1 ∷ cells_at z 0 ∷ cells_at z 1 ∷ width_of z 0 ∷ width_of z 1 ∷ []
