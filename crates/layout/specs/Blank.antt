-- Document 01, "The arena": "Formatting chains free cells ascending, writes 0 elsewhere and so ends every edition."
use Rattle.std.specs.Prelude.{ℕ, zero, suc, ◌+◌, ◌*◌, cond, [], List, ◌∷◌, ◌++◌, drop, eqb}
use Rattle.layout.specs.declared.Shape.{Shape}
use Rattle.layout.specs.Layout.{reference, header_words, branches_at, entries_at, total}

unfoldable pub zeros : ℕ → List ℕ
zeros zero = []
zeros (suc n) = 0 ∷ zeros n

-- n free cells of kind k from cell i on, each with w words behind its first two: the last has no next
unfoldable pub free_cell_words : ℕ → ℕ → ℕ → ℕ → List ℕ
free_cell_words k w i zero = []
free_cell_words k w i (suc n) = 0 ∷ cond (eqb n 0) 0 (reference k (suc i)) ∷ (zeros w ++ free_cell_words k w (suc i) n)

abbrev pub header : Shape → List ℕ
header z =
    1
    ∷ z.degree
    ∷ z.branches
    ∷ z.entries
    ∷ z.slots
    ∷ header_words
    ∷ branches_at z
    ∷ entries_at z
    ∷ reference 0 0
    ∷ reference 1 0
    ∷ 0
    ∷ 0
    ∷ []

-- the words of an arena that has just been formatted, in their order; those beyond the total stay
unfoldable pub blank : Shape → List ℕ → List ℕ
blank z a =
    header z
    ++ (zeros (z.stride * z.slots)
    ++ (free_cell_words 0 (1 + z.degree) 0 z.branches ++ (free_cell_words 1 4 0 z.entries ++ drop (total z) a)))
