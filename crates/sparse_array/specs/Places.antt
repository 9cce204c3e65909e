-- The answer of `map_index` (document 01, "Port order", 1).
use Rattle.std.specs.Prelude.{ℕ, zero, suc, cond, ltb, Option, Some, None, Result, Ok, Err}
use Rattle.sparse_array.specs.Bitmap.{bit, below}
use Rattle.sparse_array.specs.declared.Refused.{Refused}

-- What a refused call answers.
abbrev pub refused : {A : Type 0} → Result A Refused
refused = Err (record {})

-- An answer that tells a place among the packed words, if there is one.
abbrev pub Place : Type 0
Place = Result (Option ℕ) Refused

-- The place k, where the bit is set.
abbrev pub place_if : ℕ → ℕ → Option ℕ
place_if zero k = None
place_if (suc _) k = Some k

-- The place of an index is its rank where its bit is set; an index of 64 or more is refused.
unfoldable pub place_of : ℕ → ℕ → Place
place_of b i = cond (ltb i 64) (Ok (place_if (bit b i) (below b i))) refused
