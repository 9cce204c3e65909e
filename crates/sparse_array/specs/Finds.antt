-- The answers of `get`, `first` and `pop` (document 01, "Port order", 1).
use Rattle.std.specs.Prelude.{ℕ, Bool, cond, List, [], ◌∷◌, leb, length, Option, Some, None, Result, Ok}
use Rattle.sparse_array.specs.Bitmap.{size_of}
use Rattle.sparse_array.specs.Array.{Slot, nothing, word, holds, packed}
use Rattle.sparse_array.specs.Room.{granted}
use Rattle.sparse_array.specs.Places.{refused}
use Rattle.sparse_array.specs.declared.Refused.{Refused}

-- A slot as an answer.
abbrev pub found_of : Slot → Option ℕ
found_of nothing = None
found_of (word x) = Some x

-- An answer that is given only where the call is granted.
abbrev pub read_if : Bool → Option ℕ → Result (Option ℕ) Refused
read_if ok f = cond ok (Ok f) refused

-- What `get` finds: what the array holds at the index.
abbrev pub read_at : ℕ → List ℕ → ℕ → Result (Option ℕ) Refused
read_at b w i = read_if (granted i (size_of b) w) (found_of (holds b w i))

-- The first of a list of words.
abbrev pub first_of : List ℕ → Option ℕ
first_of [] = None
first_of (x ∷ xs) = Some x

-- The last of a list of words.
abbrev pub last_of : List ℕ → Option ℕ
last_of [] = None
last_of (x ∷ []) = Some x
last_of (x ∷ (y ∷ ys)) = last_of (y ∷ ys)

-- What `first` and `pop` find, f being `first_of` and `last_of`: a word among the words of the array in ascending order.
abbrev pub read_packed : (List ℕ → Option ℕ) → ℕ → List ℕ → Result (Option ℕ) Refused
read_packed f b w = read_if (leb (size_of b) (length w)) (f (packed (holds b w) 64))
