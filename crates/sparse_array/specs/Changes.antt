-- What `set` and `remove` leave (document 01, "Port order", 1; "children packed first, the other child words 0").
use Rattle.std.specs.Prelude.{ℕ, ◌+◌, ◌-◌, ◌^◌, ◌≤◌, ◌<◌, true, false, ◌≡◌, List, length, get_or, Result, Ok, Err}
use Rattle.sparse_array.specs.Bitmap.{bit, size_of}
use Rattle.sparse_array.specs.Array.{Slot, nothing, word, holds, put}
use Rattle.sparse_array.specs.Room.{granted}
use Rattle.sparse_array.specs.declared.Refused.{Refused}

-- Bitmap b and words w become b' and w', which show the array A. Of the words behind the packed ones, those that were
-- packed before are 0 and the others stay.
pub record Becomes (b : ℕ) (w : List ℕ) (A : ℕ → Slot) (b' : ℕ) (w' : List ℕ) : Type 0 where
  pub fits : b' < 2 ^ 64
  pub room : size_of b' ≤ length w'
  pub shows : (j : ℕ) → holds b' w' j ≡ A j
  pub given_up : (k : ℕ) → size_of b' ≤ k → k < size_of b → get_or w' k 0 ≡ 0
  pub rest : (k : ℕ) → size_of b' ≤ k → size_of b ≤ k → get_or w' k 0 ≡ get_or w k 0
  pub long : length w' ≡ length w

-- A change at index i that needs so many words of room: refused with every word as before, or else the array becomes A.
abbrev pub Changes : (b : ℕ) (w : List ℕ) (i need : ℕ) (A : ℕ → Slot) → Result ℕ Refused → List ℕ → Type 0
Changes b w i need A (Ok b') w' = (granted i need w ≡ true) × Becomes b w A b' w'
Changes b w i need A (Err _) w' = (granted i need w ≡ false) × (w' ≡ w)

-- `set` puts a word at an index, and needs one word more where the index held nothing.
abbrev pub Sets : (b : ℕ) (w : List ℕ) (i v : ℕ) → Result ℕ Refused → List ℕ → Type 0
Sets b w i v = Changes b w i (size_of b + (1 - bit b i)) (put (holds b w) i (word v))

-- `remove` leaves nothing at an index.
abbrev pub Removes : (b : ℕ) (w : List ℕ) (i : ℕ) → Result ℕ Refused → List ℕ → Type 0
Removes b w i = Changes b w i (size_of b) (put (holds b w) i nothing)
