-- What a bitmap and packed words mean: "children packed first", in ascending order (document 01, "The arena" and "The trie").
use Rattle.std.specs.Prelude.{ℕ, zero, suc, ◌+◌, ◌*◌, ◌^◌, cond, List, [], ◌∷◌, ◌++◌, eqb, get_or}
use Rattle.sparse_array.specs.Bitmap.{bit, below}

-- What stands at a virtual index.
pub data Slot : Type 0 where
  nothing : Slot
  word : ℕ → Slot

-- A slot by its bit: nothing where the bit is 0.
abbrev pub slot_of : ℕ → ℕ → Slot
slot_of zero x = nothing
slot_of (suc _) x = word x

-- The array that a bitmap and words show: an index whose bit is set holds the word at its rank.
unfoldable pub holds : ℕ → List ℕ → ℕ → Slot
holds b w i = slot_of (bit b i) (get_or w (below b i) 0)

-- The array with one slot put in the place of what stood at i.
unfoldable pub put : (ℕ → Slot) → ℕ → Slot → ℕ → Slot
put A i s j = cond (eqb j i) s (A j)

-- The words of one slot.
abbrev pub words_of : Slot → List ℕ
words_of nothing = []
words_of (word x) = x ∷ []

-- The words of the indexes below n, ascending.
unfoldable pub packed : (ℕ → Slot) → ℕ → List ℕ
packed A zero = []
packed A (suc n) = packed A n ++ words_of (A n)

-- 1 for a slot that holds a word.
abbrev pub held : Slot → ℕ
held nothing = 0
held (word _) = 1

-- The bitmap of the indexes below n that hold a word.
unfoldable pub bitmap_of : (ℕ → Slot) → ℕ → ℕ
bitmap_of A zero = 0
bitmap_of A (suc n) = bitmap_of A n + held (A n) * 2 ^ n
