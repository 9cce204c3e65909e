-- What `get`, `first` and `pop` answer: the packed words are the first ones of the slice, so that the first and the last of
-- them stand at its front and at the size less one. Assumes nothing.
use Prim.Native.Nat.{ℕ, suc, ◌-◌, ◌≤◌, ◌<◌}
use mathlib.Core.Path.{◌≡◌, refl, sym, ap, ◌∙◌}
use mathlib.Core.Bool.{false}
use mathlib.Core.List.{List, [], ◌∷◌}
use native.Mathlib.Omega.{arith}
use borrow.Author.Tests.{le-leb, lt-leb}
use lib.ListN.{length, get_or, take}
use Rattle.std.specs.List.{slice_get}
use Rattle.sparse_array.specs.Bitmap.{size_of}
use Rattle.sparse_array.specs.Array.{holds, packed}
use Rattle.sparse_array.specs.Room.{granted}
use Rattle.sparse_array.specs.Finds.{found_of, read_if, read_at, first_of, last_of, read_packed}
use Rattle.std.specs.Prelude.{Option, Some, None, Ok}
use Rattle.sparse_array.specs.Places.{refused}
use Rattle.sparse_array.proofs.Array.{holds-word, holds-nothing, words_back}
use Rattle.sparse_array.proofs.Places.{Says}
use Rattle.sparse_array.proofs.Room.{granted_both}

-- The first and the last of a list, as a slice answers them.
slice_first : (xs : List ℕ) → slice_get xs 0 ≡ first_of xs
slice_first [] = refl
slice_first (x ∷ xs) = refl

slice_last : (xs : List ℕ) → slice_get xs (length xs - 1) ≡ last_of xs
slice_last [] = refl
slice_last (x ∷ []) = ap (slice_get (x ∷ [])) {x = length (x ∷ []) - 1} {y = 0} (omega arith)
slice_last (x ∷ (y ∷ ys)) =
    ap (slice_get (x ∷ (y ∷ ys))) {x = length (x ∷ (y ∷ ys)) - 1} {y = suc (length (y ∷ ys) - 1)} (omega arith) ∙ slice_last (y ∷ ys)

module _ (b : ℕ) (w : List ℕ) where
  get_granted : (i : ℕ) → i < 64 → size_of b ≤ length w → read_at b w i ≡ Ok (found_of (holds b w i))
  get_granted i h r = ap (λ t. read_if t (found_of (holds b w i))) (granted_both i (size_of b) w h r)

  pub get_Word : (i k : ℕ) → Says b i (Ok (Some k)) → size_of b ≤ length w → read_at b w i ≡ Ok (Some (get_or w k 0))
  get_Word i k p r = get_granted i p.0 r ∙ ap (λ s. Ok (found_of s)) (holds-word b w i p.1) ∙ ap (λ (n : ℕ). Ok (Some (get_or w n 0))) (sym p.2)

  pub get_Nothing : (i : ℕ) → Says b i (Ok None) → size_of b ≤ length w → read_at b w i ≡ Ok None
  get_Nothing i p r = get_granted i p.0 r ∙ ap (λ s. Ok (found_of s)) (holds-nothing b w i p.1)

  pub get_refused : (i : ℕ) → granted i (size_of b) w ≡ false → read_at b w i ≡ refused
  get_refused i g = ap (λ t. read_if t (found_of (holds b w i))) g

  -- One of the packed words, as f picks it.
  module _ (f : List ℕ → Option ℕ) where
    pub packed_Refused : length w < size_of b → read_packed f b w ≡ refused
    packed_Refused h = ap (λ t. read_if t (f (packed (holds b w) 64))) (lt-leb (size_of b) (length w) h)

    pub packed_granted : size_of b ≤ length w → read_packed f b w ≡ Ok (f (take (size_of b) w))
    packed_granted h =
        ap (λ t. read_if t (f (packed (holds b w) 64))) (le-leb (size_of b) (length w) h) ∙ ap (λ xs. Ok (f xs)) (words_back b w h)

  module _ (n : ℕ) (r : Option ℕ) (en : n ≡ size_of b) (h : n ≤ length w) where
    packed_is : (f : List ℕ → Option ℕ) → r ≡ f (take n w) → Ok r ≡ read_packed f b w
    packed_is f er = ap Ok er ∙ ap (λ (k : ℕ). Ok (f (take k w))) en ∙ sym (packed_granted f (omega arith))

    -- By the first of the words that the bitmap counts, and by the last.
    pub first_word : r ≡ slice_get (take n w) 0 → Ok r ≡ read_packed first_of b w
    first_word er = packed_is first_of (er ∙ slice_first (take n w))

    pub last_word : r ≡ slice_get (take n w) (length (take n w) - 1) → Ok r ≡ read_packed last_of b w
    last_word er = packed_is last_of (er ∙ slice_last (take n w))
