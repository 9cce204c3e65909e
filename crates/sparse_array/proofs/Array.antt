-- Laws of the array that a bitmap and words show. Going up the indexes, each set bit adds its power of two to the bitmap
-- and the next packed word to the words, so that both are got back from the array; hence an array is shown in one way only.
-- Assumes nothing.
use Prim.Native.Nat.{ℕ, zero, suc, ◌+◌, ◌*◌, ◌%◌, ◌^◌, ◌≤◌, ◌<◌}
use mathlib.Core.Path.{◌≡◌, refl, sym, ap, ap₂, ◌∙◌, fun_ext}
use mathlib.Core.Logic.{⊎_elim}
use mathlib.Core.Bool.{cond}
use mathlib.Core.List.{List, ◌++◌, append-nil}
use native.Mathlib.Nat.{mod-eq_of_lt}
use native.Mathlib.Numerals.{one-add}
use native.Mathlib.Omega.{arith}
use borrow.Author.Tests.{eq-eqb, ne_eqb}
use lib.ListN.{length, get_or, take}
use lib.Pow.{mod-pow-add}
use lib.Seq.{take-suc}
use Rattle.sparse_array.specs.Bitmap.{bit, below, size_of}
use Rattle.sparse_array.specs.Array.{Slot, nothing, word, holds, put, words_of, packed, held, bitmap_of}
use Rattle.sparse_array.proofs.Bitmap.{bit_cases, bit_out, below_next, rank_first}

-- ---- what stands at one index

pub holds-nothing : (b : ℕ) (w : List ℕ) (i : ℕ) → bit b i ≡ 0 → holds b w i ≡ nothing
unfolding holds
holds-nothing b w i e = rw e

pub holds-word : (b : ℕ) (w : List ℕ) (i : ℕ) → bit b i ≡ 1 → holds b w i ≡ word (get_or w (below b i) 0)
unfolding holds
holds-word b w i e = rw e

pub holds_out : (b : ℕ) (w : List ℕ) (i : ℕ) → b < 2 ^ 64 → 64 ≤ i → holds b w i ≡ nothing
holds_out b w i h le = holds-nothing b w i (bit_out b {k = 64} {j = i} h le)

pub put_same : (A : ℕ → Slot) (i : ℕ) (s : Slot) → put A i s i ≡ s
unfolding put
put_same A i s = ap (λ t. cond t s (A i)) (eq-eqb i i refl)

pub put_other : (A : ℕ → Slot) (i : ℕ) (s : Slot) (j : ℕ) → (j ≡ i → ⊥) → put A i s j ≡ A j
unfolding put
put_other A i s j ne = ap (λ t. cond t s (A j)) (ne_eqb j i ne)

-- ---- from the array back to bitmap and words

module _ (b : ℕ) (w : List ℕ) where
  pub held-bit : (i : ℕ) → held (holds b w i) ≡ bit b i
  held-bit i =
      ⊎_elim (λ e. ap held (holds-nothing b w i e) ∙ sym e) (λ e. ap held (holds-word b w i e) ∙ sym e) (bit_cases b i)

  bitmap_upto : (n : ℕ) → bitmap_of (holds b w) n ≡ b % 2 ^ n
  unfolding bitmap_of
  bitmap_upto zero = omega arith
  bitmap_upto (suc n) =
      ap₂ (λ (x y : ℕ). x + y * 2 ^ n) (bitmap_upto n) (held-bit n)
      ∙ omega (arith, mod-pow-add b 1 n, ap (λ (k : ℕ). b % 2 ^ k) (one-add n))

  packed_upto : (n : ℕ) → below b n ≤ length w → packed (holds b w) n ≡ take (below b n) w
  unfolding packed
  packed_upto zero h = ap (λ (k : ℕ). take k w) (sym (rank_first b))
  packed_upto (suc n) h =
      let ih : packed (holds b w) n ≡ take (below b n) w = packed_upto n (omega (arith, below_next b n)) in
      ⊎_elim
      (λ (e : bit b n ≡ 0).
      ap₂ ◌++◌ ih (ap words_of (holds-nothing b w n e)) ∙ append-nil (take (below b n) w)
      ∙ ap (λ (k : ℕ). take k w) {x = below b n} {y = below b (suc n)} (omega (arith, below_next b n)))
      (λ (e : bit b n ≡ 1).
      ap₂ ◌++◌ ih (ap words_of (holds-word b w n e)) ∙ sym (take-suc w (below b n) 0 (omega (arith, below_next b n)))
      ∙ ap (λ (k : ℕ). take k w) {x = suc (below b n)} {y = below b (suc n)} (omega (arith, below_next b n)))
      (bit_cases b n)

  -- The bitmap is the sum of the powers of two of the indexes that hold a word.
  pub bitmap_back : b < 2 ^ 64 → bitmap_of (holds b w) 64 ≡ b
  bitmap_back h = bitmap_upto 64 ∙ mod-eq_of_lt h

  -- The first words of the slice are the words of the array, packed in ascending order.
  pub words_back : size_of b ≤ length w → packed (holds b w) 64 ≡ take (size_of b) w
  words_back = packed_upto 64

-- An array is shown in one way only: by one bitmap, and by the same packed words.
pub shown_once : (b b' : ℕ) (w w' : List ℕ) → b < 2 ^ 64 → b' < 2 ^ 64 → size_of b ≤ length w → size_of b' ≤ length w'
    → ((i : ℕ) → holds b w i ≡ holds b' w' i) → (b ≡ b') × (take (size_of b) w ≡ take (size_of b') w')
shown_once b b' w w' f f' r r' same =
    let e : holds b w ≡ holds b' w' = fun_ext same in (
      sym (bitmap_back b w f) ∙ ap (λ (A : ℕ → Slot). bitmap_of A 64) e ∙ bitmap_back b' w' f',
      sym (words_back b w r) ∙ ap (λ (A : ℕ → Slot). packed A 64) e ∙ words_back b' w' r',
    )
