-- Laws of a bitmap's bits and of how many of them are set. A bit of an `or` or `xor` is the operation on the two bits,
-- and a count goes up by one bit at a time, so that each law about counts is an induction over the places.
-- Assumes nothing.
use Rattle.std.proofs.lemmas.Nat.{one_shl}
use Rattle.std.proofs.Common.{◌≡◌, ℕ, zero, suc, ◌+◌, ◌-◌, ◌*◌, ◌/◌, ◌%◌, ◌^◌, ◌<◌, ◌≤◌, max, ◌⊎◌, bit_and, bit_or, bit_xor, sym, refl, ap, ◌∙◌, ap₂, inl, inr, ⊎_elim, add-zero, mod-lt, mod-eq_of_lt, zero-lt-suc, add_comm, one-mul, one-add, arith, pow_pos, pow_mono, pow-add}
use native.Mathlib.Nat.{div-eq_of_lt, max-le, max-eq_right, max-zero}
use lib.Pow.{pow-lt, mod-pow-add, split, shl-shr}
use lib.Bits.{differ, and_mask, and_block, and_zero_r, or_shr, or_step, xor_shr, xor_step, shifted_even}
use lib.Count.{ones, ones_cat}
use Rattle.sparse_array.specs.Bitmap.{bit, below, size_of}
use Rattle.cases.proofs.Cases.{lt?}

-- ---- one bit

pub bit_lt : (n k : ℕ) → bit n k < 2
bit_lt n k = mod-lt (n / 2 ^ k) (zero-lt-suc 1)

zero_or_one : (x : ℕ) → x < 2 → (x ≡ 0) ⊎ (x ≡ 1)
zero_or_one zero h = inl refl
zero_or_one (suc zero) h = inr refl
zero_or_one (suc (suc x)) h = absurd (omega arith)

pub bit_cases : (n k : ℕ) → (bit n k ≡ 0) ⊎ (bit n k ≡ 1)
bit_cases n k = zero_or_one (bit n k) (bit_lt n k)

-- A bit beyond a number's width is 0, and of a power of two one bit is set.
pub bit_out : (n : ℕ) {k j : ℕ} → n < 2 ^ k → k ≤ j → bit n j ≡ 0
bit_out n {k} {j} h le = ap (λ (x : ℕ). x % 2) (div-eq_of_lt {n = n} {m = 2 ^ j} (omega (arith, pow_mono {i = k} {j = j} le)))

pub bit_pow_same : (i : ℕ) → bit (2 ^ i) i ≡ 1
bit_pow_same i = ap (λ (x : ℕ). x / 2 ^ i % 2) (sym (one-mul (2 ^ i))) ∙ ap (λ (x : ℕ). x % 2) (shl-shr 1 i)

bit_pow_under : (d k : ℕ) → bit (2 ^ (suc d + k)) k ≡ 0
bit_pow_under d k =
    ap (λ (x : ℕ). x / 2 ^ k % 2) (pow-add 2 (suc d) k) ∙ ap (λ (x : ℕ). x % 2) (shl-shr (2 ^ suc d) k)
    ∙ ap (λ (x : ℕ). x % 2) (sym (one-mul (2 ^ suc d)))
    ∙ shifted_even 1 d

pub bit_pow_other : (i k : ℕ) → (k ≡ i → ⊥) → bit (2 ^ i) k ≡ 0
bit_pow_other i k ne =
    ⊎_elim
    (λ (h : k < i). ap (λ (x : ℕ). bit (2 ^ x) k) {x = i} {y = suc (i - suc k) + k} (omega arith) ∙ bit_pow_under (i - suc k) k)
    (λ (h : i ≤ k). bit_out (2 ^ i) {k = suc i} {j = k} (pow-lt {i = i} {j = suc i} (omega arith)) (omega (arith, ne)))
    (lt? k i)

-- ---- bits of the machine's operations

pub and_bit : (n k : ℕ) → bit_and n (2 ^ k) ≡ bit n k * 2 ^ k
and_bit n k =
    ap₂ bit_and (sym (split n k)) (sym (add-zero (1 * 2 ^ k) ∙ one-mul (2 ^ k)))
    ∙ and_block k (n / 2 ^ k) 1 (n % 2 ^ k) 0 (mod-lt n (pow_pos k)) (pow_pos k)
    ∙ ap₂ (λ (x y : ℕ). x * 2 ^ k + y) (and_mask (n / 2 ^ k) 1) (and_zero_r (n % 2 ^ k))
    ∙ add-zero (bit n k * 2 ^ k)

-- A mask of one bit leaves that bit alone: it is 0 just where the bit is.
module _ (n i : ℕ) (h : i < 64) where
  masked : bit_and n (1 * 2 ^ i % 2 ^ 64) ≡ bit n i * 2 ^ i
  masked = ap (bit_and n) (one_shl i 64 h) ∙ and_bit n i

  pub mask_clear : bit_and n (1 * 2 ^ i % 2 ^ 64) ≡ 0 → bit n i ≡ 0
  mask_clear z =
      ⊎_elim
      (λ (e : bit n i ≡ 0). e)
      (λ (e : bit n i ≡ 1). absurd (omega (arith, masked, ap (λ (x : ℕ). x * 2 ^ i) e, pow_pos i)))
      (bit_cases n i)

  pub mask_set : (bit_and n (1 * 2 ^ i % 2 ^ 64) ≡ 0 → ⊥) → bit n i ≡ 1
  mask_set nz =
      ⊎_elim
      (λ (e : bit n i ≡ 0). absurd (nz (omega (arith, masked, ap (λ (x : ℕ). x * 2 ^ i) e))))
      (λ (e : bit n i ≡ 1). e)
      (bit_cases n i)

last_digit : (x d : ℕ) → d < 2 → (x * 2 + d) % 2 ≡ d
last_digit x d h = omega arith

bit_or_lem : (a b k : ℕ) → bit (bit_or a b) k ≡ max (bit a k) (bit b k)
bit_or_lem a b k =
    ap (λ (x : ℕ). x % 2) (or_shr a b k ∙ or_step (a / 2 ^ k) (b / 2 ^ k))
    ∙ last_digit _ _ (omega (arith, max-le {a = bit a k} {b = bit b k} {k = 1} (omega (arith, bit_lt a k)) (omega (arith, bit_lt b k))))

differ_lt : (x y : ℕ) → x < 2 → y < 2 → differ x y < 2
differ_lt zero y hx hy = hy
differ_lt (suc x) zero hx hy = hx
differ_lt (suc x) (suc y) hx hy = differ_lt x y (omega arith) (omega arith)

bit_xor_lem : (a b k : ℕ) → bit (bit_xor a b) k ≡ differ (bit a k) (bit b k)
bit_xor_lem a b k =
    ap (λ (x : ℕ). x % 2) (xor_shr a b k ∙ xor_step (a / 2 ^ k) (b / 2 ^ k))
    ∙ last_digit _ _ (differ_lt (bit a k) (bit b k) (bit_lt a k) (bit_lt b k))

-- Two bitmaps have the same bits but for the one at i.
abbrev pub OnlyAt : ℕ → ℕ → ℕ → Type 0
OnlyAt i b b' = (j : ℕ) → (j ≡ i → ⊥) → bit b' j ≡ bit b j

pub or_only : (n i : ℕ) → OnlyAt i n (bit_or n (2 ^ i))
or_only n i j ne = bit_or_lem n (2 ^ i) j ∙ ap (λ (x : ℕ). max (bit n j) x) (bit_pow_other i j ne) ∙ max-zero (bit n j)

pub or_there : (n i : ℕ) → bit (bit_or n (2 ^ i)) i ≡ 1
or_there n i = bit_or_lem n (2 ^ i) i ∙ ap (λ (x : ℕ). max (bit n i) x) (bit_pow_same i) ∙ max-eq_right (omega (arith, bit_lt n i))

differ_zero : (x : ℕ) → differ x 0 ≡ x
differ_zero zero = refl
differ_zero (suc x) = refl

pub xor_only : (n i : ℕ) → OnlyAt i n (bit_xor n (2 ^ i))
xor_only n i j ne = bit_xor_lem n (2 ^ i) j ∙ ap (λ (x : ℕ). differ (bit n j) x) (bit_pow_other i j ne) ∙ differ_zero (bit n j)

pub xor_there : (n i : ℕ) → bit n i ≡ 1 → bit (bit_xor n (2 ^ i)) i ≡ 0
xor_there n i e = bit_xor_lem n (2 ^ i) i ∙ ap₂ differ e (bit_pow_same i)

-- ---- how many bits are set

ones_small : (b : ℕ) → b < 2 → ones b ≡ b
unfolding ones
ones_small zero h = refl
ones_small (suc zero) h = refl
ones_small (suc (suc b)) h = absurd (omega arith)

-- The machine's count of the ones of what lies below a place.
pub ones_mod : (n i : ℕ) → ones (n % 2 ^ i) ≡ below n i
unfolding below
ones_mod n zero = ap ones {x = n % 1} {y = 0} (omega arith) ∙ ones_small 0 (omega arith)
ones_mod n (suc i) =
    ap (λ (k : ℕ). ones (n % 2 ^ k)) (sym (one-add i)) ∙ ap ones (mod-pow-add n 1 i)
    ∙ ones_cat i (bit n i) (n % 2 ^ i) (mod-lt n (pow_pos i))
    ∙ ap₂ ◌+◌ (ones_small (bit n i) (bit_lt n i)) (ones_mod n i)
    ∙ add_comm (bit n i) (below n i)

-- The size is the machine's count of all ones.
pub ones_all : (n : ℕ) → n < 2 ^ 64 → ones n ≡ size_of n
ones_all n h = ap ones (sym (mod-eq_of_lt h)) ∙ ones_mod n 64

-- Rank at 0 is 0.
pub rank_first : (n : ℕ) → below n 0 ≡ 0
unfolding below
rank_first n = refl

-- Rank at 63 counts the ones of the 63 lower bits, which are all but the last.
pub rank_last : (n : ℕ) → (below n 63 ≡ ones (n % 2 ^ 63)) × (size_of n ≡ below n 63 + bit n 63)
unfolding below
rank_last n = (sym (ones_mod n 63), refl)

pub below_le : (n i : ℕ) → below n i ≤ i
unfolding below
below_le n zero = omega arith
below_le n (suc i) = omega (arith, below_le n i, bit_lt n i)

pub below_next : (n i : ℕ) → below n (suc i) ≡ below n i + bit n i
unfolding below
below_next n i = refl

pub below_mono : (n : ℕ) {i : ℕ} (j : ℕ) → i ≤ j → below n i ≤ below n j
below_mono n {i} zero h = let e : i ≡ 0 = omega arith in rw e (omega arith)
below_mono n {i} (suc j) h =
    ⊎_elim
    (λ (l : i < suc j). omega (arith, below_next n j, below_mono n {i = i} j (omega arith)))
    (λ (g : suc j ≤ i). let e : i ≡ suc j = omega arith in rw e (omega arith))
    (lt? i (suc j))

-- The ranks behind a set bit are greater than its own, so that no two set bits have the same rank.
pub below_set : (n i j : ℕ) → bit n i ≡ 1 → i < j → below n i < below n j
below_set n i j e h = omega (arith, below_next n i, below_mono n {i = suc i} j h)

pub below_own : (n i j : ℕ) → bit n i ≡ 1 → bit n j ≡ 1 → (j ≡ i → ⊥) → below n j ≡ below n i → ⊥
below_own n i j ei ej ne same =
    ⊎_elim
    (λ (l : j < i). omega (arith, below_set n j i ej l))
    (λ (g : i ≤ j). omega (arith, below_set n i j ei (omega (arith, ne))))
    (lt? j i)

-- Behind the bitmap's width nothing is counted.
pub below_out : (n k j : ℕ) → n < 2 ^ k → k ≤ j → below n j ≡ below n k
below_out n k zero h le = let e : k ≡ 0 = omega arith in rw e
below_out n k (suc j) h le =
    ⊎_elim
    (λ (l : k < suc j). omega (arith, below_next n j, bit_out n {k = k} {j = j} h (omega arith), below_out n k j h (omega arith)))
    (λ (g : suc j ≤ k). let e : k ≡ suc j = omega arith in rw e)
    (lt? k (suc j))

-- A set bit's rank is below the size.
pub below_size : (n i : ℕ) → n < 2 ^ 64 → bit n i ≡ 1 → below n i < size_of n
below_size n i h e =
    ⊎_elim
    (λ (l : i < 64). below_set n i 64 e l)
    (λ (g : 64 ≤ i). absurd (omega (arith, bit_out n {k = 64} {j = i} h g)))
    (lt? i 64)

-- ---- the counts of two bitmaps that differ in one bit

module _ (i b b' : ℕ) (o : OnlyAt i b b') where
  pub below_only_upto : (j : ℕ) → j ≤ i → below b' j ≡ below b j
  below_only_upto zero h = rank_first b' ∙ sym (rank_first b)
  below_only_upto (suc j) h = omega (arith, below_next b j, below_next b' j, o j (λ e. omega arith), below_only_upto j (omega arith))

  pub below_only_behind : (j : ℕ) → i < j → below b' j + bit b i ≡ below b j + bit b' i
  below_only_behind zero h = absurd (omega arith)
  below_only_behind (suc j) h =
      ⊎_elim
      (λ (l : i < j). omega (arith, below_next b j, below_next b' j, o j (λ e. omega arith), below_only_behind j l))
      (λ (g : j ≤ i).
      let e : j ≡ i = omega arith in
      let eb : bit b j ≡ bit b i = ap (bit b) e in
      let eb' : bit b' j ≡ bit b' i = ap (bit b') e in
      omega (arith, below_next b j, below_next b' j, below_only_upto j g))
      (lt? i j)
