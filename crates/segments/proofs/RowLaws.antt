-- The row of a degree by the zeros at the end of its binary digits: a degree of the table is a power of two, and its exponent the
-- row's bits.
use Rattle.std.proofs.Common.{◌≡◌, ℕ, zero, suc, ◌*◌, ◌/◌, ◌%◌, ◌^◌, ◌<◌, ◌≤◌, ◌⊎◌, None, sym, refl, ap, ◌∙◌, inl, inr, arith, ne_eqb}
use lib.Count.{count_trailing_zeros}
use Rattle.segments.specs.Segments.{table, find, row_of}
use Rattle.segments.specs.Segments.{found}

-- a byte of a column
abbrev pub byte_at : ℕ → ℕ → ℕ
byte_at bytes b = bytes / 2 ^ (8 * b) % 256

pub row_by_bits : (b : ℕ) → (b ≡ 0 → ⊥) → b ≤ 6 → found b (byte_at 0x0B0D1016204000 b) (byte_at 0x04040401020100 b) ≡ row_of (2 ^ b)
unfolding row_of find table
row_by_bits zero n l = absurd (n refl)
row_by_bits (suc zero) n l = refl
row_by_bits (suc (suc zero)) n l = refl
row_by_bits (suc (suc (suc zero))) n l = refl
row_by_bits (suc (suc (suc (suc zero)))) n l = refl
row_by_bits (suc (suc (suc (suc (suc zero))))) n l = refl
row_by_bits (suc (suc (suc (suc (suc (suc zero)))))) n l = refl
row_by_bits (suc (suc (suc (suc (suc (suc (suc b))))))) n l = absurd (omega arith)

-- no zeros, too many, or another degree than the power of two with so many
abbrev pub Off : ℕ → ℕ → Type 0
Off g b = (b ≡ 0) ⊎ (6 < b) ⊎ (g ≡ 2 ^ b → ⊥)

other : (g b k : ℕ) → b ≡ count_trailing_zeros 64 g → Off g b → count_trailing_zeros 64 (2 ^ k) ≡ k → (k ≡ 0 → ⊥) → k ≤ 6 → g ≡ 2 ^ k → ⊥
other g b k e (inl z) t n l q = n (sym t ∙ sym (ap (count_trailing_zeros 64) q) ∙ sym e ∙ z)
other g b k e (inr (inl m)) t n l q = omega (arith, sym t ∙ sym (ap (count_trailing_zeros 64) q) ∙ sym e)
other g b k e (inr (inr d)) t n l q = d (q ∙ ap (λ (x : ℕ). 2 ^ x) (sym t ∙ sym (ap (count_trailing_zeros 64) q) ∙ sym e))

pub no_row : (g b : ℕ) → b ≡ count_trailing_zeros 64 g → Off g b → None ≡ row_of g
unfolding row_of find table count_trailing_zeros
no_row g b e o =
    simp (
      ne_eqb g 2 (other g b 1 e o refl (λ x. absurd (omega arith)) (omega arith)),
      ne_eqb g 4 (other g b 2 e o refl (λ x. absurd (omega arith)) (omega arith)),
      ne_eqb g 8 (other g b 3 e o refl (λ x. absurd (omega arith)) (omega arith)),
      ne_eqb g 16 (other g b 4 e o refl (λ x. absurd (omega arith)) (omega arith)),
      ne_eqb g 32 (other g b 5 e o refl (λ x. absurd (omega arith)) (omega arith)),
      ne_eqb g 64 (other g b 6 e o refl (λ x. absurd (omega arith)) (omega arith)),
    )
