-- Segments fit their branch, and a hash is determined by its segments: what stands above a depth is what stands above the next one with
-- this depth's segment below it.
-- Assumes nothing.
use Rattle.std.proofs.Common.{◌≡◌, ℕ, zero, suc, ◌+◌, ◌-◌, ◌*◌, ◌/◌, ◌^◌, ◌<◌, ◌≤◌, ◌⊎◌, sym, ap, ◌∙◌, inl, inr, ⊎_elim, lt_of_lt_of_le, le_of_suc-le-suc, lt_of_le_of_lt, mod-lt, eq-or-lt_of_le, div-add-mod', div-one, arith, pow_pos, pow_mono, shr-shr, shr_lt}
use native.Mathlib.Nat.{div-eq_of_lt, mod-le}
use native.Mathlib.Decide.{ℕ_discrete}
use Rattle.segments.specs.Segments.{Row, segment}
use Rattle.segments.proofs.TableLaws.{Right, depths_cover}

-- What stands above depth t.
abbrev above : ℕ → ℕ → ℕ → ℕ
above bits t h = h / 2 ^ (t * bits)

above_step : (bits t h : ℕ) → above bits t h ≡ above bits (suc t) h * 2 ^ bits + segment bits t h
unfolding segment
above_step bits t h =
    let next : above bits t h / 2 ^ bits ≡ above bits (suc t) h = shr-shr h (t * bits) bits ∙ ap (λ (s : ℕ). h / 2 ^ s) (omega arith) in
    rw (← next) (sym (div-add-mod' (above bits t h) (2 ^ bits)))

agree : (bits D h h' : ℕ) → above bits D h ≡ above bits D h' → ((t : ℕ) → t < D → segment bits t h ≡ segment bits t h') → h ≡ h'
agree bits zero h h' q same = sym (all_of h) ∙ q ∙ all_of h'
  where
    all_of : (h : ℕ) → above bits 0 h ≡ h
    all_of h = let none : 0 * bits ≡ 0 = omega arith in rw none (div-one h)
agree bits (suc D) h h' q same =
    agree bits D h h' (rw (above_step bits D h, above_step bits D h', q, same D (omega arith))) (λ t l. same t (omega arith))

-- A hash of D segments is determined by them.
pub segments_determine : (bits D h h' : ℕ) → h < 2 ^ (D * bits) → h' < 2 ^ (D * bits)
    → ((t : ℕ) → t < D → segment bits t h ≡ segment bits t h') → h ≡ h'
segments_determine bits D h h' small small' same = agree bits D h h' (div-eq_of_lt small ∙ sym (div-eq_of_lt small')) same

-- A segment is the place of a child in a branch of this degree.
pub segment_small : (bits t h : ℕ) → segment bits t h < 2 ^ bits
unfolding segment
segment_small bits t h = mod-lt (h / 2 ^ (t * bits)) (pow_pos bits)

-- At the last depth of a row the segment has only the bits that are left.
pub segment-last : (r : Row) → Right r → (h : ℕ) → h < 2 ^ 64 → segment r.bits (r.depths - 1) h < 2 ^ r.last
unfolding segment
segment-last r k h small =
    let bits : r.last + (r.depths - 1) * r.bits ≡ 64 = omega (arith, k.covers) in
    lt_of_le_of_lt (mod-le (above r.bits (r.depths - 1) h) (2 ^ r.bits))
    (shr_lt r.last ((r.depths - 1) * r.bits) (rw bits small))

abbrev Differ : ℕ → (ℕ → ℕ) → (ℕ → ℕ) → Type 0
Differ n f g = (t : ℕ) × (t < n) × (f t ≡ g t → ⊥)

abbrev Agree : ℕ → (ℕ → ℕ) → (ℕ → ℕ) → Type 0
Agree n f g = (t : ℕ) → t < n → f t ≡ g t

-- Two sequences differ at some place below n or agree at all of them.
Differ-or_Agree : (n : ℕ) (f g : ℕ → ℕ) → Differ n f g ⊎ Agree n f g
Differ-or_Agree zero f g = inr (λ t l. absurd (omega arith))
Differ-or_Agree (suc n) f g = next (Differ-or_Agree n f g) (ℕ_discrete (f n) (g n))
  where
    next : Differ n f g ⊎ Agree n f g → Dec (f n ≡ g n) → Differ (suc n) f g ⊎ Agree (suc n) f g
    next (inl (t, l, ne)) d = inl (t, omega arith, ne)
    next (inr same) (no ne) = inl (n, omega arith, ne)
    next (inr same) (yes e) = inr (λ t l. ⊎_elim (λ q. rw q e) (λ b. same t b) (eq-or-lt_of_le (le_of_suc-le-suc l)))

-- Two hashes under one degree are equal or differ in a segment.
pub hashes_differ : (r : Row) → Right r → (h h' : ℕ) → h < 2 ^ 64 → h' < 2 ^ 64
    → (h ≡ h') ⊎ ((t : ℕ) × (t < r.depths) × (segment r.bits t h ≡ segment r.bits t h' → ⊥))
hashes_differ r k h h' small small' =
    let wide : 2 ^ 64 ≤ 2 ^ (r.depths * r.bits) = pow_mono (depths_cover r k) in
    ⊎_elim (λ d. inr d)
    (λ same. inl (segments_determine r.bits r.depths h h' (lt_of_lt_of_le small wide) (lt_of_lt_of_le small' wide) same))
    (Differ-or_Agree r.depths (λ t. segment r.bits t h) (λ t. segment r.bits t h'))
