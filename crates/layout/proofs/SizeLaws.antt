-- What an allowed shape is bounded by: no offset and no sum on the way to one leaves a 64-bit word, since an arena has fewer
-- than a hundred million words.
use Rattle.std.proofs.Common.{ℕ, ◌+◌, ◌*◌, ◌<◌, ◌≤◌, mul-le-mul, arith, pow_mono}
use Rattle.segments.specs.Segments.{Row, row}
use Rattle.segments.proofs.TableLaws.{Right, row_of_in, row_Right, below_depths}
use Rattle.layout.specs.declared.Shape.{Shape}
use Rattle.layout.specs.Layout.{Allowed}

-- the row of the degree, and what every row of the table keeps
abbrev pub row_in : (z : Shape) → Allowed z → Row
row_in z w = row z.degree z.bits z.depths w.last

pub row_is_Right : (z : Shape) (w : Allowed z) → Right (row_in z w)
row_is_Right z w = row_Right (row_in z w) (row_of_in z.degree z.bits z.depths w.last w.in_table)

-- so a hash has a segment at each depth of the degree
pub has_segment : (z : Shape) → Allowed z → (t : ℕ) → t < z.depths → (t * z.bits < 64) × (z.bits ≤ 6)
has_segment z w t l = let k = row_is_Right z w in ((below_depths (row_in z w) k t).0 l, k.few_bits)

-- the three parts of an arena behind its header
pub record Small (z : Shape) : Type 0 where
  pub degree_low : 2 ≤ z.degree
  pub degree_high : z.degree ≤ 64
  pub slot_words : z.stride * z.slots ≤ 20480
  pub branch_words : z.branches * (3 + z.degree) ≤ 70254592
  pub entry_words : 6 * z.entries ≤ 25165824

pub small : (z : Shape) → Allowed z → Small z
small z w =
    let k = row_is_Right z w in
    let low : 2 ≤ z.degree = omega (arith, k.power, pow_mono k.some_bits) in
    let high : z.degree ≤ 64 = omega (arith, k.power, pow_mono k.few_bits) in
    record {
      degree_low = low;
      degree_high = high;
      slot_words = mul-le-mul w.narrow w.few_slots;
      branch_words = let wide : 3 + z.degree ≤ 67 = omega arith in mul-le-mul w.few_branches wide;
      entry_words = omega (arith, w.few_entries);
    }
