-- Key rule 1 gives no two pairs of 16-bit numbers the same key, since an element is below what the group is multiplied by, and its keys lie
-- below 2 to the power 32.
-- Assumes nothing.
use Prim.Native.Nat.{ℕ, ◌^◌, ◌<◌}
use mathlib.Core.Path.{◌≡◌}
use native.Mathlib.Omega.{arith}
use Rattle.tags.specs.Tags.{key1}

pub key1_injective : (g e g' e' : ℕ) → e < 2 ^ 16 → e' < 2 ^ 16 → key1 g e ≡ key1 g' e' → (g ≡ g') × (e ≡ e')
key1_injective g e g' e' small small' same = omega arith

pub key1_below : (g e : ℕ) → g < 2 ^ 16 → e < 2 ^ 16 → key1 g e < 2 ^ 32
key1_below g e small small' = omega arith
