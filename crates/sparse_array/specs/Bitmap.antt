-- A bitmap's bits and how many of them are set: `rank` and `size` of document 01, "Port order", 1.
use Rattle.std.specs.Prelude.{ℕ, zero, suc, ◌+◌, ◌/◌, ◌%◌, ◌^◌}

-- Bit k of n, 0 or 1.
abbrev pub bit : ℕ → ℕ → ℕ
bit n k = n / 2 ^ k % 2

-- How many of the bits of n below i are set: "rank at segment 0 is 0, at 63 it counts the 63 lower bits".
unfoldable pub below : ℕ → ℕ → ℕ
below n zero = 0
below n (suc i) = below n i + bit n i

-- How many of a bitmap's 64 bits are set.
abbrev pub size_of : ℕ → ℕ
size_of n = below n 64
