-- When a call on an index is granted: "`expect` and `unreachable!` become tested paths" (document 01, "Shapes that change").
use Rattle.std.specs.Prelude.{ℕ, Bool, ◌&&◌, List, ltb, leb, length}

-- The index is one of the 64, and the slice has as many words as the call needs; else the call is refused.
abbrev pub granted : (i need : ℕ) → List ℕ → Bool
granted i need w = ltb i 64 && leb need (length w)
