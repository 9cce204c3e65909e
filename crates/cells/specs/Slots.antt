-- Which slots are held, and the lowest that is not. A slot is held if its first word is 1; any other word there is "not held"
-- for document 01's number 5 and free for its number 7. A sound arena has only 0 and 1.
use Rattle.std.specs.Prelude.{ℕ, zero, suc, Bool, false, cond, List, eqb, ltb, Option, Some, None}
use Rattle.layout.specs.declared.Shape.{Shape}
use Rattle.layout.specs.Columns.{word_of_slot}

unfoldable pub held_slot : Shape → List ℕ → ℕ → Bool
held_slot z a s = cond (ltb s z.slots) (eqb (word_of_slot z a s 0) 1) false

-- the first of n slots from s on that is not held
unfoldable pub free_from : Shape → List ℕ → ℕ → ℕ → Option ℕ
free_from z a s zero = None
free_from z a s (suc n) = cond (eqb (word_of_slot z a s 0) 1) (free_from z a (suc s) n) (Some s)

-- "the lowest free slot"
unfoldable pub free_slot : Shape → List ℕ → Option ℕ
free_slot z a = free_from z a 0 z.slots
