-- The call that insert, change and remove have in common, on any words: document 01, "Answer numbers", its tests 5 to 9 in its
-- order. Then comes what the call writes, which is an update's own, but for its end: the slot that holds the new root.
use Rattle.std.specs.Prelude.{ℕ, ◌-◌, Bool, cond, List, ltb, Option, Some, None, Result, Ok, Err}
use Rattle.layout.specs.declared.Shape.{Shape}
use Rattle.layout.specs.Layout.{cells_of}
use Rattle.layout.specs.Columns.{by_kind, set_slot_words}
use Rattle.cells.specs.Mirrors.{Wrote}
use Rattle.cells.specs.Slots.{held_slot, free_slot}
use Rattle.replies.specs.declared.Refusal.TheVariants as Why
use Rattle.replies.specs.Answers.{refused, done_taking}
use Rattle.replies.specs.Outcomes.{Outcome, leaves, on_wrote}
use Rattle.replies.specs.declared.Refusal.{Refusal}

-- "Free cells" are those of a kind that are not in use
unfoldable pub free_cell_count : Shape → List ℕ → ℕ → ℕ
free_cell_count z a k = cells_of z k - by_kind a 10 k

-- 8 and 9: "more needed than free"
unfoldable pub enough : Shape → List ℕ → ℕ → ℕ → ℕ → Result ℕ Refusal
enough z a branches entries s =
    cond (ltb (free_cell_count z a 0) branches) (Err Why.NoBranchCells)
    (cond (ltb (free_cell_count z a 1) entries) (Err Why.NoEntryCells) (Ok s))

-- 7: "a new edition wanted, all S held"; else "the lowest free slot"
abbrev pub room_by : Shape → List ℕ → ℕ → ℕ → Option ℕ → Result ℕ Refusal
room_by z a branches entries None = Err Why.NoSlot
room_by z a branches entries (Some s) = enough z a branches entries s

unfoldable pub room_of : Shape → List ℕ → ℕ → ℕ → Result ℕ Refusal
room_of z a branches entries = room_by z a branches entries (free_slot z a)

unfoldable pub on_room : List ℕ → Result ℕ Refusal → (ℕ → Outcome) → Outcome
on_room a (Ok s) f = f s
on_room a (Err why) f = leaves (refused why) a

-- THE CALL. 5: "number not below S, or not held"; 6, where the key is not as the call wants it; then room for so many cells of each
-- kind; and what the call does with a slot s is f s.
unfoldable pub update_in : Shape → List ℕ → ℕ → Bool → ℕ → ℕ → (ℕ → Outcome) → Outcome
update_in z a e wanted branches entries f =
    cond (held_slot z a e)
    (cond wanted (on_room a (room_of z a branches entries) f) (leaves (refused Why.Absent) a))
    (leaves (refused Why.NoSuchEdition) a)

-- THE SLOT. It holds a root, and a map of this size; so many cells were taken.
abbrev pub held_to : Shape → ℕ → ℕ → ℕ → ℕ → ℕ → List ℕ → Outcome
held_to z s size branches entries r v = leaves (done_taking s branches entries) (set_slot_words z v s 1 r size)

-- after the writer of the path: where no branch cell could be taken, there is no root to hold
unfoldable pub hold_to : Shape → ℕ → ℕ → ℕ → ℕ → Wrote → Outcome
hold_to z s size branches entries w = on_wrote w Why.NoBranchCells (held_to z s size branches entries)
