-- What drop answers and every word that it leaves, on any words: document 01, "Drop frees the slot and every cell no longer reached,
-- and reports both numbers freed."
use Rattle.std.specs.Prelude.{ℕ, ◌-◌, cond, List}
use Rattle.layout.specs.declared.Shape.{Shape}
use Rattle.layout.specs.Header.{header_of}
use Rattle.layout.specs.Columns.{by_kind, columns, set_slot_words}
use Rattle.cells.specs.Slots.{held_slot}
use Rattle.releases.specs.Releases.{release_from}
use Rattle.replies.specs.declared.Refusal.TheVariants as Why
use Rattle.replies.specs.Answers.{refused, done}
use Rattle.replies.specs.Outcomes.{Outcome, leaves, on_header}

-- the slot is emptied, then what it named is let go
unfoldable pub free_words : Shape → List ℕ → ℕ → List ℕ
free_words z a e = release_from z z.depths 0 ((columns z a).root e) (set_slot_words z a e 0 0 0)

-- the numbers freed are what words 10 and 11 fell by
abbrev pub fell : List ℕ → List ℕ → ℕ → ℕ
fell a b k = by_kind a 10 k - by_kind b 10 k

unfoldable pub free_in : Shape → List ℕ → ℕ → Outcome
free_in z a e = let b = free_words z a e in leaves (done (fell a b 0) (fell a b 1)) b

-- 5: "number not below S, or not held"
unfoldable pub drop_in : Shape → List ℕ → ℕ → Outcome
drop_in z a e = cond (held_slot z a e) (free_in z a e) (leaves (refused Why.NoSuchEdition) a)

abbrev pub drop_of : List ℕ → ℕ → Outcome
drop_of a e = on_header (header_of a) (leaves (refused Why.Damaged) a) (λ z. drop_in z a e)
