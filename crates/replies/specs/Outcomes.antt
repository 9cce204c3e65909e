-- What a call leaves: its answer and the words afterwards. Document 01, "Answer numbers": every call but format tests the header
-- first.
use Rattle.std.specs.Prelude.{cond, List, eqb, ℕ, Option, Some, None}
use Rattle.layout.specs.declared.Shape.{Shape}
use Rattle.cells.specs.Mirrors.{Wrote}
use Rattle.replies.specs.declared.Refusal.{Refusal}
use Rattle.replies.specs.Answers.{Answer, refused}

-- an answer, and the words of the arena afterwards; for a listing, which writes no arena, those of the output
pub record Outcome : Type 0 where
  pub answer : Answer
  pub words : List ℕ

abbrev pub leaves : Answer → List ℕ → Outcome
leaves r b = record { answer = r; words = b }

-- 4 first: "words 0 to 7 wrong, or the slice shorter than 12 words or the total"
unfoldable pub on_header : {A : Type 0} → Option Shape → A → (Shape → A) → A
on_header None x f = x
on_header (Some z) x f = f z

-- 7: "a new edition wanted, all S held"
unfoldable pub on_slot : Option ℕ → Outcome → (ℕ → Outcome) → Outcome
on_slot None x f = x
on_slot (Some s) x f = f s

-- after a writer of cells: where no cell could be taken, what was written stands
unfoldable pub on_wrote : Wrote → Refusal → (ℕ → List ℕ → Outcome) → Outcome
on_wrote s why f = cond (eqb s.at 0) (leaves (refused why) s.words) (f s.at s.words)
