-- What format, new edition and share answer and every word that they leave, on any words: document 01, "Answer numbers", its tests
-- in its order.
use Rattle.std.specs.Prelude.{ℕ, cond, List, leb, length, Result, Ok, Err}
use Rattle.layout.specs.declared.Shape.{Shape}
use Rattle.layout.specs.Layout.{total}
use Rattle.layout.specs.Header.{shape_of, header_of}
use Rattle.layout.specs.Columns.{word_of_slot, set_slot_words}
use Rattle.layout.specs.Blank.{blank}
use Rattle.cells.specs.Slots.{held_slot, free_slot}
use Rattle.cells.specs.Mirrors.{share_words}
use Rattle.replies.specs.declared.Refusal.TheVariants as Why
use Rattle.replies.specs.Answers.{refused, done, unfit}
use Rattle.replies.specs.Outcomes.{Outcome, leaves, on_header, on_slot}
use Rattle.layout.specs.declared.Misfit.{Misfit}

-- FORMAT. "Format tests in the order 1, 2, 3."
unfoldable pub format_in : List ℕ → Result Shape Misfit → Outcome
format_in a (Ok z) = cond (leb (total z) (length a)) (leaves (done 0 0) (blank z a)) (leaves (refused Why.SliceTooShort) a)
format_in a (Err why) = leaves (refused (unfit why)) a

abbrev pub format_of : List ℕ → ℕ → ℕ → ℕ → ℕ → Outcome
format_of a degree branches entries editions = format_in a (shape_of degree branches entries editions)

-- NEW EDITION. "New edition, share, .. put the result in the lowest free slot and keep the old edition. A new edition is empty";
-- it takes no cell.
unfoldable pub new_to : Shape → List ℕ → ℕ → List ℕ
new_to z a s = set_slot_words z a s 1 0 0

unfoldable pub new_edition_in : Shape → List ℕ → Outcome
new_edition_in z a = on_slot (free_slot z a) (leaves (refused Why.NoSlot) a) (λ s. leaves (done s 0) (new_to z a s))

abbrev pub new_edition_of : List ℕ → Outcome
new_edition_of a = on_header (header_of a) (leaves (refused Why.Damaged) a) (λ z. new_edition_in z a)

-- SHARE. "A share has the old edition's root and size"; the root's count rises by one. 5: "number not below S, or not held".
unfoldable pub share_to : Shape → List ℕ → ℕ → ℕ → List ℕ
share_to z a e s = set_slot_words z (share_words z a (word_of_slot z a e 1)) s 1 (word_of_slot z a e 1) (word_of_slot z a e 2)

unfoldable pub held_shared : Shape → List ℕ → ℕ → Outcome
held_shared z a e = on_slot (free_slot z a) (leaves (refused Why.NoSlot) a) (λ s. leaves (done s 0) (share_to z a e s))

unfoldable pub share_in : Shape → List ℕ → ℕ → Outcome
share_in z a e = cond (held_slot z a e) (held_shared z a e) (leaves (refused Why.NoSuchEdition) a)

abbrev pub share_of : List ℕ → ℕ → Outcome
share_of a e = on_header (header_of a) (leaves (refused Why.Damaged) a) (λ z. share_in z a e)
