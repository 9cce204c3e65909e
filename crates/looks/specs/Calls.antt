-- What size, in use, get, list and equal answer, and every word that list writes, on any words: document 01, "Answer numbers", its
-- tests in its order.
use Rattle.std.specs.Prelude.{ℕ, Bool, true, false, cond, List, eqb, ltb, length}
use Rattle.layout.specs.declared.Shape.{Shape}
use Rattle.layout.specs.Header.{header_of}
use Rattle.layout.specs.Columns.{word_of_slot, by_kind}
use Rattle.cells.specs.Slots.{held_slot}
use Rattle.trie.specs.declared.Entry.{Entry}
use Rattle.trie.specs.Entry.{Got, absent, got}
use Rattle.lookup.specs.Lookup.{get_below}
use Rattle.iter.specs.Met.{met}
use Rattle.reads.specs.Listed.{written, written_over}
use Rattle.reads.specs.Agrees.{agree}
use Rattle.replies.specs.declared.Refusal.TheVariants as Why
use Rattle.replies.specs.Answers.{Answer, refused, done, truth_value}
use Rattle.replies.specs.Outcomes.{Outcome, leaves, on_header}

-- SIZE: the third word of the slot
abbrev pub size_word : Shape → List ℕ → ℕ → ℕ
size_word z a e = word_of_slot z a e 2

unfoldable pub size_in : Shape → List ℕ → ℕ → Answer
size_in z a e = cond (held_slot z a e) (done (size_word z a e) 0) (refused Why.NoSuchEdition)

abbrev pub size_of : List ℕ → ℕ → Answer
size_of a e = on_header (header_of a) (refused Why.Damaged) (λ z. size_in z a e)

-- IN USE: words 10 and 11
abbrev pub in_use_in : List ℕ → Answer
in_use_in a = done (by_kind a 10 0) (by_kind a 10 1)

abbrev pub in_use_of : List ℕ → Answer
in_use_of a = on_header (header_of a) (refused Why.Damaged) (λ z. in_use_in a)

-- GET. 6: "get, change, remove: key not there".
abbrev pub value_found : Got → Answer
value_found absent = refused Why.Absent
value_found (got v) = done v 0

abbrev pub root_word : Shape → List ℕ → ℕ → ℕ
root_word z a e = word_of_slot z a e 1

unfoldable pub get_in : Shape → List ℕ → ℕ → ℕ → ℕ → Answer
get_in z a e h k = cond (held_slot z a e) (value_found (get_below z a (root_word z a e) h k)) (refused Why.NoSuchEdition)

abbrev pub get_of : List ℕ → ℕ → ℕ → ℕ → Answer
get_of a e h k = on_header (header_of a) (refused Why.Damaged) (λ z. get_in z a e h k)

-- LIST, of an edition with this size and these entries. "listing 11, then 10": 11 is "place above size", 10 "room under 3 words,
-- place below size". "Place equal to size: 0 entries, answer 0."
unfoldable pub list_from : ℕ → List Entry → ℕ → List ℕ → Outcome
list_from size es place out =
    cond (ltb size place) (leaves (refused Why.BeyondTheEnd) out)
    (cond (eqb place size) (leaves (done 0 0) out)
    (cond (ltb (length out) 3) (leaves (refused Why.OutputTooShort) out)
    (leaves (done (length (written es place (length out))) 0) (written_over (written es place (length out)) out))))

abbrev pub held_listed : Shape → List ℕ → ℕ → ℕ → List ℕ → Outcome
held_listed z a e place out = list_from (size_word z a e) (met z a (root_word z a e)) place out

unfoldable pub list_in : Shape → List ℕ → ℕ → ℕ → List ℕ → Outcome
list_in z a e place out = cond (held_slot z a e) (held_listed z a e place out) (leaves (refused Why.NoSuchEdition) out)

abbrev pub list_of : List ℕ → ℕ → ℕ → List ℕ → Outcome
list_of a e place out = on_header (header_of a) (leaves (refused Why.Damaged) out) (λ z. list_in z a e place out)

-- EQUAL. 5 is tested of the "first edition, then second". One root is one trie; else the sizes agree, and each entry of the first
-- is in the second with the same value.
unfoldable pub same_entries : Shape → List ℕ → ℕ → ℕ → Bool
same_entries z a e f =
    cond (eqb (root_word z a e) (root_word z a f)) true
    (cond (eqb (size_word z a e) (size_word z a f)) (agree z a (root_word z a e) (root_word z a f)) false)

unfoldable pub equal_in : Shape → List ℕ → ℕ → ℕ → Answer
equal_in z a e f =
    cond (held_slot z a e) (cond (held_slot z a f) (truth_value (same_entries z a e f)) (refused Why.NoSuchEdition))
    (refused Why.NoSuchEdition)

abbrev pub equal_of : List ℕ → ℕ → ℕ → Answer
equal_of a e f = on_header (header_of a) (refused Why.Damaged) (λ z. equal_in z a e f)
