-- The number of a call's answer: document 01, "Answer numbers". Of it the words "4: words 0 to 7 wrong, or the slice shorter than 12 words
-- or the total" hold exactly for every call but two: format reads no header, and "only check gives 4 for deeper damage".
use Rattle.std.specs.Prelude.{ℕ}
use Rattle.replies.specs.Answers.{unit_answer, number_answer, update_answer, cells_answer, truth_answer}
use Rattle.promises.specs.History.{Call, formats, makes_new, shares, inserts, changes, removes, drops, sizes, uses, gets, lists, compares, checks}

unfoldable pub number_in : Call → ℕ
number_in (formats _ _ _ _ r) = (unit_answer r).number
number_in (makes_new r) = (number_answer r).number
number_in (shares _ r) = (number_answer r).number
number_in (inserts _ _ _ _ r) = (update_answer r).number
number_in (changes _ _ _ _ r) = (update_answer r).number
number_in (removes _ _ _ r) = (update_answer r).number
number_in (drops _ r) = (cells_answer r).number
number_in (sizes _ r) = (number_answer r).number
number_in (uses r) = (cells_answer r).number
number_in (gets _ _ _ r) = (number_answer r).number
number_in (lists _ _ _ r _) = (number_answer r).number
number_in (compares _ _ r) = (truth_answer r).number
number_in (checks _ r _) = (unit_answer r).number

-- neither a format nor a check
unfoldable pub Plain : Call → Type 0
Plain (formats _ _ _ _ _) = ⊥
Plain (makes_new _) = Unit {0}
Plain (shares _ _) = Unit {0}
Plain (inserts _ _ _ _ _) = Unit {0}
Plain (changes _ _ _ _ _) = Unit {0}
Plain (removes _ _ _ _) = Unit {0}
Plain (drops _ _) = Unit {0}
Plain (sizes _ _) = Unit {0}
Plain (uses _) = Unit {0}
Plain (gets _ _ _ _) = Unit {0}
Plain (lists _ _ _ _ _) = Unit {0}
Plain (compares _ _ _) = Unit {0}
Plain (checks _ _ _) = ⊥
