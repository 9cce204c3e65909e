-- A line of the stored answers: a letter, then numbers. oracle/README.md says how it is written; this is how it is read, byte
-- by byte. It takes more than is written: spaces and signs '=' may stand in any number between the numbers.
use Rattle.std.specs.Prelude.{Option, Some, None, true, false, cond, List, [], ◌∷◌, ℕ, ◌+◌, ◌*◌, ◌-◌, ◌^◌, ◌==◌, unwrap_or, eqb, ltb, leb, length, get_or, set, take, drop}
use Rattle.std.specs.List.{position, position_or_len}
use Rattle.answers.specs.declared.Line.{Line}
use Rattle.answers.specs.declared.Numbers.{Numbers}

-- the value of a hexadecimal digit, '0' to '9' and 'a' to 'f', and none for any other byte
unfoldable pub digit_of : ℕ → Option ℕ
digit_of b = cond (leb b 57) (cond (leb 48 b) (Some (b - 48)) None) (cond (leb b 102) (cond (leb 97 b) (Some (b - 87)) None) None)

-- something that is no number stands in the line
abbrev pub broken_of : Numbers → Numbers
broken_of s = record { count = s.count; values = s.values; last = s.last; wrong = true }

-- the number that has begun is the next of at most eight
unfoldable pub kept_of : Numbers → ℕ → Numbers
kept_of s n =
    cond (ltb s.count 8)
    (record { count = s.count + 1; values = set s.values s.count n; last = None; wrong = s.wrong })
    (broken_of s)

-- a number ends, if one has begun
abbrev pub closed_by : Numbers → Option ℕ → Numbers
closed_by s None = s
closed_by s (Some n) = kept_of s n

abbrev pub closed_of : Numbers → Numbers
closed_of s = closed_by s s.last

-- a number begins, or goes on, with a digit; it has at most 64 bits
unfoldable pub longer_of : Numbers → ℕ → Numbers
longer_of s d =
    cond (ltb (unwrap_or s.last 0) (2 ^ 60))
    (record { count = s.count; values = s.values; last = Some (unwrap_or s.last 0 * 16 + d); wrong = s.wrong })
    (broken_of s)

-- a byte that is no digit stands in no number
abbrev pub longer_by : Numbers → Option ℕ → Numbers
longer_by s None = broken_of s
longer_by s (Some d) = longer_of s d

-- a space or the sign '=' ends a number
unfoldable pub next_of : Numbers → ℕ → Numbers
next_of s b =
    cond (eqb b 32) (closed_of s)
    (cond (eqb b 61) (closed_of s)
    (longer_by s (digit_of b)))

unfoldable pub read_of : Numbers → List ℕ → Numbers
read_of s [] = s
read_of s (b ∷ bs) = read_of (next_of s b) bs

abbrev pub start : Numbers
start = record { count = 0; values = 0 ∷ 0 ∷ 0 ∷ 0 ∷ 0 ∷ 0 ∷ 0 ∷ 0 ∷ []; last = None; wrong = false }

-- a line without numbers
abbrev pub bare_of : ℕ → ℕ → Line
bare_of letter next = record { letter = letter; count = 0; numbers = start.values; next = next }

-- A comment begins with '#'. A line with something that is no number has the letter 0.
unfoldable pub made_of : ℕ → ℕ → Numbers → Line
made_of letter next s =
    cond (eqb letter 35) (bare_of letter next)
    (cond s.wrong (bare_of 0 next)
    (record { letter = letter; count = s.count; numbers = s.values; next = next }))

-- behind a newline, or the end of the text
unfoldable pub behind_of : List ℕ → ℕ → ℕ
behind_of text end = cond (ltb end (length text)) (end + 1) end

-- the line that begins at a place and ends at another
unfoldable pub line_to : List ℕ → ℕ → ℕ → Line
line_to text at end =
    made_of (get_or text at 0) (behind_of text end) (closed_of (read_of start (take (end - (at + 1)) (drop (at + 1) text))))

-- where the first newline stands, if there is one
abbrev pub newline_of : List ℕ → Option ℕ
newline_of = position (λ b. b == 10)

-- the first newline at a place or behind it, or the end of the text
abbrev pub newline_from : List ℕ → ℕ → ℕ
newline_from text from = from + position_or_len (λ b. b == 10) (drop from text)

-- the line that begins at a place: up to the first newline behind it
unfoldable pub line_at : List ℕ → ℕ → Line
line_at text at = line_to text at (newline_from text (at + 1))
