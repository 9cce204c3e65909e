-- Reading goes on from where it stands: the next byte first, then what is left of them; and where none is left, what was read
-- is all. A line is what its letter, its numbers and its end make of it.
-- Assumes nothing.
use mathlib.Core.Path.{◌≡◌, sym, ◌∙◌, ap, ap₂}
use mathlib.Core.Bool.{true, false}
use mathlib.Core.List.{List}
use Prim.Native.Nat.{ℕ, suc, ◌+◌, ◌-◌, ◌≤◌, ◌<◌}
use native.Mathlib.Omega.{arith}
use lib.ListN.{length, get_or, take, drop, drop_of_length-le}
use lib.Seq.{drop-cons}
use borrow.Author.Tests.{eq-eqb, ne_eqb}
use Rattle.std.specs.Prelude.{◌==◌, Some, None, not}
use Rattle.std.proofs.lemmas.List.{length-drop}
use Rattle.std.proofs.lemmas.List.Sums.{prefix_len-le-length}
use Rattle.answers.specs.declared.Line.{Line}
use Rattle.answers.specs.declared.Numbers.{Numbers}
use Rattle.answers.specs.Lines.{closed_of, next_of, read_of, start, bare_of, made_of, behind_of, newline_of, newline_from, line_to, line_at}

pub read_more : (s : Numbers) (bytes : List ℕ) (i : ℕ) → i < length bytes
    → read_of (next_of s (get_or bytes i 0)) (drop (i + 1) bytes) ≡ read_of s (drop i bytes)
unfolding read_of
read_more s bytes i h =
    ap (λ (j : ℕ). read_of (next_of s (get_or bytes i 0)) (drop j bytes)) {x = i + 1} {y = suc i} (omega arith)
    ∙ sym (ap (read_of s) (drop-cons bytes i 0 h))

pub read_all : (s : Numbers) (bytes : List ℕ) (i : ℕ) → length bytes ≤ i → read_of s (drop i bytes) ≡ s
unfolding read_of
read_all s bytes i h = ap (read_of s) (drop_of_length-le bytes h)

-- A LINE, by its letter and its numbers
module _ (letter next : ℕ) (s : Numbers) where
  pub made_comment : letter ≡ 35 → bare_of letter next ≡ made_of letter next s
  unfolding made_of
  made_comment e = sym (simp (eq-eqb _ _ e))

  pub made_wrong : (letter ≡ 35 → ⊥) → s.wrong ≡ true → bare_of 0 next ≡ made_of letter next s
  unfolding made_of
  made_wrong ne w = sym (simp (ne_eqb _ _ ne, w))

  pub made_right : (letter ≡ 35 → ⊥) → s.wrong ≡ false
      → record { letter = letter; count = s.count; numbers = s.values; next = next } ≡ made_of letter next s
  unfolding made_of
  made_right ne w = sym (simp (ne_eqb _ _ ne, w))

-- and where it ends
pub line_made : (text : List ℕ) (at end next : ℕ) (s : Numbers) (r : Line)
    → end ≡ newline_from text (at + 1) → next ≡ behind_of text end
    → s ≡ closed_of (read_of start (take (end - (at + 1)) (drop (at + 1) text))) → r ≡ made_of (get_or text at 0) next s
    → r ≡ line_at text at
unfolding line_at line_to
line_made text at end next s r e n m q =
    q ∙ ap₂ (made_of (get_or text at 0)) n m ∙ ap (line_to text at) e

-- THE NEWLINE, where the search found one and where it found none
pub newline_found : (text : List ℕ) (from at : ℕ) → newline_of (drop from text) ≡ Some at
    → from + at ≡ newline_from text from
newline_found text from at e = grind (arith, e)

pub newline_missing : (text : List ℕ) (from : ℕ) → from ≤ length text → newline_of (drop from text) ≡ None
    → length text ≡ newline_from text from
newline_missing text from h e = grind (arith, e, length-drop from text, prefix_len-le-length (λ b. not (b == 10)) (drop from text))
