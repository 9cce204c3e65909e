-- What a check promises: 0 exactly if the arena is sound, and every work word that it leaves. Document 01, "Answer numbers": "4,
-- then 12"; "a check that gets past 12 and finds a fault: the first B + N work words are 0. A check that answers 0 leaves there
-- each branch's, then each entry's count. Further work words stay." The arena is only read.
use Rattle.std.specs.Prelude.{ℕ, ◌≤◌, ◌<◌, ◌≡◌, List, Bool, true, false, length, get_or, Result, Ok, Err}
use Rattle.layout.specs.declared.Shape.{Shape}
use Rattle.layout.specs.Header.{Header}
use Rattle.layout.specs.Columns.{columns}
use Rattle.arena.specs.Sound.{Sound}
use Rattle.tallies.specs.Tallies.{work_words, Works}
use Rattle.replies.specs.declared.Refusal.TheVariants.{Damaged, WorkTooShort}
use Rattle.replies.specs.declared.Refusal.{Refusal}

-- a, w and w' are the words of the arena and the work words before and after
pub data Checks (a w : List ℕ) : Result (Unit {0}) Refusal → List ℕ → Type 0 where
  wrong_header : ((z : Shape) → Header a z → ⊥) → Checks a w (Err Damaged) w
  short_work : (z : Shape) → Header a z → length w < work_words z → Checks a w (Err WorkTooShort) w
  not_sound : (z : Shape) (w' : List ℕ) → Header a z → work_words z ≤ length w → (Sound a → ⊥) → Works z (λ r. 0) w w'
      → Checks a w (Err Damaged) w'
  is_sound : (z : Shape) (w' : List ℕ) → Header a z → work_words z ≤ length w → Sound a → Works z (columns z a).count w w'
      → Checks a w (Ok tt) w'

-- the verdict, and the work words where it is yes
pub record Judged (z : Shape) (a w : List ℕ) (b : Bool) (w' : List ℕ) : Type 0 where
  pub yes : b ≡ true → Sound a × Works z (columns z a).count w w'
  pub no : b ≡ false → Sound a → ⊥
  pub same_length : length w' ≡ length w
  pub rest : (j : ℕ) → work_words z ≤ j → get_or w' j 0 ≡ get_or w j 0
