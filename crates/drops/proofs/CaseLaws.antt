-- What drop leaves, case by case.
use Rattle.std.proofs.Common.{◌≡◌, ℕ, true, false, List, Some}
use Rattle.layout.specs.declared.Shape.{Shape}
use Rattle.layout.specs.Header.{header_of}
use Rattle.cells.specs.Slots.{held_slot}
use Rattle.replies.specs.declared.Refusal.TheVariants as Why
use Rattle.replies.specs.Answers.{refused, done}
use Rattle.replies.specs.Outcomes.{leaves}
use Rattle.replies.proofs.AnswerLaws.{header_Right}
use Rattle.drops.specs.Calls.{free_words, fell, free_in, drop_in, drop_of}

module _ (z : Shape) (a : List ℕ) (e : ℕ) where
  pub drop_held : held_slot z a e ≡ true
      → drop_in z a e ≡ leaves (done (fell a (free_words z a e) 0) (fell a (free_words z a e) 1)) (free_words z a e)
  unfolding drop_in free_in
  drop_held q = rw q

  pub drop_not_held : held_slot z a e ≡ false → drop_in z a e ≡ leaves (refused Why.NoSuchEdition) a
  unfolding drop_in
  drop_not_held q = rw q

module _ (a : List ℕ) (e : ℕ) where
  pub drop_Right : (z : Shape) → header_of a ≡ Some z → drop_of a e ≡ drop_in z a e
  drop_Right z q = header_Right (header_of a) _ _ z q
