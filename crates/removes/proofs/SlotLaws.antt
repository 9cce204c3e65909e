-- Wherever remove is done with a slot, on any words, that slot is its answer.
use Rattle.std.proofs.Common.{◌≡◌, ℕ, List}
use Rattle.layout.specs.declared.Shape.{Shape}
use Rattle.replies.specs.declared.Refusal.TheVariants as Why
use Rattle.replies.specs.Answers.{done_taking}
use Rattle.replies.specs.Outcomes.{Outcome}
use Rattle.replies.proofs.AnswerLaws.{not_done}
use Rattle.grants.proofs.SlotLaws.{AnswersSlot, held_slot, hold_slot}
use Rattle.removes.specs.declared.Cut.{Cut}
use Rattle.removes.specs.Calls.{cut_to}
use Rattle.removes.proofs.CaseLaws.{by_writing}

pub cut_slot : (z : Shape) (a : List ℕ) (h : ℕ) (p : Cut) → AnswersSlot (cut_to z a h p)
cut_slot z a h p t s branches entries =
    by_writing z a h p t (λ (o : Outcome). o.answer ≡ done_taking s branches entries → t ≡ s)
    (held_slot z p.size _ _ 0 a t s branches entries)
    (λ q. absurd (not_done Why.NoEntryCells s branches entries q))
    (hold_slot z p.size _ _ _ t s branches entries)
