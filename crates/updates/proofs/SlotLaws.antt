-- Wherever insert or change is done with a slot, on any words, that slot is its answer.
use Prim.Native.Nat.{ℕ}
use mathlib.Core.List.{List}
use lib.Dec.{eqb}
use Rattle.cases.proofs.Cases.{split}
use Rattle.trie.specs.declared.Entry.{Entry}
use Rattle.layout.specs.declared.Shape.{Shape}
use Rattle.cells.specs.Mirrors.{Wrote}
use Rattle.chains.specs.Chains.{front_pushed}
use Rattle.replies.specs.declared.Refusal.TheVariants as Why
use Rattle.replies.specs.Outcomes.{on_wrote}
use Rattle.replies.proofs.AnswerLaws.{not_done}
use Rattle.grants.proofs.SlotLaws.{AnswersSlot, hold_slot}
use Rattle.updates.specs.declared.Plan.{Plan}
use Rattle.updates.specs.Calls.{write_to}

pub write_slot : (z : Shape) (a : List ℕ) (x : Entry) (p : Plan) → AnswersSlot (write_to z a x p)
unfolding write_to on_wrote
write_slot z a x p t s branches entries q =
    let g : Wrote = front_pushed z a p.length x p.tail.count p.tail.from p.tail.rest in
    split (eqb g.at 0) (λ e. absurd (not_done Why.NoEntryCells s branches entries (rw e at q)))
    (λ e. hold_slot z p.size _ _ _ t s branches entries (rw e at q))
