-- A new edition stands in the lowest free slot, on any words: wherever an update is done, its answer is the slot that was found.
use Rattle.std.proofs.Common.{◌≡◌, ℕ, List, Some, ap, ◌∙◌}
use Rattle.layout.specs.declared.Shape.{Shape}
use Rattle.cells.specs.Mirrors.{Wrote}
use Rattle.cells.specs.Slots.{free_slot}
use Rattle.replies.specs.declared.Refusal.TheVariants as Why
use Rattle.replies.specs.Answers.{Answer, done_taking}
use Rattle.replies.specs.Outcomes.{Outcome}
use Rattle.replies.proofs.AnswerLaws.{not_done}
use Rattle.grants.specs.Rooms.{held_to, hold_to}
use Rattle.grants.proofs.CaseLaws.{Update, update_by, either_way, by_root}

-- where what is done with slot t says that it is done, it says so of t
abbrev pub AnswersSlot : (ℕ → Outcome) → Type 0
AnswersSlot f = (t s branches entries : ℕ) → (f t).answer ≡ done_taking s branches entries → t ≡ s

pub held_slot : (z : Shape) (size branches entries r : ℕ) (v : List ℕ) → AnswersSlot (λ t. held_to z t size branches entries r v)
held_slot z size branches entries r v t s nb ne q = ap (λ (x : Answer). x.a) q

pub hold_slot : (z : Shape) (size branches entries : ℕ) (w : Wrote) → AnswersSlot (λ t. hold_to z t size branches entries w)
hold_slot z size branches entries w t s nb ne =
    by_root z t size branches entries w (λ (o : Outcome). o.answer ≡ done_taking s nb ne → t ≡ s)
    (λ q. absurd (not_done Why.NoBranchCells s nb ne q))
    (held_slot z size branches entries w.at w.words t s nb ne)

pub update_slot : (z : Shape) (a : List ℕ) (e : ℕ) (u : Update) → AnswersSlot u.does → (s branches entries : ℕ)
    → (update_by z a e u).answer ≡ done_taking s branches entries → free_slot z a ≡ Some s
update_slot z a e u does s branches entries =
    either_way z a e u (λ (o : Outcome). o.answer ≡ done_taking s branches entries → free_slot z a ≡ Some s)
    (λ why q. absurd (not_done why s branches entries q))
    (λ held there t free fit_0 fit_1 q. free ∙ ap Some (does t s branches entries q))
