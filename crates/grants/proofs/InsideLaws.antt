-- An update stays inside the arena, on any words with a right header, if what it does with a slot does, and so does its end: words 0
-- to 7, the words beyond the total and the length are kept, whatever is answered.
use Rattle.std.proofs.Common.{ℕ, ◌<◌, List, ⊎_elim}
use Rattle.cases.proofs.Cases.{eq?}
use Rattle.layout.specs.declared.Shape.{Shape}
use Rattle.layout.specs.Layout.{Allowed}
use Rattle.cells.specs.Frame.{Kept}
use Rattle.cells.specs.Mirrors.{Wrote}
use Rattle.cells.proofs.KeptLaws.{kept_refl, kept_trans, slots_kept}
use Rattle.cells.proofs.SlotLaws.{free_slot-Lowest}
use Rattle.replies.specs.declared.Refusal.{Refusal}
use Rattle.replies.specs.Outcomes.{Outcome, on_wrote}
use Rattle.replies.proofs.AnswerLaws.{wrote_none, wrote_some}
use Rattle.grants.specs.Rooms.{held_to, hold_to}
use Rattle.grants.proofs.CaseLaws.{Update, update_by, either_way, by_root}

-- after a writer
pub wrote_kept : {z : Shape} {a : List ℕ} (s : Wrote) (why : Refusal) (f : ℕ → List ℕ → Outcome) → Kept z a s.words
    → Kept z s.words (f s.at s.words).words → Kept z a (on_wrote s why f).words
wrote_kept s why f k on =
    ⊎_elim (λ e. rw (wrote_none s why f e) k) (λ ne. rw (wrote_some s why f ne) (kept_trans k on)) (eq? s.at 0)

-- with the slot
module _ {z : Shape} {a : List ℕ} (allowed : Allowed z) (s size branches entries : ℕ) (ls : s < z.slots) (w : Wrote)
    (k : Kept z a w.words) where
  pub held_kept : Kept z a (held_to z s size branches entries w.at w.words).words
  held_kept = kept_trans k (slots_kept z w.words s 1 w.at size allowed.wide ls)

  pub hold_Kept : Kept z a (hold_to z s size branches entries w).words
  hold_Kept = by_root z s size branches entries w (λ (o : Outcome). Kept z a o.words) k held_kept

-- the call
pub update_Kept : (z : Shape) (a : List ℕ) (e : ℕ) (u : Update) → ((s : ℕ) → s < z.slots → Kept z a (u.does s).words)
    → Kept z a (update_by z a e u).words
update_Kept z a e u does =
    either_way z a e u (λ (o : Outcome). Kept z a o.words) (λ why. kept_refl z a)
    (λ held there s q fit_0 fit_1. does s (free_slot-Lowest z a s q).slot)
