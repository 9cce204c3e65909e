-- What drop leaves is what its definition says, and from that alone follows what it means: on a sound arena a refusal leaves the
-- words as they are, and else the slot is empty, what it named and nothing else names is free, every other edition is the same
-- named trie, and the arena stays sound.
use Rattle.std.proofs.Common.{◌≡◌, ℕ, List, Result, sym, ap, subst}
use Rattle.cases.proofs.Cases.{split}
use Rattle.layout.specs.declared.Shape.{Shape}
use Rattle.layout.specs.Header.{Header}
use Rattle.layout.proofs.HeaderLaws.{Header-says}
use Rattle.arena.specs.Sound.{Sound}
use Rattle.cells.specs.Frame.{Kept}
use Rattle.cells.specs.Slots.{held_slot}
use Rattle.cells.proofs.SlotLaws.{held_says}
use Rattle.replies.specs.declared.Refusal.{Refusal}
use Rattle.replies.specs.declared.Refusal.TheVariants as Why
use Rattle.replies.specs.Answers.{refused, cells_answer}
use Rattle.replies.specs.Outcomes.{Outcome, leaves}
use Rattle.replies.proofs.AnswerLaws.{refused_not_done}
use Rattle.drops.specs.Calls.{drop_of}
use Rattle.drops.specs.Terms.{Drops}
use Rattle.drops.proofs.CaseLaws.{drop_held, drop_not_held, drop_Right}
use Rattle.drops.proofs.InsideLaws.{drop_inside}
use Rattle.drops.proofs.FreeLaws.{Means, free_Means}
use Rattle.replies.specs.declared.CellCounts.{CellCounts}

refusal_Means : (a : List ℕ) (z : Shape) (e : ℕ) → Sound a → (why : Refusal) → Means a z e (leaves (refused why) a)
refusal_Means a z e S why =
    record { sound = S; kept = λ i m ne E. E; gone = λ nb ne q. absurd (refused_not_done why nb ne q) }

-- THE CONTRACT
drop_Means : (a : List ℕ) → Sound a → (e : ℕ) (z : Shape) → Header a z → Means a z e (drop_of a e)
drop_Means a S e z h =
    rw (drop_Right a e z ((Header-says a z).1 h))
    (split (held_slot z a e)
    (λ t. let w = held_says z a e t in rw (drop_held z a e t) (free_Means a S z h e w.0 w.1))
    (λ t. rw (drop_not_held z a e t) (refusal_Means a z e S Why.NoSuchEdition)))

pub drops : (a : List ℕ) (e : ℕ) (r : Result CellCounts Refusal) (b : List ℕ) → leaves (cells_answer r) b ≡ drop_of a e → Drops a e r b
drops a e r b q =
    let meant : Sound a → (z : Shape) → Header a z → Means a z e (leaves (cells_answer r) b)
    = λ S z h. subst (λ (o : Outcome). Means a z e o) (sym q) (drop_Means a S e z h) in
    record {
      outcome = q;
      inside = λ z h. subst (λ (o : Outcome). Kept z a o.words) (sym q) (drop_inside a e z h);
      sound = λ S. (meant S S.shape S.header).sound;
      kept = λ S z h. (meant S z h).kept;
      gone = λ S z h nb ne y. (meant S z h).gone nb ne (ap cells_answer y);
    }
