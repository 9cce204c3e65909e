-- What an update leaves is what its definition says, and from that alone follows what it means: on a sound arena a refusal leaves the
-- words as they are, and else the lowest free slot holds what the step makes of the edition, all others stay as they are, and the
-- arena stays sound. All that an update has to show of itself for this is in `Writer` and `Builds`.
use Rattle.std.proofs.Common.{◌≡◌, ℕ, ◌<◌, ◌≤◌, true, false, ◌↔◌, List, length, Some, Result, sym, ap, ◌∙◌, subst, arith}
use Rattle.segments.specs.Segments.{segment}
use Rattle.layout.specs.declared.Shape.{Shape}
use Rattle.layout.specs.Layout.{Lent}
use Rattle.layout.specs.Header.{Header}
use Rattle.layout.specs.Columns.{word_of_slot, columns}
use Rattle.layout.proofs.HeaderLaws.{Header-says, Header-Lent}
use Rattle.trie.specs.Trie.{Map, updated}
use Rattle.trie.specs.Built.{Built}
use Rattle.trie.specs.Names.{forget}
use Rattle.arena.specs.Sound.{HeldSlot, Sound}
use Rattle.arena.specs.Local.{Local}
use Rattle.arena.specs.Holds.{Holds, OtherSlots}
use Rattle.arena.proofs.Frames.{other_slots}
use Rattle.arena.proofs.Equivalent.{held_slot_lem}
use Rattle.arena.proofs.Shelved.{Local-in, slots_in}
use Rattle.arena.proofs.Puts.{Beside, beside_keeps, beside_Sound}
use Rattle.cells.specs.Frame.{Kept}
use Rattle.cells.specs.Slots.{free_slot}
use Rattle.cells.proofs.KeptLaws.{Kept-Header}
use Rattle.cells.proofs.SlotLaws.{held_says, free_slot-Lowest}
use Rattle.replies.specs.declared.Refusal.{Refusal}
use Rattle.replies.specs.Answers as A
use Rattle.replies.specs.Answers.{Answer, refused, done_taking}
use Rattle.replies.specs.Outcomes.{Outcome, leaves}
use Rattle.replies.proofs.AnswerLaws.{not_done}
use Rattle.replies.proofs.Tables.{Held, HeaderNumbered}
use Rattle.grants.specs.Rooms.{free_cell_count}
use Rattle.grants.specs.Terms.{Step, NewEdition, Updates}
use Rattle.grants.proofs.CaseLaws.{Update, update_by, update_of, update_Right, either_way}
use Rattle.grants.proofs.InsideLaws.{update_Kept}
use Rattle.grants.proofs.SlotLaws.{AnswersSlot, update_slot}
use Rattle.grants.proofs.TableLaws.{UpdateWhen, update_numbered}
use Rattle.grants.proofs.FreshLaws.{names_of_branches, names_of_entries, Written, free_cell_count_lem, Fresh-branches, Fresh-entries, branches_risen, entries_risen}
use Rattle.replies.specs.declared.Updated.{Updated}

-- WHAT AN UPDATE DOES with slot s, from the words a with these free cells and the map m: it is done to its end, and the slot holds
-- what the step makes of m and of the first free cells
pub record Does (z : Shape) (a : List ℕ) (free : ℕ → List ℕ) (step : Step) (m : Map ℕ) (u : Update) (s : ℕ) : Type 0 where
  pub after : List ℕ
  pub result : Map ℕ
  pub done : u.does s ≡ leaves (done_taking s u.branches u.entries) after
  pub makes : step.makes (names_of_branches free u.branches) (names_of_entries free) m ≡ updated result
  pub counts : step.takes (names_of_branches free u.branches) (names_of_entries free) m
      ≡ record { branches = u.branches; entries = u.entries }
  pub within_depths : u.branches ≤ z.depths
  pub written : Written z a free u.branches u.entries s result after

-- WHAT IT HAS TO SHOW. On any words: it stays inside, and answers the slot that it was given. On a sound arena where edition e holds
-- the map m, the key is as the call wants it, slot s is free and there are the cells: what it does.
pub record Writer (a : List ℕ) (e : ℕ) (step : Shape → Step) (u : Shape → Update) : Type 0 where
  pub inside : (z : Shape) → Header a z → (s : ℕ) → s < z.slots → Kept z a ((u z).does s).words
  pub slot : (z : Shape) → Header a z → AnswersSlot (u z).does
  pub does : Sound a → (z : Shape) → Header a z → (m : Map ℕ) → Holds z a e m → (u z).wanted ≡ true
      → {free : ℕ → List ℕ} → Local z (columns z a) (λ r. 0) free → (u z).branches ≤ length (free 0) → (u z).entries ≤ length (free 1)
      → (s : ℕ) → s < z.slots → (word_of_slot z a s 0 ≡ 1 → ⊥) → Does z a free (step z) m (u z) s

-- and of its step: what it makes of a map that can be built can be built
abbrev pub Builds : (Shape → Step) → Type 0
Builds step =
    (z : Shape) (b f : ℕ → ℕ) (m result : Map ℕ) → Built (segment z.bits) z.depths (forget m)
    → (step z).makes b f m ≡ updated result → Built (segment z.bits) z.depths (forget result)

-- WHAT A CALL MEANS that was refused, and one that was done
record Means (a : List ℕ) (z : Shape) (e : ℕ) (step : Step) (o : Outcome) : Type 0 where
  pub sound : Sound o.words
  pub kept : (i : ℕ) (m : Map ℕ) → Holds z a i m → Holds z o.words i m
  pub new : (m : Map ℕ) → Holds z a e m → (s branches entries : ℕ) → o.answer ≡ done_taking s branches entries
      → NewEdition z a o.words step m s branches entries
  pub others : (s branches entries : ℕ) → o.answer ≡ done_taking s branches entries → OtherSlots z a o.words s

refusal_Means : (a : List ℕ) (z : Shape) (e : ℕ) (step : Step) → Sound a → (why : Refusal)
    → Means a z e step (leaves (refused why) a)
refusal_Means a z e step S why =
    record {
      sound = S;
      kept = λ i m E. E;
      new = λ m E s nb ne q. absurd (not_done why s nb ne q);
      others = λ s nb ne q. absurd (not_done why s nb ne q);
    }

module _ {a : List ℕ} {e : ℕ} {step : Shape → Step} {u : Shape → Update} (W : Writer a e step u) (S : Sound a) (z : Shape)
    (head : Header a z) where
  -- WHERE THERE IS ROOM
  module _ (there : (u z).wanted ≡ true) (s : ℕ) (q : free_slot z a ≡ Some s) (fit_0 : (u z).branches ≤ free_cell_count z a 0)
      (fit_1 : (u z).entries ≤ free_cell_count z a 1) where
    abbrev free : ℕ → List ℕ
    free = (Local-in a S z head).0

    local : Local z (columns z a) (λ r. 0) free
    local = (Local-in a S z head).1

    lent : Lent z a
    lent = Header-Lent a z head

    room_0 : (u z).branches ≤ length (free 0)
    room_0 = omega (arith, free_cell_count_lem lent local 0 (omega arith))

    room_1 : (u z).entries ≤ length (free 1)
    room_1 = omega (arith, free_cell_count_lem lent local 1 (omega arith))

    away : word_of_slot z a s 0 ≡ 1 → ⊥
    away = (free_slot-Lowest z a s q).not_held

    writes : (m : Map ℕ) → Holds z a e m → Does z a free (step z) m (u z) s
    writes m E = W.does S z head m E there local room_0 room_1 s (free_slot-Lowest z a s q).slot away

    -- no call is refused for want of cells after it has written
    pub room_exact : (m : Map ℕ) → Holds z a e m
        → (b : List ℕ) × ((u z).does s ≡ leaves (done_taking s (u z).branches (u z).entries) b)
    room_exact m E = let D = writes m E in (D.after, D.done)

    beside : (m : Map ℕ) (E : Holds z a e m) → Beside z a (writes m E).after s
    beside m E =
        let T = (writes m E).written in
        record { before = head; after = Kept-Header T.kept head; away = away; grow = T.grow; others = T.others }

    -- the slot holds the new edition, of cells that were free
    new_edition : (m : Map ℕ) (E : Holds z a e m)
        → NewEdition z a (writes m E).after (step z) m s (u z).branches (u z).entries
    new_edition m E =
        let D = writes m E in
        record {
          branch_names = names_of_branches free (u z).branches;
          entry_names = names_of_entries free;
          result = D.result;
          makes = D.makes;
          holds = D.written.edition;
          counts = D.counts;
          within_depths = D.within_depths;
          new_branches = Fresh-branches local (u z).branches room_0;
          new_entries = Fresh-entries local (u z).entries room_1;
          branches_rise = branches_risen local D.written room_0;
          entries_rise = entries_risen local D.written room_1;
        }

    done_Means : Builds step → HeldSlot z (columns z a) e → Means a z e (step z) ((u z).does s)
    done_Means builds K =
        let E : Holds z a e K.map = K.edition in
        let D = writes K.map E in
        let B = beside K.map E in
        record {
          sound =
              rw D.done
              (beside_Sound B (record { holds = D.written.edition; built = builds z _ _ K.map D.result K.built D.makes }) D.written.local S);
          kept = rw D.done (beside_keeps B);
          new =
              λ m H t nb ne y.
              let is = (writes m H).done in
              let w : done_taking s (u z).branches (u z).entries ≡ done_taking t nb ne = rw is at y in
              rw (
                is,
                ← ap (λ (x : Answer). x.a) w,
                ← ap (λ (x : Answer). x.b) w,
                ← ap (λ (x : Answer). x.c) w,
              )
              (new_edition m H);
          others =
              λ t nb ne y.
              let w : done_taking s (u z).branches (u z).entries ≡ done_taking t nb ne = rw D.done at y in
              rw (D.done, ← ap (λ (x : Answer). x.a) w) (other_slots z a _ _ B.others);
        }

  update_Means : Builds step → Means a z e (step z) (update_by z a e (u z))
  update_Means builds =
      either_way z a e (u z) (λ (o : Outcome). Means a z e (step z) o) (refusal_Means a z e (step z) S)
      (λ t there s q fit_0 fit_1.
      let (slot, held) = held_says z a e t in
      done_Means there s q fit_0 fit_1 builds (held_slot_lem z (columns z a) e held (slots_in a S z head e slot)))

-- THE CONTRACT
module _ {a : List ℕ} {e : ℕ} {step : Shape → Step} {u : Shape → Update} (W : Writer a e step u) where
  pub updates : Builds step → (r : Result Updated Refusal) (b : List ℕ) → leaves (A.update_answer r) b ≡ update_of a e u → Updates a e step (update_of a e u) r b
  updates builds r b q =
      record {
        outcome = q;
        inside =
            λ z head.
            subst (λ (o : Outcome). Kept z a o.words) (sym (called z head)) (update_Kept z a e (u z) (W.inside z head));
        lowest =
            λ z head s nb ne y.
            update_slot z a e (u z) (W.slot z head) s nb ne
            (ap (λ (o : Outcome). o.answer) (sym (called z head)) ∙ ap A.update_answer y);
        sound = λ S. (meant S S.shape S.header).sound;
        kept = λ S z head. (meant S z head).kept;
        new = λ S z head m E s nb ne y. (meant S z head).new m E s nb ne (ap A.update_answer y);
        others = λ S z head s nb ne y. (meant S z head).others s nb ne (ap A.update_answer y);
      }
    where
      called : (z : Shape) → Header a z → leaves (A.update_answer r) b ≡ update_by z a e (u z)
      called z head = q ∙ update_Right a e u z ((Header-says a z).1 head)

      meant : Sound a → (z : Shape) → Header a z → Means a z e (step z) (leaves (A.update_answer r) b)
      meant S z head = subst (λ (o : Outcome). Means a z e (step z) o) (sym (called z head)) (update_Means W S z head builds)

  -- and its table on a sound arena, where m is the map that edition e holds, if it is held: exactly by what 6 says and by what the
  -- update is to take
  pub exactly_numbered : Sound a → (m : Map ℕ) → ((z : Shape) → Header a z → Held z a e → Holds z a e m)
      → (Lacks : Shape → Type 0) (branches entries : Shape → ℕ)
      → ((z : Shape) → Header a z → Holds z a e m → ((u z).wanted ≡ false) ↔ Lacks z)
      → ((z : Shape) → Header a z → Holds z a e m → (u z).wanted ≡ true
      → ((u z).branches ≡ branches z) × ((u z).entries ≡ entries z))
      → HeaderNumbered a a (λ z. UpdateWhen z a e (Lacks z) (branches z) (entries z)) (update_of a e u)
  exactly_numbered S m holds Lacks branches entries lacks counts =
      update_numbered a e u Lacks branches entries
      (λ z head held.
      let E = holds z head held in
      record {
        lacks = lacks z head E;
        counted =
            λ w.
            record {
              branches_are = (counts z head E w).0;
              entries_are = (counts z head E w).1;
              done = λ s q fit_0 fit_1. room_exact W S z head w s q fit_0 fit_1 m E;
            };
      })
