-- What new edition and share leave is what their definitions say, and from that alone follows what they mean: an edition is put in
-- the lowest free slot, all others stay as they are, and a sound arena stays sound.
use Rattle.std.proofs.Common.{◌≡◌, ℕ, ◌<◌, true, false, List, Some, None, Ok, Option, Result, sym, refl, ap, ◌∙◌, subst, arith}
use Rattle.cases.proofs.Cases.{split}
use Rattle.segments.specs.Segments.{segment}
use Rattle.trie.specs.Trie.{Map, empty, size, listing}
use Rattle.trie.specs.Names.{rename, forget}
use Rattle.trie.specs.Built.{Built, nothing}
use Rattle.layout.specs.declared.Shape.{Shape}
use Rattle.layout.specs.Header.{Header, header_of}
use Rattle.layout.specs.Columns.{word_of_slot, columns, set_slot_words}
use Rattle.layout.proofs.OffsetLaws.{names_low}
use Rattle.layout.proofs.HeaderLaws.{Header-says}
use Rattle.arena.specs.Shows.{ShowsMap}
use Rattle.arena.specs.Sound.{Sound}
use Rattle.cells.specs.Slots.{held_slot, free_slot}
use Rattle.cells.specs.Mirrors.{share_words}
use Rattle.cells.proofs.SlotLaws.{held_says, Lowest, free_slot-Lowest}
use Rattle.cells.proofs.StepColumns.{share_none}
use Rattle.replies.specs.declared.Refusal.{Refusal}
use Rattle.replies.specs.declared.Refusal.TheVariants as Why
use Rattle.replies.specs.Answers.{number_answer, refused, done}
use Rattle.replies.proofs.AnswerLaws.{refused_not_done, done_value, header_Right, slot_at, slot_none}
use Rattle.replies.specs.Outcomes.{Outcome, leaves, on_header}
use Rattle.makes.specs.Calls.{new_to, new_edition_in, new_edition_of, share_to, held_shared, share_in, share_of}
use Rattle.arena.specs.Holds.{Holds, Keeps}
use Rattle.makes.specs.Terms.{MakesNew, Shares}
use Rattle.makes.proofs.PutLaws.{put_kept, put_new, put_Sound}
use Rattle.arena.proofs.Equivalent.{held_slot_lem}
use Rattle.arena.proofs.Shelved.{slots_in}

-- what the code leaves, case by case
module _ (z : Shape) (a : List ℕ) where
  pub new_At : (s : ℕ) → free_slot z a ≡ Some s → new_edition_in z a ≡ leaves (done s 0) (new_to z a s)
  unfolding new_edition_in
  new_At s e = slot_at (free_slot z a) _ _ s e

  pub new_none : free_slot z a ≡ None → new_edition_in z a ≡ leaves (refused Why.NoSlot) a
  unfolding new_edition_in
  new_none e = slot_none (free_slot z a) _ _ e

  pub share_At : (i s : ℕ) → free_slot z a ≡ Some s → held_shared z a i ≡ leaves (done s 0) (share_to z a i s)
  unfolding held_shared
  share_At i s e = slot_at (free_slot z a) _ _ s e

  pub share_NoneFree : (i : ℕ) → free_slot z a ≡ None → held_shared z a i ≡ leaves (refused Why.NoSlot) a
  unfolding held_shared
  share_NoneFree i e = slot_none (free_slot z a) _ _ e

  pub held_shared_lem : (i : ℕ) → held_slot z a i ≡ true → share_in z a i ≡ held_shared z a i
  unfolding share_in
  held_shared_lem i e = rw e

  pub share_not_held : (i : ℕ) → held_slot z a i ≡ false → share_in z a i ≡ leaves (refused Why.NoSuchEdition) a
  unfolding share_in
  share_not_held i e = rw e

-- WHAT A CALL MEANS that was refused, and one that put a map in a slot
record Means (a : List ℕ) (z : Shape) (N : ℕ → Map ℕ → Type 0) (o : Outcome) : Type 0 where
  pub sound : Sound a → Sound o.words
  pub kept : (e : ℕ) (m : Map ℕ) → Holds z a e m → Holds z o.words e m
  pub new : (e : ℕ) → o.answer ≡ done e 0 → (m : Map ℕ) → N e m → Holds z o.words e m

refusal_Means : (a : List ℕ) (z : Shape) (N : ℕ → Map ℕ → Type 0) (why : Refusal) → Means a z N (leaves (refused why) a)
refusal_Means a z N why =
    record {
      sound = λ S. S;
      kept = λ e m E. E;
      new = λ e q. absurd (refused_not_done why e 0 q);
    }

-- NEW EDITION
empty-Built : (seg : ℕ → ℕ → ℕ) (d : ℕ) → Built seg d (forget {X = ℕ} empty)
unfolding rename
empty-Built seg d = nothing

new_Means : (a : List ℕ) (z : Shape) → Header a z → Means a z (λ e m. m ≡ empty) (new_edition_in z a)
unfolding new_to
new_Means a z h = by (free_slot z a) refl
  where
    by : (y : Option ℕ) → free_slot z a ≡ y → Means a z (λ e m. m ≡ empty) (new_edition_in z a)
    by None e = rw (new_none z a e) (refusal_Means a z _ Why.NoSlot)
    by (Some s) e =
        let w = free_slot-Lowest z a s e in
        let same : set_slot_words z (share_words z a 0) s 1 0 0 ≡ new_to z a s
        = ap (λ (x : List ℕ). set_slot_words z x s 1 0 0) (share_none z a 0 (names_low z 0 (omega arith))) in
        let sh : ShowsMap (columns z a) empty 0 = unfold ShowsMap in refl in
        let sz : 0 ≡ size {X = ℕ} empty = unfold size listing in refl in
        rw (new_At z a s e)
        (record {
          sound =
              λ S.
              rw (sym same)
              (put_Sound z a h s 0 0 w.slot w.not_held empty sh sz (empty-Built (segment z.bits) z.depths) S);
          kept = λ i m E. rw (sym same) (put_kept z a h s 0 0 w.slot w.not_held i m E);
          new =
              λ i q m em.
              rw (sym same, em, sym (done_value s 0 i 0 q)) (put_new z a h s 0 0 w.slot w.not_held empty sh sz);
        })

made-Edition : (r : Result ℕ Refusal) (e : ℕ) → r ≡ Ok e → number_answer r ≡ done e 0
made-Edition r e q = rw q

-- a contract follows from the outcome, in the header's two cases
module _ (a : List ℕ) (N : Shape → ℕ → Map ℕ → Type 0) (f : Shape → Outcome)
    (right : (z : Shape) → Header a z → Means a z (N z) (f z)) where
  abbrev called : Outcome
  called = on_header (header_of a) (leaves (refused Why.Damaged) a) f

  -- the words after a call on an arena with any header, and with a right one
  called_right : (z : Shape) → Header a z → called ≡ f z
  called_right z h = header_Right (header_of a) _ f z ((Header-says a z).1 h)

  called_kept : Keeps a called.words
  called_kept z h e m E = rw (called_right z h) ((right z h).kept e m E)

  called_new : (z : Shape) → Header a z → (e : ℕ) → called.answer ≡ done e 0 → (m : Map ℕ) → N z e m → Holds z called.words e m
  called_new z h e q m w = rw (called_right z h) ((right z h).new e (rw (called_right z h) at q) m w)

  called-Sound : Sound a → Sound called.words
  called-Sound S = rw (called_right S.shape S.header) ((right S.shape S.header).sound S)

pub makes_new : (a : List ℕ) (r : Result ℕ Refusal) (b : List ℕ) → leaves (number_answer r) b ≡ new_edition_of a → MakesNew a r b
makes_new a r b e =
    let eb : (new_edition_of a).words ≡ b = ap (λ (o : Outcome). o.words) (sym e) in
    let er : number_answer r ≡ (new_edition_of a).answer = ap (λ (o : Outcome). o.answer) e in
    record {
      outcome = e;
      sound = λ S. subst (λ (w : List ℕ). Sound w) eb (called-Sound a (λ z f m. m ≡ empty) _ (new_Means a) S);
      kept = λ z h i m E. subst (λ (w : List ℕ). Holds z w i m) eb (called_kept a (λ z f m. m ≡ empty) _ (new_Means a) z h i m E);
      new = λ z h i q. subst (λ (w : List ℕ). Holds z w i empty) eb (called_new a (λ z f m. m ≡ empty) _ (new_Means a) z h i (sym er ∙ made-Edition r _ q) empty refl);
    }

-- SHARE
share_to-Means : (a : List ℕ) (z : Shape) → Header a z → (i s : ℕ) → i < z.slots → word_of_slot z a i 0 ≡ 1 → Lowest z a s
    → Means a z (λ e m. Holds z a i m) (leaves (done s 0) (share_to z a i s))
unfolding share_to
share_to-Means a z h i s li hi w =
    let r = word_of_slot z a i 1 in
    let n = word_of_slot z a i 2 in
    record {
      sound =
          λ S.
          let k = held_slot_lem z (columns z a) i hi (slots_in a S z h i li) in
          put_Sound z a h s r n w.slot w.not_held k.map k.edition.shows k.edition.sized k.built S;
      kept = λ e m E. put_kept z a h s r n w.slot w.not_held e m E;
      new = λ e q m E. rw (sym (done_value s 0 e 0 q)) (put_new z a h s r n w.slot w.not_held m E.shows E.sized);
    }

share_Means : (a : List ℕ) (i : ℕ) (z : Shape) → Header a z → Means a z (λ e m. Holds z a i m) (share_in z a i)
share_Means a i z h =
    split (held_slot z a i)
    (λ t. let w = held_says z a i t in rw (held_shared_lem z a i t) (by w.0 w.1 (free_slot z a) refl))
    (λ t. rw (share_not_held z a i t) (refusal_Means a z _ Why.NoSuchEdition))
  where
    by : i < z.slots → word_of_slot z a i 0 ≡ 1 → (y : Option ℕ) → free_slot z a ≡ y → Means a z (λ e m. Holds z a i m) (held_shared z a i)
    by li hi None e = rw (share_NoneFree z a i e) (refusal_Means a z _ Why.NoSlot)
    by li hi (Some s) e = rw (share_At z a i s e) (share_to-Means a z h i s li hi (free_slot-Lowest z a s e))

pub shares : (a : List ℕ) (i : ℕ) (r : Result ℕ Refusal) (b : List ℕ) → leaves (number_answer r) b ≡ share_of a i → Shares a i r b
shares a i r b e =
    let eb : (share_of a i).words ≡ b = ap (λ (o : Outcome). o.words) (sym e) in
    let er : number_answer r ≡ (share_of a i).answer = ap (λ (o : Outcome). o.answer) e in
    record {
      outcome = e;
      sound = λ S. subst (λ (w : List ℕ). Sound w) eb (called-Sound a (λ z f m. Holds z a i m) _ (share_Means a i) S);
      kept = λ z h j m E. subst (λ (w : List ℕ). Holds z w j m) eb (called_kept a (λ z f m. Holds z a i m) _ (share_Means a i) z h j m E);
      new = λ z h m E f q. subst (λ (w : List ℕ). Holds z w f m) eb (called_new a (λ z f m. Holds z a i m) _ (share_Means a i) z h f (sym er ∙ made-Edition r _ q) m E);
    }
