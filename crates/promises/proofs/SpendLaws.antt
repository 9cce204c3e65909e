-- Demand 3: every public call spends what specs/Spends.antt says.
use Prim.Native.Nat.{ℕ, ◌+◌, ◌-◌, ◌^◌}
use mathlib.Core.Path.{◌≡◌, refl, sym, ap, ◌∙◌}
use mathlib.Core.List.{List}
use mathlib.Core.Logic.{⊎_elim}
use native.Mathlib.Omega.{arith}
use Rattle.cases.proofs.Cases.{split, lt?}
use Rattle.counts.proofs.CountLaws.{upd_other}
use Rattle.trie.specs.Trie.{Map}
use Rattle.trie.specs.Cells.{Taken}
use Rattle.layout.specs.declared.Shape.{Shape}
use Rattle.layout.specs.Layout.{names, Lent}
use Rattle.layout.specs.Header.{Header, header_of}
use Rattle.layout.specs.Columns.{State, columns, set_slot_words, set_slot, set_count, word_of_slot}
use Rattle.layout.proofs.OffsetLaws.{names_low}
use Rattle.layout.proofs.HeaderLaws.{Fits-says, Header-Lent, Header-says}
use Rattle.layout.proofs.ColumnLaws.{slot_store}
use Rattle.arena.specs.Sound.{Sound}
use Rattle.arena.specs.Holds.{Keeps}
use Rattle.arena.proofs.BlankArena.{blank-columns}
use Rattle.cells.specs.Mirrors.{share_words}
use Rattle.cells.specs.Slots.{free_slot, held_slot}
use Rattle.cells.proofs.KeptLaws.{Kept-Header, Kept-Lent, share_Kept}
use Rattle.cells.proofs.SlotLaws.{Lowest, free_slot-Lowest}
use Rattle.cells.proofs.StepColumns.{share_none, share_full, share_columns}
use Rattle.chains.specs.Chains.{an_entry}
use Rattle.replies.specs.declared.Refusal.TheVariants as Why
use Rattle.replies.specs.Answers as A
use Rattle.replies.specs.Outcomes.{Outcome, leaves}
use Rattle.replies.proofs.AnswerLaws.{refused_not_done, done_value, header_Right}
use Rattle.replies.proofs.Tables.{by_free, number}
use Rattle.grants.specs.Terms.{Step}
use Rattle.makes.specs.Calls.{new_to, new_edition_in, share_to, share_in}
use Rattle.makes.specs.Terms.{Formats, MakesNew, Shares}
use Rattle.makes.proofs.FormatLaws.{format_done}
use Rattle.makes.proofs.EditionLaws.{new_At, new_none, share_At, held_shared_lem, share_NoneFree, share_not_held}
use Rattle.makes.proofs.NumberLaws.{format_Numbered, new_numbered, share_numbered}
use Rattle.makes.proofs.PutLaws.{put_Header}
use Rattle.updates.specs.Terms.{Inserts, Changes, insert_step}
use Rattle.removes.specs.Terms.{Removes, remove_step}
use Rattle.drops.specs.Terms.{Drops}
use Rattle.drops.proofs.NumberLaws.{drop_numbered}
use Rattle.settled.specs.Cost.{Beside, Costs}
use Rattle.promises.specs.History.{Call, Meets, formats, makes_new, shares, inserts, changes, removes, drops, sizes, uses, gets, lists, compares, checks}
use Rattle.promises.specs.Spends.{Spends, Rises, New, Derived}
use Rattle.promises.specs.Told.{UpdateTold}
use Rattle.settled.proofs.CostLaws.{one_more}
use Rattle.promises.proofs.AnswerLaws.{refused_same}
use Rattle.promises.proofs.WriteLaws.{format_Refused}
use Rattle.promises.proofs.StepLaws.{Unnamed, insert_Unnamed, remove_Unnamed}
use Rattle.promises.proofs.BesideLaws.{drop_Beside, held_before, update_Beside}
use Rattle.promises.proofs.ToldLaws.{change_told, insert_told, remove_told}
use Rattle.promises.proofs.DoneLaws.{Fits, map_of, update_Done}
use Rattle.std.specs.Prelude.{Some, None, Result, Ok, Err}
use Rattle.replies.specs.declared.Refusal.{Refusal}
use Rattle.replies.specs.declared.Updated.{Updated}
use Rattle.replies.specs.Answers.{took, cell_counts}
use Rattle.replies.specs.declared.CellCounts.{CellCounts}

-- FORMAT
blank_used : {a b : List ℕ} (g n m s : ℕ) → Formats a g n m s (Ok tt) b → (y : Shape) (k : ℕ) → (columns y b).used k ≡ 0
blank_used {a} g n m s M y k =
    let (z, fits, long) = ((format_Numbered a g n m s).exactly 0).0 (sym (ap number M.outcome)) in
    let laid = ap (λ (o : Outcome). o.words) (M.outcome ∙ format_done a _ z fits long) in
    ap (λ (w : List ℕ). (columns y w).used k) laid ∙ (blank-columns z a (Fits-says g n m s z fits).allowed).no_used k

-- WHAT A NEW EDITION COSTS, where words 10 and 11 rose by so much
module _ (p q : List ℕ) (S : Sound p) (T : Sound q) (z : Shape) (h : Header p z) (j : Header q z) (s : ℕ) (B : Beside z p q s) where
  Costs-more : (x y : ℕ) → Rises z p q x y → Costs z q s x y
  Costs-more x y R =
      let own = one_more p q S T z h j s B in
      record { own_branches = own 0 x (omega arith) R.branches_rise; own_entries = own 1 y (omega arith) R.entries_rise }

  New-costs : (x y : ℕ) → Rises z p q x y → New z p q s x y
  New-costs x y R = record { costs = Costs-more x y R; rises = R }

-- NEW EDITION AND SHARE. A share leaves every column but the counts.
share_beside : (z : Shape) (a : List ℕ) (r : ℕ) → Lent z a → (see : State → ℕ)
    → ((v : ℕ) → see (set_count (columns z a) r v) ≡ see (columns z a)) → see (columns z (share_words z a r)) ≡ see (columns z a)
share_beside z a r l see same =
    let still : share_words z a r ≡ a → see (columns z (share_words z a r)) ≡ see (columns z a)
    = λ e. ap (λ (w : List ℕ). see (columns z w)) e in
    split (names z r)
    (λ n.
    ⊎_elim
    (λ room. ap see (share_columns z a r l n room) ∙ same _)
    (λ full. still (share_full z a r n full))
    (lt? ((columns z a).count r) (2 ^ 64 - 1)))
    (λ n. still (share_none z a r n))

module _ (a b : List ℕ) (S : Sound a) (z : Shape) (h : Header a z) where
  -- a root named once more, in the lowest free slot
  put_spends : (s r n : ℕ) → Lowest z a s → b ≡ set_slot_words z (share_words z a r) s 1 r n → Sound b → Keeps a b → New z a b s 0 0
  put_spends s r n low e T kept =
      let lent = Header-Lent a z h in
      let c = share_words z a r in
      let after : columns z b ≡ set_slot (columns z c) s 1 r n
      = ap (columns z) e ∙ slot_store z c (Kept-Lent (share_Kept z a r) lent).long lent.allowed.wide s 1 r n low.slot in
      let used : (k : ℕ) → (columns z b).used k ≡ (columns z a).used k + 0
      = λ k.
      let same = ap (λ (τ : State). τ.used k) after ∙ share_beside z a r lent (λ τ. τ.used k) (λ v. refl) in
      omega (arith, same) in
      let held : (i : ℕ) → (i ≡ s → ⊥) → word_of_slot z b i 0 ≡ word_of_slot z a i 0
      = λ i ne.
      ap (λ (τ : State). τ.held i) after ∙ upd_other (columns z c).held s 1 i ne ∙ share_beside z a r lent (λ τ. τ.held i) (λ v. refl) in
      New-costs a b S T z h (rw e (put_Header z a h s r n low.slot low.not_held)) s
      (record {
        away = λ m E. low.not_held E.held;
        more = kept z h;
        others = λ i m ne. held_before a b S z h i (held i ne) (kept z h i) m;
      })
      0 0 (record { branches_rise = used 0; entries_rise = used 1 })

  -- what is done in the lowest free slot, or refused
  done_at : (to : ℕ → List ℕ) (o : Outcome) → (free_slot z a ≡ None → o ≡ leaves (A.refused Why.NoSlot) a)
      → ((t : ℕ) → free_slot z a ≡ Some t → o ≡ leaves (A.done t 0) (to t)) → (s : ℕ) → leaves (A.done s 0) b ≡ o
      → Lowest z a s × (b ≡ to s)
  done_at to o none at s e =
      by_free z a
      (λ f all. absurd (refused_not_done Why.NoSlot s 0 (sym (ap (λ (x : Outcome). x.answer) (e ∙ none f)))))
      (λ t f some.
      let q = e ∙ at t f in
      let v = done_value s 0 t 0 (ap (λ (x : Outcome). x.answer) q) in
      (rw v (free_slot-Lowest z a t f), ap (λ (x : Outcome). x.words) q ∙ ap to (sym v)))

  New-spends : (s : ℕ) → MakesNew a (Ok s) b → New z a b s 0 0
  unfolding new_to
  New-spends s N =
      let e = N.outcome ∙ header_Right (header_of a) _ (λ y. new_edition_in y a) z ((Header-says a z).1 h) in
      let (low, to) = done_at (new_to z a) (new_edition_in z a) (new_none z a) (new_At z a) s e in
      let same = share_none z a 0 (names_low z 0 (omega arith)) in
      put_spends s 0 0 low (to ∙ ap (λ (w : List ℕ). set_slot_words z w s 1 0 0) (sym same)) (N.sound S) N.kept

  share_spends : (i s : ℕ) → Shares a i (Ok s) b → New z a b s 0 0
  unfolding share_to
  share_spends i s N =
      let e = N.outcome ∙ header_Right (header_of a) _ (λ y. share_in y a i) z ((Header-says a z).1 h) in
      split (held_slot z a i)
      (λ t.
      let (low, to) = done_at (share_to z a i) _ (share_NoneFree z a i) (share_At z a i) s (e ∙ held_shared_lem z a i t) in
      put_spends s (word_of_slot z a i 1) (word_of_slot z a i 2) low to (N.sound S) N.kept)
      (λ t.
      let q = e ∙ share_not_held z a i t in
      absurd (refused_not_done Why.NoSuchEdition s 0 (sym (ap (λ (x : Outcome). x.answer) q))))

-- AN UPDATE: what it spends, by its answer
abbrev Spent : Shape → List ℕ → List ℕ → ℕ → Step → Result Updated Refusal → Type 0
Spent z a b e step (Ok u) = Derived z a b e step u.edition u.branches u.entries
Spent z a b e step (Err why) = b ≡ a

module _ (a b : List ℕ) (S : Sound a) (z : Shape) (h : Header a z) where
  module _ (e : ℕ) where
    update_spends : {Lacks : Map ℕ → Shape → Type 0} {takes : Map ℕ → Shape → Taken} {step : Shape → Step} (r : Result Updated Refusal)
        → Unnamed (step z) → ((m : Map ℕ) → Fits a b S z h e m → UpdateTold a e (Lacks m) (takes m) step r b) → Spent z a b e (step z) r
    update_spends {step = step} (Ok u) same told =
        let s = u.edition in
        let x = u.branches in
        let y = u.entries in
        let (m, fits) = map_of a b S z h e in
        let U = (told m fits).means in
        let N = (update_Done a b S z h e s x y told).new in
        record {
          new =
              New-costs a b S (U.sound S) z h (Kept-Header (U.inside z h) h) s (update_Beside a b S z h e step _ U s x y refl) x y
              (record { branches_rise = N.branches_rise; entries_rise = N.entries_rise });
          counted =
              λ n E g f.
              let K = U.new S z h n E s x y refl in
              same g f K.branch_names K.entry_names n ∙ K.counts;
        }
    update_spends (Err why) same told =
        let (m, fits) = map_of a b S z h e in
        refused_same (told m fits).number.refusal why refl

    insert_spends : (j k v : ℕ) (r : Result Updated Refusal) → Inserts a e j k v r b → Spent z a b e (insert_step (an_entry j k v) z) r
    insert_spends j k v r U = update_spends r (insert_Unnamed (an_entry j k v) z) (λ m fits. insert_told a S e m fits j k v r b U)

    change_spends : (j k v : ℕ) (r : Result Updated Refusal) → Changes a e j k v r b → Spent z a b e (insert_step (an_entry j k v) z) r
    change_spends j k v r U = update_spends r (insert_Unnamed (an_entry j k v) z) (λ m fits. change_told a S e m fits j k v r b U)

    remove_spends : (j k : ℕ) (r : Result Updated Refusal) → Removes a e j k r b → Spent z a b e (remove_step j k z) r
    remove_spends j k r U = update_spends r (remove_Unnamed j k z) (λ m fits. remove_told a S e m fits j k r b U)

    -- A DROP gives back what was the edition's own
    drop_spends : (x y : ℕ) → Drops a e (cell_counts x y) b → Costs z a e x y × Rises z b a x y
    drop_spends x y D =
        let gone = D.gone S z h x y refl in
        let R : Rises z b a x y = record { branches_rise = gone.branches_fall; entries_rise = gone.entries_fall } in
        (Costs-more b a (D.sound S) S z (Kept-Header (D.inside z h) h) h e (drop_Beside a b S z h e _ D x y refl) x y R, R)

-- EVERY CALL
pub spends : (c : Call) (a b : List ℕ) → Sound a → (z : Shape) → Header a z → Meets c a b → Spends z c a b
unfolding Spends Meets
spends (formats g n m s (Ok u)) a b S z h C = λ y j k. blank_used g n m s C y k
spends (formats g n m s (Err why)) a b S z h C = format_Refused why C
spends (makes_new (Ok s)) a b S z h C = New-spends a b S z h s C
spends (makes_new (Err why)) a b S z h C = refused_same (new_numbered a).refusal why C.outcome
spends (shares e (Ok s)) a b S z h C = share_spends a b S z h e s C
spends (shares e (Err why)) a b S z h C = refused_same (share_numbered a e).refusal why C.outcome
spends (inserts e j k v (Ok u)) a b S z h C = insert_spends a b S z h e j k v (Ok u) C
spends (inserts e j k v (Err why)) a b S z h C = insert_spends a b S z h e j k v (Err why) C
spends (changes e j k v (Ok u)) a b S z h C = change_spends a b S z h e j k v (Ok u) C
spends (changes e j k v (Err why)) a b S z h C = change_spends a b S z h e j k v (Err why) C
spends (removes e j k (Ok u)) a b S z h C = remove_spends a b S z h e j k (Ok u) C
spends (removes e j k (Err why)) a b S z h C = remove_spends a b S z h e j k (Err why) C
spends (drops e (Ok n)) a b S z h C = drop_spends a b S z h e n.branches n.entries C
spends (drops e (Err why)) a b S z h C = refused_same (drop_numbered a e).refusal why C.outcome
spends (sizes e r) a b S z h C = C.1
spends (uses r) a b S z h C = C.1
spends (gets e j k r) a b S z h C = C.1
spends (lists e place out r out') a b S z h C = C.1
spends (compares e f r) a b S z h C = C.1
spends (checks work r work') a b S z h C = C.1
