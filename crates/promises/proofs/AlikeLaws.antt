-- NO TWO RESULTS: what document 01 tells of insert, change, remove and drop settles the answer, the words of a refusal, the new trie, and
-- every word but what docs/EXCEPTIONS.md leaves open.
use Prim.Native.Nat.{ℕ, ◌+◌, ◌≤◌, ◌<◌}
use mathlib.Core.Path.{◌≡◌, refl, sym, ap, ◌∙◌, subst}
use mathlib.Core.Bool.{Bool, cond}
use mathlib.Core.List.{List}
use mathlib.Core.Logic.{◌⊎◌, inl, inr, ⊎_elim}
use native.Mathlib.Omega.{arith}
use lib.Dec.{ltb}
use Rattle.cases.proofs.Cases.{eq?}
use Rattle.trie.specs.Trie.{Map, updated}
use Rattle.trie.specs.Cells.{Taken}
use Rattle.trie.specs.Names.{rename_updated, forget}
use Rattle.layout.specs.declared.Shape.{Shape}
use Rattle.layout.specs.Header.{Header}
use Rattle.layout.specs.Columns.{by_kind, columns}
use Rattle.layout.proofs.SizeLaws.{row_is_Right}
use Rattle.layout.proofs.OffsetLaws.{word_inside}
use Rattle.layout.proofs.ColumnLaws.{has_low}
use Rattle.arena.specs.Sound.{Sound}
use Rattle.arena.specs.Holds.{Holds}
use Rattle.arena.proofs.Unique.{Edition-one}
use Rattle.cells.specs.Frame.{Kept}
use Rattle.cells.proofs.KeptLaws.{Kept-Header}
use Rattle.chains.specs.Chains.{an_entry}
use Rattle.replies.specs.declared.Refusal.{Refusal}
use Rattle.replies.specs.Answers as A
use Rattle.replies.specs.Outcomes.{Outcome}
use Rattle.replies.proofs.Tables.{HeaderNumbered, Held, number}
use Rattle.grants.specs.Terms.{Step, NewEdition}
use Rattle.updates.specs.Terms.{insert_step}
use Rattle.removes.specs.Terms.{remove_step}
use Rattle.settled.specs.Alike.{Open, first_free, next_free, Alike}
use Rattle.settled.specs.Cost.{Beside}
use Rattle.promises.specs.Told.{UpdateTold, InsertTold, RemoveTold, DropTold, Agree}
use Rattle.promises.proofs.BesideLaws.{update_Beside, drop_Beside}
use Rattle.replies.proofs.AnswerLaws.{refusal_once}
use Rattle.promises.proofs.AnswerLaws.{refused_some}
use Rattle.promises.proofs.StepLaws.{Nameless, insert_Nameless, remove_Nameless}
use Rattle.settled.proofs.SettleLaws.{settled}
use Rattle.settled.proofs.WordLaws.{alike_refl}
use Rattle.std.specs.Prelude.{Some, Result, Ok, Err}
use Rattle.replies.specs.declared.Updated.{Updated}
use Rattle.replies.specs.Answers.{took, cell_counts}
use Rattle.replies.specs.declared.CellCounts.{CellCounts}

-- ONE ANSWER: one table gives one number
one_number : {a : List ℕ} {When : Shape → ℕ → Type 0} {o p : Outcome} (z : Shape) → Header a z → HeaderNumbered a a When o
    → HeaderNumbered a a When p → number o ≡ number p
one_number {o = o} {p = p} z H N N' = (N.exactly z H (number p)).1 ((N'.exactly z H (number p)).0 refl)

-- ALIKE: two arenas kept from one, with the same editions
Kept-Alike : (a b b' : List ℕ) (z : Shape) → Header a z → Kept z a b → Kept z a b' → Sound b → Sound b'
    → ((i : ℕ) (m : Map ℕ) → Holds z b i m → Holds z b' i m) → ((i : ℕ) (m : Map ℕ) → Holds z b' i m → Holds z b i m) → Alike z b b'
Kept-Alike a b b' z H K K' S S' to from =
    settled b b' S S' z (Kept-Header K H) (Kept-Header K' H) (K'.same_length ∙ sym K.same_length)
    (λ i l. K'.same_beyond i l ∙ sym (K.same_beyond i l)) to from

-- one edition beside those of a, or one of a's away
Beside-more : {z : Shape} {a b b' : List ℕ} {s : ℕ} {n : Map ℕ} → Beside z a b s → Beside z a b' s → Holds z b s n → Holds z b' s n
    → (i : ℕ) (m : Map ℕ) → Holds z b i m → Holds z b' i m
Beside-more {z} {a} {b} {b'} {s} {n} B B' E E' i m F =
    ⊎_elim
    (λ q.
    let F' : Holds z b s m = subst (λ (j : ℕ). Holds z b j m) q F in
    rw (q, Edition-one z (columns z b) s m n F' E) E')
    (λ ne. B'.more i m (B.others i m ne F))
    (eq? i s)

fewer_more : {z : Shape} {a b b' : List ℕ} {e : ℕ} → Beside z b a e → Beside z b' a e
    → (i : ℕ) (m : Map ℕ) → Holds z b i m → Holds z b' i m
fewer_more {z} {b = b} B B' i m F = B'.others i m (λ q. B.away m (subst (λ (j : ℕ). Holds z b j m) q F)) (B.more i m F)

-- AN UPDATE
module _ (a : List ℕ) (S : Sound a) (z : Shape) (H : Header a z) (e : ℕ) (m : Map ℕ) (holds : Held z a e → Holds z a e m)
    (Lacks : Shape → Type 0) (takes : Shape → Taken) (step : Shape → Step) (same : Nameless (step z)) where
  abbrev Told : Result Updated Refusal → List ℕ → Type 0
  Told = UpdateTold a e Lacks takes step

  new_edition : (s x y : ℕ) (b : List ℕ) → Told (took s x y) b → NewEdition z a b (step z) m s x y
  new_edition s x y b T = T.means.new S z H m (holds ((T.number.exactly z H 0).0 refl).0.0) s x y refl

  one_answer : (r r' : Result Updated Refusal) (b b' : List ℕ) → Told r b → Told r' b' → r ≡ r'
  one_answer (Ok u) (Ok u') b b' T T' =
      let s = u.edition in
      let x = u.branches in
      let y = u.entries in
      let s' = u'.edition in
      let x' = u'.branches in
      let y' = u'.entries in
      let p : Some s ≡ Some s' = sym (T.means.lowest z H s x y refl) ∙ T'.means.lowest z H s' x' y' refl in
      let q : s ≡ s' = cc in
      let N = new_edition s x y b T in
      let N' = new_edition s' x' y' b' T' in
      let c : ◌≡◌ {A = Taken} (record { branches = x; entries = y }) (record { branches = x'; entries = y' })
      = sym N.counts ∙ same.takes_same N.branch_names N.entry_names N'.branch_names N'.entry_names m ∙ N'.counts in
      λ i. took (q i) (c i).branches (c i).entries
  one_answer (Ok u) (Err why) b b' T T' = absurd (refused_some why (one_number z H T'.number T.number))
  one_answer (Err why) (Ok u) b b' T T' = absurd (refused_some why (one_number z H T.number T'.number))
  one_answer (Err why) (Err why') b b' T T' = ap Err (refusal_once why why' (one_number z H T.number T'.number))

  left : (r : Result Updated Refusal) (b : List ℕ) → Told r b → (why : Refusal) → r ≡ Err why → b ≡ a
  left r b T why q = (T.number.refusal (λ n. refused_some why (sym (ap (λ (u : Result Updated Refusal). (A.update_answer u).number) q) ∙ n))).0

  module _ (r r' : Result Updated Refusal) (b b' : List ℕ) (T : Told r b) (T' : Told r' b') where
    pub update_agrees : Agree z a (step z) m r b r' b'
    unfolding rename_updated
    update_agrees =
        let one = one_answer r r' b b' T T' in
        record {
          same_answer = one;
          same_refusal = λ why q. left r b T why q ∙ sym (left r' b' T' why (sym one ∙ q));
          same_trie =
              λ s x y q N N'.
              let p : updated (forget N.result) ≡ updated (forget N'.result)
              = ap (rename_updated (λ c. tt)) (sym N.makes)
              ∙ same.forgets_same N.branch_names N.entry_names N'.branch_names N'.entry_names m
              ∙ ap (rename_updated (λ c. tt)) N'.makes in
              cc;
          alike =
              λ s x y q N N' (nb, ne).
              let p : updated N.result ≡ updated N'.result
              = sym N.makes
              ∙ same.makes_same N.branch_names N.entry_names N'.branch_names N'.entry_names m
              (λ i l. nb i (omega (arith, ap (λ (t : Taken). t.branches) N.counts)))
              (λ i l. ne i (omega (arith, ap (λ (t : Taken). t.entries) N.counts)))
              ∙ N'.makes in
              let w : N.result ≡ N'.result = cc in
              let E : Holds z b' s N.result = rw w N'.holds in
              let B = update_Beside a b S z H e step r T.means s x y q in
              let B' = update_Beside a b' S z H e step r' T'.means s x y (sym one ∙ q) in
              Kept-Alike a b b' z H (T.means.inside z H) (T'.means.inside z H) (T.means.sound S) (T'.means.sound S)
              (Beside-more B B' N.holds E) (Beside-more B' B E N.holds);
        }

module _ (a : List ℕ) (S : Sound a) (z : Shape) (H : Header a z) (e : ℕ) (m : Map ℕ) (holds : Held z a e → Holds z a e m) where
  pub insert_agrees : (h k v : ℕ) (change : Bool) (r r' : Result Updated Refusal) (b b' : List ℕ) → InsertTold a e h k v change m r b
      → InsertTold a e h k v change m r' b' → Agree z a (insert_step (an_entry h k v) z) m r b r' b'
  insert_agrees h k v change =
      update_agrees a S z H e m holds _ _ _ (insert_Nameless (an_entry h k v) z (row_is_Right z H.allowed).some_depths)

  pub remove_agrees : (h k : ℕ) (r r' : Result Updated Refusal) (b b' : List ℕ) → RemoveTold a e h k m r b → RemoveTold a e h k m r' b'
      → Agree z a (remove_step h k z) m r b r' b'
  remove_agrees h k = update_agrees a S z H e m holds _ _ _ (remove_Nameless h k z)

-- A DROP. Words 10 and 11 are not open, so what they fell by is settled too.
Open-where : {z : Shape} {a : List ℕ} {j : ℕ} → Open z a j → (j < 10) ⊎ (12 ≤ j)
Open-where (first_free k l) = inl (omega arith)
Open-where {z = z} (next_free r n c) = inr (omega (arith, word_inside z r 1 (has_low z r 1 n (omega arith))))

Alike-used : {z : Shape} {b b' : List ℕ} → Alike z b b' → (k : ℕ) → k < 2 → (columns z b').used k ≡ (columns z b).used k
unfolding by_kind
Alike-used A k l =
    ap (λ (x : ℕ). cond (ltb k 2) x 0)
    (A.same_words (10 + k) (λ o. ⊎_elim (λ w. omega arith) (λ w. omega arith) (Open-where o)))

module _ (a : List ℕ) (S : Sound a) (z : Shape) (H : Header a z) (e : ℕ) where
  pub drop_agrees : (r r' : Result CellCounts Refusal) (b b' : List ℕ) → DropTold a e r b → DropTold a e r' b' → (r ≡ r') × Alike z b b'
  drop_agrees (Ok n) (Ok n') b b' T T' =
      let x = n.branches in
      let y = n.entries in
      let x' = n'.branches in
      let y' = n'.entries in
      let D = T.means in
      let D' = T'.means in
      let B = drop_Beside a b S z H e _ D x y refl in
      let B' = drop_Beside a b' S z H e _ D' x' y' refl in
      let like = Kept-Alike a b b' z H (D.inside z H) (D'.inside z H) (D.sound S) (D'.sound S) (fewer_more B B') (fewer_more B' B) in
      let g = D.gone S z H x y refl in
      let g' = D'.gone S z H x' y' refl in
      let p : x ≡ x' = omega (arith, g.branches_fall, g'.branches_fall, Alike-used like 0 (omega arith)) in
      let q : y ≡ y' = omega (arith, g.entries_fall, g'.entries_fall, Alike-used like 1 (omega arith)) in
      (λ i. cell_counts (p i) (q i), like)
  drop_agrees (Ok n) (Err why) b b' T T' = absurd (refused_some why (one_number z H T'.number T.number))
  drop_agrees (Err why) (Ok n) b b' T T' = absurd (refused_some why (one_number z H T.number T'.number))
  drop_agrees (Err why) (Err why') b b' T T' =
      let p : b ≡ a = (T.number.refusal (refused_some why)).0 in
      let q : b' ≡ a = (T'.number.refusal (refused_some why')).0 in
      (ap Err (refusal_once why why' (one_number z H T.number T'.number)), rw (p, q) (alike_refl z a))
