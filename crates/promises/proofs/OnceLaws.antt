-- No two outcomes meet a contract from the same words: the contract settles the answer and every word that the call leaves.
use Prim.Native.Nat.{ℕ, ◌+◌, ◌-◌}
use mathlib.Core.Path.{◌≡◌, refl, sym, ap, ◌∙◌, subst}
use mathlib.Core.List.{List}
use mathlib.Core.Logic.{⊎_elim}
use native.Mathlib.Omega.{arith}
use lib.ListN.{get_or}
use lib.Seq.{ext_get_or}
use Rattle.cases.proofs.Cases.{lt?}
use Rattle.layout.specs.declared.Shape.{Shape}
use Rattle.layout.specs.Header.{Header}
use Rattle.layout.specs.Columns.{columns}
use Rattle.layout.proofs.HeaderLaws.{Header-once}
use Rattle.tallies.specs.Tallies.{work_words, Works}
use Rattle.replies.specs.Answers.{Answer}
use Rattle.replies.specs.Outcomes.{Outcome, leaves}
use Rattle.makes.specs.Terms.{Formats, MakesNew, Shares}
use Rattle.updates.specs.Terms.{Inserts, Changes}
use Rattle.removes.specs.Terms.{Removes}
use Rattle.drops.specs.Terms.{Drops}
use Rattle.looks.specs.Terms.{Sizes, Uses, Gets, Lists, Compares}
use Rattle.checks.specs.Terms.{Checks, wrong_header, short_work, not_sound, is_sound}
use Rattle.checks.proofs.ExactLaws.{left_branch, left_entry}
use Rattle.replies.proofs.AnswerLaws as Known
use Rattle.std.specs.Prelude.{Result, Bool}
use Rattle.replies.specs.declared.Refusal.{Refusal}
use Rattle.replies.specs.declared.Updated.{Updated}
use Rattle.replies.specs.declared.CellCounts.{CellCounts}

-- one outcome is one answer and the same words
module _ {A : Type 0} {f : A → Answer} (known : (r r' : A) → f r ≡ f r' → r ≡ r') {r r' : A} where
  answer_once : {x : Answer} → f r ≡ x → f r' ≡ x → r ≡ r'
  answer_once e e' = known r r' (e ∙ sym e')

  outcome_once : {o : Outcome} {b b' : List ℕ} → leaves (f r) b ≡ o → leaves (f r') b' ≡ o → (r ≡ r') × (b ≡ b')
  outcome_once e e' = (
    answer_once (ap (λ (x : Outcome). x.answer) e) (ap (λ (x : Outcome). x.answer) e'),
    ap (λ (x : Outcome). x.words) (e ∙ sym e'),
  )

module _ {a b b' : List ℕ} where
  pub format_once : {degree branches entries editions : ℕ} {r r' : Result (Unit {0}) Refusal} → Formats a degree branches entries editions r b
      → Formats a degree branches entries editions r' b' → (r ≡ r') × (b ≡ b')
  format_once c c' = outcome_once Known.unit_once c.outcome c'.outcome

  pub new_once : {r r' : Result ℕ Refusal} → MakesNew a r b → MakesNew a r' b' → (r ≡ r') × (b ≡ b')
  new_once c c' = outcome_once Known.number_once c.outcome c'.outcome

  pub share_once : {e : ℕ} {r r' : Result ℕ Refusal} → Shares a e r b → Shares a e r' b' → (r ≡ r') × (b ≡ b')
  share_once c c' = outcome_once Known.number_once c.outcome c'.outcome

  pub insert_once : {e : ℕ} (h k v : ℕ) {r r' : Result Updated Refusal} → Inserts a e h k v r b → Inserts a e h k v r' b' → (r ≡ r') × (b ≡ b')
  insert_once h k v c c' = outcome_once Known.update_once c.outcome c'.outcome

  pub change_once : {e : ℕ} (h k v : ℕ) {r r' : Result Updated Refusal} → Changes a e h k v r b → Changes a e h k v r' b' → (r ≡ r') × (b ≡ b')
  change_once h k v c c' = outcome_once Known.update_once c.outcome c'.outcome

  pub remove_once : {e : ℕ} (h k : ℕ) {r r' : Result Updated Refusal} → Removes a e h k r b → Removes a e h k r' b' → (r ≡ r') × (b ≡ b')
  remove_once h k c c' = outcome_once Known.update_once c.outcome c'.outcome

  pub drop_once : {e : ℕ} {r r' : Result CellCounts Refusal} → Drops a e r b → Drops a e r' b' → (r ≡ r') × (b ≡ b')
  drop_once c c' = outcome_once Known.cells_once c.outcome c'.outcome

module _ {a : List ℕ} where
  pub size_once : {e : ℕ} {r r' : Result ℕ Refusal} → Sizes a e r → Sizes a e r' → r ≡ r'
  size_once c c' = answer_once Known.number_once c.result c'.result

  pub in_use_once : {r r' : Result CellCounts Refusal} → Uses a r → Uses a r' → r ≡ r'
  in_use_once c c' = answer_once Known.cells_once c.result c'.result

  pub get_once : {e h k : ℕ} {r r' : Result ℕ Refusal} → Gets a e h k r → Gets a e h k r' → r ≡ r'
  get_once c c' = answer_once Known.number_once c.result c'.result

  pub list_once : {e place : ℕ} {out out' out₂ : List ℕ} {r r₂ : Result ℕ Refusal} → Lists a e place out r out' → Lists a e place out r₂ out₂
      → (r ≡ r₂) × (out' ≡ out₂)
  list_once c c' = outcome_once Known.number_once c.outcome c'.outcome

  pub equal_once : {e f : ℕ} {r r' : Result Bool Refusal} → Compares a e f r → Compares a e f r' → r ≡ r'
  equal_once c c' = answer_once Known.truth_once c.result c'.result

-- the work words: each is a branch's, an entry's or as it was
Works-once : {z : Shape} {f : ℕ → ℕ} {w w' w₂ : List ℕ} → Works z f w w' → Works z f w w₂ → w' ≡ w₂
Works-once {z} {f} {w} {w'} {w₂} k k₂ =
    ext_get_or 0 w' w₂ (k.same_length ∙ sym k₂.same_length)
    (λ j h.
    ⊎_elim (λ l. left_branch z f w w' k j l ∙ sym (left_branch z f w w₂ k₂ j l))
    (λ m.
    let i : ℕ = j - z.branches in
    ⊎_elim
    (λ l.
    subst (λ (x : ℕ). get_or w' x 0 ≡ get_or w₂ x 0) {x = z.branches + i} {y = j} (omega arith)
    (left_entry z f w w' k i (omega arith) ∙ sym (left_entry z f w w₂ k₂ i (omega arith))))
    (λ g. k.rest j g ∙ sym (k₂.rest j g)) (lt? j (work_words z))) (lt? j z.branches))

module _ {a : List ℕ} {z y : Shape} (h : Header a z) (g : Header a y) where
  same_words : work_words z ≡ work_words y
  same_words = ap (λ (x : Shape). work_words x) (Header-once a z y h g)

  -- of what each shape makes of the words
  Works-same : (f : Shape → ℕ → ℕ) {w w' w₂ : List ℕ} → Works z (f z) w w' → Works y (f y) w w₂ → w' ≡ w₂
  Works-same f {w} {w'} k = Works-once (subst (λ (x : Shape). Works x (f x) w w') (Header-once a z y h g) k)

pub check_once : {a w w' w₂ : List ℕ} {r r₂ : Result (Unit {0}) Refusal} → Checks a w r w' → Checks a w r₂ w₂ → (r ≡ r₂) × (w' ≡ w₂)
check_once (wrong_header n) (wrong_header m) = (refl, refl)
check_once (wrong_header n) (short_work y g m) = absurd (n y g)
check_once (wrong_header n) (not_sound y w₂ g m t q) = absurd (n y g)
check_once (wrong_header n) (is_sound y w₂ g m t q) = absurd (n y g)
check_once (short_work z h l) (wrong_header n) = absurd (n z h)
check_once (short_work z h l) (short_work y g m) = (refl, refl)
check_once (short_work z h l) (not_sound y w₂ g m t q) = absurd (omega (arith, l, m, same_words h g))
check_once (short_work z h l) (is_sound y w₂ g m t q) = absurd (omega (arith, l, m, same_words h g))
check_once (not_sound z w' h l s k) (wrong_header n) = absurd (n z h)
check_once (not_sound z w' h l s k) (short_work y g m) = absurd (omega (arith, l, m, same_words h g))
check_once (not_sound z w' h l s k) (not_sound y w₂ g m t q) = (refl, Works-same h g (λ x r. 0) k q)
check_once (not_sound z w' h l s k) (is_sound y w₂ g m t q) = absurd (s t)
check_once (is_sound z w' h l s k) (wrong_header n) = absurd (n z h)
check_once (is_sound z w' h l s k) (short_work y g m) = absurd (omega (arith, l, m, same_words h g))
check_once (is_sound z w' h l s k) (not_sound y w₂ g m t q) = absurd (t s)
check_once {a} (is_sound z w' h l s k) (is_sound y w₂ g m t q) = (refl, Works-same h g (λ x. (columns x a).count) k q)
