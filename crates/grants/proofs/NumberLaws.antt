-- Which number an update gives on any words: document 01's table for 4, 5, 6 and 7, where nothing is written. Else the number is 0,
-- 8 or 9; the rows of these are exact where the free cells are as many as the counts say (TableLaws.antt).
use Rattle.std.proofs.Common.{◌≡◌, ℕ, ◌<◌, ◌≤◌, false, ◌⊎◌, ◌↔◌, List, Some, None, Option, sym, refl, ◌∙◌, inl, inr, ⊎_elim, arith}
use Rattle.cases.proofs.Cases.{eq?}
use Rattle.layout.specs.declared.Shape.{Shape}
use Rattle.layout.specs.Header.{Header, header_of}
use Rattle.layout.proofs.HeaderLaws.{Header-says}
use Rattle.cells.specs.Mirrors.{Wrote}
use Rattle.replies.specs.declared.Refusal.{Refusal}
use Rattle.replies.specs.declared.Refusal.TheVariants as Why
use Rattle.replies.specs.Answers.{refused}
use Rattle.replies.specs.Outcomes.{Outcome, leaves, on_wrote}
use Rattle.replies.proofs.AnswerLaws.{wrote_none, wrote_some}
use Rattle.replies.proofs.Tables.{AllHeld, End, Gives, HeaderNumbered, Held, Numbered, Row, Unaltered, end, number, numbered, read, right_Numbered, row}
use Rattle.grants.specs.Rooms.{free_cell_count, hold_to}
use Rattle.grants.proofs.CaseLaws.{Update, update_by, update_of, by_cells, by_root, update_At, update_refused, update_Damaged, update_Right}
use Rattle.grants.proofs.TestLaws.{Goes, by_tests, not_Held, absent, no_slot, on_slot, no_branches, no_entries}

-- THE TABLE on any words: its rows 5, 6 and 7, and an update that goes on gives one of three numbers
abbrev pub AnyWhen : Shape → List ℕ → ℕ → Type 0 → ℕ → ℕ → Type 0
AnyWhen z a e Lacks n =
    Row 5 (Held z a e → ⊥)
    (Row 6 (Held z a e × Lacks)
    (Row 7 (Held z a e × (Lacks → ⊥) × AllHeld z a)
    (Row 8 (Goes z a e Lacks × (n ≡ 8)) (Row 9 (Goes z a e Lacks × (n ≡ 9)) (Row 0 (Goes z a e Lacks × (n ≡ 0)) End)))))

-- WHAT IS DONE WITH A SLOT gives 8, 9 or 0, and a refusal's values are zeros
pub record Answers (o : Outcome) : Type 0 where
  pub one_of : (number o ≡ 8) ⊎ (number o ≡ 9) ⊎ (number o ≡ 0)
  pub zeros : (a : List ℕ) → (number o ≡ 0 → ⊥) → Unaltered a (read a o.answer)

pub few_branches_Answers : (w : List ℕ) → Answers (leaves (refused Why.NoBranchCells) w)
few_branches_Answers w = record { one_of = inl refl; zeros = λ a n. (refl, refl, refl, refl) }

pub few_entries_Answers : (w : List ℕ) → Answers (leaves (refused Why.NoEntryCells) w)
few_entries_Answers w = record { one_of = inr (inl refl); zeros = λ a n. (refl, refl, refl, refl) }

pub done_Answers : (o : Outcome) → number o ≡ 0 → Answers o
done_Answers o q = record { one_of = inr (inr q); zeros = λ a n. absurd (n q) }

pub wrote_Answers : (s : Wrote) (why : Refusal) (f : ℕ → List ℕ → Outcome) → Answers (leaves (refused why) s.words)
    → Answers (f s.at s.words) → Answers (on_wrote s why f)
wrote_Answers s why f none some =
    ⊎_elim (λ e. rw (wrote_none s why f e) none) (λ ne. rw (wrote_some s why f ne) some) (eq? s.at 0)

pub hold_Answers : (z : Shape) (s size branches entries : ℕ) (w : Wrote) → Answers (hold_to z s size branches entries w)
hold_Answers z s size branches entries w =
    by_root z s size branches entries w Answers (few_branches_Answers w.words) (done_Answers _ refl)

-- THE CALL with a right header
module _ (z : Shape) (a : List ℕ) (e : ℕ) (u : Update) (does : (s : ℕ) → Answers (u.does s)) {Lacks : Type 0}
    (lacks : Held z a e → (u.wanted ≡ false) ↔ Lacks) where
  abbrev out : Outcome
  out = update_by z a e u

  answered : {n : ℕ} → Gives a out n → Gives a (read a out.answer) n
  answered g =
      record { is = g.is; unaltered = λ ne. let w = g.unaltered ne in (refl, w.1, w.2, w.3) }

  on_Answers : Goes z a e Lacks → Answers (update_by z a e u)
  on_Answers g =
      on_slot z a e u lacks g
      (λ s q h w.
      by_cells z a _ _ s q
      (λ r. rw (update_refused z a e u h w _ r) (few_branches_Answers a))
      (λ r. rw (update_refused z a e u h w _ r) (few_entries_Answers a))
      (λ r fit_0 fit_1. rw (update_At z a e u h w s r) (does s)))

  on_Gives : {n : ℕ} → Goes z a e Lacks → number out ≡ n → Gives a (read a out.answer) n
  on_Gives g q = record { is = q; unaltered = λ ne. (on_Answers g).zeros a (λ o. ne (sym q ∙ o)) }

  any_holds : (n : ℕ) × AnyWhen z a e Lacks (number out) n
  any_holds =
      by_tests z a e u lacks
      (λ n. (5, n))
      (λ w. (6, w))
      (λ w. (7, w))
      (λ s f h w g. ⊎_elim (λ q. (8, (g, q))) (⊎_elim (λ q. (9, (g, q))) (λ q. (0, (g, q)))) (on_Answers g).one_of)

  pub in_answers : Numbered a (AnyWhen z a e Lacks (number (update_by z a e u))) (read a (update_by z a e u).answer)
  in_answers =
      numbered
      (row (λ w. answered (not_Held z a e u lacks w))
      (row (λ w. answered (absent z a e u lacks w))
      (row (λ w. answered (no_slot z a e u lacks w))
      (row (λ w. on_Gives w.0 w.1) (row (λ w. on_Gives w.0 w.1) (row (λ w. on_Gives w.0 w.1) end))))))
      any_holds

  pub in_Unaltered : (number (update_by z a e u) ≡ 0 → ⊥) → number (update_by z a e u) < 8 → Unaltered a (update_by z a e u)
  in_Unaltered some low =
      by_tests z a e u lacks
      (λ w. (not_Held z a e u lacks w).unaltered (λ q. omega arith))
      (λ w. (absent z a e u lacks w).unaltered (λ q. omega arith))
      (λ w. (no_slot z a e u lacks w).unaltered (λ q. omega arith))
      (λ s f h w g.
      absurd (⊎_elim (λ q. omega arith) (⊎_elim (λ q. omega arith) (λ q. some q)) (on_Answers g).one_of))

-- THE CALL
module _ (a : List ℕ) (e : ℕ) (u : Shape → Update) (does : (z : Shape) (s : ℕ) → Answers ((u z).does s)) {Lacks : Shape → Type 0}
    (lacks : (z : Shape) → Held z a e → ((u z).wanted ≡ false) ↔ Lacks z) where
  abbrev call : Outcome
  call = update_of a e u

  -- the numbers on any words
  pub update_answers : HeaderNumbered a a (λ z. AnyWhen z a e (Lacks z) (number (update_by z a e (u z)))) (read a (update_of a e u).answer)
  update_answers =
      right_Numbered a a (λ (o : Outcome). read a o.answer) _ _ _ refl (λ z w. w)
      (λ z right. in_answers z a e (u z) (does z) (lacks z))

  -- and below 8 they leave every word as it was
  pub update_Unaltered : (number (update_of a e u) ≡ 0 → ⊥) → number (update_of a e u) < 8 → Unaltered a (update_of a e u)
  update_Unaltered = by (header_of a) refl
    where
      by : (y : Option Shape) → header_of a ≡ y → (number call ≡ 0 → ⊥) → number call < 8 → Unaltered a call
      by None q = rw (update_Damaged a e u q) (λ n l. (refl, refl, refl, refl))
      by (Some z) q = rw (update_Right a e u z q) (in_Unaltered z a e (u z) (does z) (lacks z))

  module _ (z : Shape) (right : Header a z) where
    called : update_of a e u ≡ update_by z a e (u z)
    called = update_Right a e u z ((Header-says a z).1 right)

    -- 8 or 9, with nothing written, where the counts do not fit
    pub update_few_branches : Goes z a e (Lacks z) → free_cell_count z a 0 < (u z).branches → Gives a (update_of a e u) 8
    update_few_branches g l = rw called (no_branches z a e (u z) (lacks z) g l)

    pub update_few_entries : Goes z a e (Lacks z) → (u z).branches ≤ free_cell_count z a 0 → free_cell_count z a 1 < (u z).entries
        → Gives a (update_of a e u) 9
    update_few_entries g b l = rw called (no_entries z a e (u z) (lacks z) g b l)
