-- Which number insert and change give on any words: document 01's table for 4, 5, 6 and 7, where nothing is written. Else the
-- number is 0, 8 or 9; the rows of these are exact where the free cells are as many as the counts say (TableLaws.antt).
use Prim.Native.Nat.{ℕ, suc, ◌-◌, ◌^◌, ◌≤◌, ◌<◌}
use mathlib.Core.Path.{◌≡◌}
use mathlib.Core.Bool.{Bool}
use mathlib.Core.List.{List}
use mathlib.Core.Logic.{⊎_elim}
use native.Mathlib.Omega.{arith}
use Rattle.cases.proofs.Cases.{lt?}
use Rattle.trie.specs.declared.Entry.{Entry}
use Rattle.layout.specs.declared.Shape.{Shape}
use Rattle.layout.specs.Layout.{cells_of, Lent}
use Rattle.layout.specs.Header.{Header}
use Rattle.layout.proofs.HeaderLaws.{Header-Lent}
use Rattle.cells.specs.Mirrors.{one_more}
use Rattle.cells.proofs.TakeLaws.{more_some, more_none}
use Rattle.chains.specs.Chains.{an_entry}
use Rattle.replies.specs.declared.Refusal.TheVariants as Why
use Rattle.replies.specs.Outcomes.{Outcome}
use Rattle.replies.proofs.Tables.{Gives, HeaderNumbered, Unaltered, number, read}
use Rattle.grants.specs.Rooms.{free_cell_count}
use Rattle.grants.proofs.TestLaws.{Goes}
use Rattle.grants.proofs.NumberLaws.{AnyWhen, Answers, few_entries_Answers, wrote_Answers, hold_Answers, update_answers, update_Unaltered, update_few_branches, update_few_entries}
use Rattle.updates.specs.declared.Plan.{Plan}
use Rattle.updates.specs.Calls.{plan_of, write_to, write_in}
use Rattle.updates.proofs.TestLaws.{NotThere, write_of, writing}
use Rattle.updates.proofs.WantedLaws.{wanted_lacks}

-- an update that goes on gives 8, 9 or 0, and a refusal's values are zeros
to_Answers : (z : Shape) (a : List ℕ) (x : Entry) (p : Plan) (s : ℕ) → Answers (write_to z a x p s)
unfolding write_to
to_Answers z a x p s =
    wrote_Answers _ Why.NoEntryCells _ (few_entries_Answers _) (hold_Answers z s p.size _ _ _)

-- where a word has no room for one more there are not that many cells either
free_more : {z : Shape} {a : List ℕ} (n : ℕ) → Lent z a → free_cell_count z a 1 < suc n → free_cell_count z a 1 < one_more n
unfolding free_cell_count cells_of
free_more n l few =
    ⊎_elim
    (λ some. omega (arith, more_some n some))
    (λ none. omega (arith, more_none n none, l.allowed.few_entries))
    (lt? n (2 ^ 64 - 1))

-- THE CALLS
module _ (a : List ℕ) (e h k v : ℕ) (change : Bool) where
  abbrev call : Outcome
  call = write_of a e h k v change

  -- the numbers on any words
  pub write_answers : HeaderNumbered a a
      (λ z. AnyWhen z a e (NotThere change (plan_of z a e h k).replaced) (number (write_in z a e (an_entry h k v) change))) (read a call.answer)
  write_answers =
      update_answers a e (writing a e h k v change) (λ z. to_Answers z a (an_entry h k v) (plan_of z a e h k))
      (λ z held. wanted_lacks change (plan_of z a e h k))

  -- and below 8 they leave every word as it was
  pub write_Unaltered : (number call ≡ 0 → ⊥) → number call < 8 → Unaltered a call
  write_Unaltered =
      update_Unaltered a e (writing a e h k v change) (λ z. to_Answers z a (an_entry h k v) (plan_of z a e h k))
      (λ z held. wanted_lacks change (plan_of z a e h k))

  module _ (z : Shape) (right : Header a z) where
    abbrev said : Plan
    said = plan_of z a e h k

    -- 8 or 9, with nothing written, where the counts do not fit
    pub write_few_branches : Goes z a e (NotThere change said.replaced) → free_cell_count z a 0 < said.branches → Gives a call 8
    write_few_branches =
        update_few_branches a e (writing a e h k v change) (λ y. to_Answers y a (an_entry h k v) (plan_of y a e h k))
        (λ y held. wanted_lacks change (plan_of y a e h k)) z right

    pub write_few_entries : Goes z a e (NotThere change said.replaced) → said.branches ≤ free_cell_count z a 0
        → free_cell_count z a 1 < suc said.tail.count → Gives a call 9
    write_few_entries g b l =
        update_few_entries a e (writing a e h k v change) (λ y. to_Answers y a (an_entry h k v) (plan_of y a e h k))
        (λ y held. wanted_lacks change (plan_of y a e h k)) z right g b (free_more said.tail.count (Header-Lent a z right) l)
