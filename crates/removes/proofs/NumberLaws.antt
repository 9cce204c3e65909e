-- Which number remove gives on any words: document 01's table for 4, 5, 6 and 7, where nothing is written. Else the number is 0, 8 or
-- 9; the rows of these are exact on a sound arena (ExactLaws.antt).
use Rattle.std.proofs.Common.{◌≡◌, ℕ, ◌<◌, ◌≤◌, false, ◌↔◌, List, refl, is_some}
use Rattle.layout.specs.declared.Shape.{Shape}
use Rattle.layout.specs.Header.{Header}
use Rattle.replies.proofs.Tables.{Gives, HeaderNumbered, Unaltered, number, read}
use Rattle.grants.specs.Rooms.{free_cell_count}
use Rattle.grants.proofs.TestLaws.{Goes}
use Rattle.grants.proofs.NumberLaws.{AnyWhen, Answers, few_entries_Answers, done_Answers, hold_Answers, update_answers, update_Unaltered, update_few_branches, update_few_entries}
use Rattle.removes.specs.declared.Cut.{Cut}
use Rattle.removes.specs.Calls.{the_cut, cut_of, cut_to, remove_in, remove_of}
use Rattle.removes.proofs.CaseLaws.{removing, by_writing}

-- a removal that goes on gives 8, 9 or 0, and a refusal's values are zeros
cut_Answers : (z : Shape) (a : List ℕ) (h : ℕ) (p : Cut) (s : ℕ) → Answers (cut_to z a h p s)
cut_Answers z a h p s =
    by_writing z a h p s Answers (done_Answers _ refl) (few_entries_Answers _) (hold_Answers z s p.size _ _ _)

-- 6: "remove: key not there", as the reading pass finds it
abbrev pub NotFound : List ℕ → ℕ → ℕ → ℕ → Shape → Type 0
NotFound a e h k z = is_some (cut_of z a e h k) ≡ false

-- THE CALL
module _ (a : List ℕ) (e h k : ℕ) where
  answers : (z : Shape) (s : ℕ) → Answers ((removing a e h k z).does s)
  answers z s = cut_Answers z a h (the_cut (cut_of z a e h k)) s

  not_found : (z : Shape) → (is_some (cut_of z a e h k) ≡ false) ↔ NotFound a e h k z
  not_found z = (λ q. q, λ q. q)

  -- the numbers on any words
  pub remove_answers : HeaderNumbered a a (λ z. AnyWhen z a e (NotFound a e h k z) (number (remove_in z a e h k)))
      (read a (remove_of a e h k).answer)
  remove_answers = update_answers a e (removing a e h k) answers (λ z held. not_found z)

  -- and below 8 they leave every word as it was
  pub remove_Unaltered : (number (remove_of a e h k) ≡ 0 → ⊥) → number (remove_of a e h k) < 8 → Unaltered a (remove_of a e h k)
  remove_Unaltered = update_Unaltered a e (removing a e h k) answers (λ z held. not_found z)

  module _ (z : Shape) (right : Header a z) where
    -- 8 or 9, with nothing written, where the counts do not fit
    pub remove_few_branches : Goes z a e (NotFound a e h k z) → free_cell_count z a 0 < (the_cut (cut_of z a e h k)).branches
        → Gives a (remove_of a e h k) 8
    remove_few_branches = update_few_branches a e (removing a e h k) answers (λ y held. not_found y) z right

    pub remove_few_entries : Goes z a e (NotFound a e h k z) → (the_cut (cut_of z a e h k)).branches ≤ free_cell_count z a 0
        → free_cell_count z a 1 < (the_cut (cut_of z a e h k)).tail.count → Gives a (remove_of a e h k) 9
    remove_few_entries = update_few_entries a e (removing a e h k) answers (λ y held. not_found y) z right
