-- An answer by its number: 0 is done, any other a refusal.
use Prim.Native.Nat.{ℕ}
use mathlib.Core.Path.{◌≡◌, refl, sym, ap, ◌∙◌}
use mathlib.Core.Bool.{cond}
use mathlib.Core.List.{[], List, ◌∷◌}
use lib.Dec.{eqb}
use lib.ListN.{get_or}
use Rattle.replies.specs.declared.Refusal.{Refusal}
use Rattle.replies.specs.declared.Refusal.TheVariants.{BadDegree, BadSizes, SliceTooShort, Damaged, NoSuchEdition, Absent, NoSlot, NoBranchCells, NoEntryCells, OutputTooShort, BeyondTheEnd, WorkTooShort}
use Rattle.replies.specs.Answers.{Answer, answer, number_of, refused, unit_answer, number_answer, update_answer, cells_answer, truth_answer, took, cell_counts}
use Rattle.replies.specs.Outcomes.{Outcome, leaves}
use Rattle.replies.proofs.AnswerLaws.{refused_not_done, refusal_once}
use Rattle.replies.proofs.Tables.{Unaltered, number}
use Rattle.std.specs.Prelude.{Result, Ok, Err, true, false}
use Rattle.replies.specs.declared.Updated.{Updated}
use Rattle.replies.specs.declared.CellCounts.{CellCounts}

-- a refusal's number is not 0
pub refused_some : (why : Refusal) → number_of why ≡ 0 → ⊥
refused_some why q = refused_not_done why 0 0 (ap (λ (n : ℕ). answer n 0 0 0) q)

-- so a call that leaves the words as they were where its number is not 0 leaves them with a refusal
pub refused_same : {a b : List ℕ} {o : Outcome} → ((number o ≡ 0 → ⊥) → Unaltered a o) → (why : Refusal)
    → leaves (refused why) b ≡ o → b ≡ a
refused_same unaltered why e = ap (λ (x : Outcome). x.words) e ∙ (unaltered (λ q. refused_some why (ap number e ∙ q))).0

-- 0 is done, any other number a refusal
pub format_is : (r : Result (Unit {0}) Refusal) → (unit_answer r).number ≡ 0 → r ≡ Ok tt
format_is (Ok u) q = refl
format_is (Err why) q = absurd (refused_some why q)

abbrev pub IsDone : Result Updated Refusal → Type 0
IsDone r = (s : ℕ) × (x : ℕ) × (y : ℕ) × (r ≡ took s x y)

pub update_is : (r : Result Updated Refusal) → (update_answer r).number ≡ 0 → IsDone r
update_is (Ok u) q = (u.edition, u.branches, u.entries, refl)
update_is (Err why) q = absurd (refused_some why q)

pub Refused-is : (r : Result Updated Refusal) (why : Refusal) → (update_answer r).number ≡ number_of why → r ≡ Err why
Refused-is (Ok u) why q = absurd (refused_some why (sym q))
Refused-is (Err w) why q = ap Err (refusal_once w why q)

abbrev pub IsFreed : Result CellCounts Refusal → Type 0
IsFreed r = (x : ℕ) × (y : ℕ) × (r ≡ cell_counts x y)

pub drop_is : (r : Result CellCounts Refusal) → (cells_answer r).number ≡ 0 → IsFreed r
drop_is (Ok n) q = (n.branches, n.entries, refl)
drop_is (Err why) q = absurd (refused_some why q)

pub check_is : (r : Result (Unit {0}) Refusal) → (unit_answer r).number ≡ 0 → r ≡ Ok tt
check_is (Ok u) q = refl
check_is (Err why) q = absurd (refused_some why q)
