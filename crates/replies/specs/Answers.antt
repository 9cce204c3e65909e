-- Document 01, "Answer numbers": the number and the values of each answer. "A refusal returns zeros beside its number."
use Rattle.std.specs.Prelude.{ℕ, Bool, cond, Result, Ok, Err}
use Rattle.layout.specs.declared.Misfit.{Misfit}
use Rattle.layout.specs.declared.Misfit.TheVariants as L
use Rattle.replies.specs.declared.Refusal.{Refusal}
use Rattle.replies.specs.declared.Refusal.TheVariants.{BadDegree, BadSizes, SliceTooShort, Damaged, NoSuchEdition, Absent, NoSlot, NoBranchCells, NoEntryCells, OutputTooShort, BeyondTheEnd, WorkTooShort}
use Rattle.replies.specs.declared.Updated.{Updated}
use Rattle.replies.specs.declared.CellCounts.{CellCounts}

pub record Answer : Type 0 where
  pub number : ℕ
  pub a : ℕ
  pub b : ℕ
  pub c : ℕ

abbrev pub answer : ℕ → ℕ → ℕ → ℕ → Answer
answer n x y w = record { number = n; a = x; b = y; c = w }

-- the table's numbers 1 to 12
abbrev pub number_of : Refusal → ℕ
number_of BadDegree = 1
number_of BadSizes = 2
number_of SliceTooShort = 3
number_of Damaged = 4
number_of NoSuchEdition = 5
number_of Absent = 6
number_of NoSlot = 7
number_of NoBranchCells = 8
number_of NoEntryCells = 9
number_of OutputTooShort = 10
number_of BeyondTheEnd = 11
number_of WorkTooShort = 12

-- 1 and 2: why no arena can be made
abbrev pub unfit : Misfit → Refusal
unfit L.BadDegree = BadDegree
unfit L.BadSizes = BadSizes

abbrev pub refused : Refusal → Answer
refused r = answer (number_of r) 0 0 0

abbrev pub done : ℕ → ℕ → Answer
done x y = answer 0 x y 0

-- "The answer reports the cells taken of each kind", beside the edition
abbrev pub done_taking : ℕ → ℕ → ℕ → Answer
done_taking e b n = answer 0 e b n

-- WHAT A CALL GIVES where it is done: nothing, one number, "1 for equal and 0 for not", an edition and the cells taken beside it, or
-- how many cells of each kind.
abbrev pub no_values : Unit {0} → Answer
no_values u = done 0 0

abbrev pub one_value : ℕ → Answer
one_value n = done n 0

abbrev pub truth_value : Bool → Answer
truth_value b = done (cond b 1 0) 0

abbrev pub update_values : Updated → Answer
update_values u = done_taking u.edition u.branches u.entries

abbrev pub cell_values : CellCounts → Answer
cell_values n = done n.branches n.entries

-- the answer of a call, done or refused
abbrev pub answered : {T : Type 0} → (T → Answer) → Result T Refusal → Answer
answered values (Ok x) = values x
answered values (Err r) = refused r

abbrev pub unit_answer : Result (Unit {0}) Refusal → Answer
unit_answer = answered no_values

abbrev pub number_answer : Result ℕ Refusal → Answer
number_answer = answered one_value

abbrev pub truth_answer : Result Bool Refusal → Answer
truth_answer = answered truth_value

abbrev pub update_answer : Result Updated Refusal → Answer
update_answer = answered update_values

abbrev pub cells_answer : Result CellCounts Refusal → Answer
cells_answer = answered cell_values

-- an update that is done, and a call that is done and tells of cells
abbrev pub took : ℕ → ℕ → ℕ → Result Updated Refusal
took e b n = Ok (record { edition = e; branches = b; entries = n })

abbrev pub cell_counts : ℕ → ℕ → Result CellCounts Refusal
cell_counts b n = Ok (record { branches = b; entries = n })
