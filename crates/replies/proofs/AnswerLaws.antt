-- A refusal's number is not 0, so an answer tells whether the call was done, and its values. And the cases of a header, of a slot and
-- of what a writer of cells leaves.
use Rattle.layout.specs.declared.Shape.{Shape}
use Rattle.cells.specs.Mirrors.{Wrote}
use Rattle.replies.specs.Outcomes.{Outcome, leaves, on_header, on_slot, on_wrote}
use Rattle.std.proofs.Common.{◌≡◌, ℕ, ◌<◌, Bool, true, false, List, [], ◌∷◌, get_or, Some, None, Ok, Err, Option, Result, sym, refl, ap, ◌∙◌, arith, eq-eqb, ne_eqb}
use Rattle.replies.specs.declared.Updated.{Updated}
use Rattle.replies.specs.declared.CellCounts.{CellCounts}
use Rattle.replies.specs.declared.Refusal.{Refusal}
use Rattle.replies.specs.declared.Refusal.TheVariants.{BadDegree, BadSizes, SliceTooShort, Damaged, NoSuchEdition, Absent, NoSlot, NoBranchCells, NoEntryCells, OutputTooShort, BeyondTheEnd, WorkTooShort}
use Rattle.replies.specs.Answers.{Answer, answer, number_of, refused, done, done_taking, no_values, one_value, truth_value, update_values, cell_values, answered, unit_answer, number_answer, truth_answer, update_answer, cells_answer}

number_some : (r : Refusal) → 0 < number_of r
number_some BadDegree = omega arith
number_some BadSizes = omega arith
number_some SliceTooShort = omega arith
number_some Damaged = omega arith
number_some NoSuchEdition = omega arith
number_some Absent = omega arith
number_some NoSlot = omega arith
number_some NoBranchCells = omega arith
number_some NoEntryCells = omega arith
number_some OutputTooShort = omega arith
number_some BeyondTheEnd = omega arith
number_some WorkTooShort = omega arith

pub refused_not_done : (r : Refusal) (x y : ℕ) → refused r ≡ done x y → ⊥
refused_not_done r x y e = omega (arith, number_some r, ap (λ (w : Answer). w.number) e)

pub not_done : (r : Refusal) (s branches entries : ℕ) → refused r ≡ done_taking s branches entries → ⊥
not_done r s branches entries q = refused_not_done r 0 0 (ap (λ (w : Answer). answer w.number 0 0 0) q)

pub done_value : (x y v w : ℕ) → done x y ≡ done v w → x ≡ v
done_value x y v w e = ap (λ (u : Answer). u.a) e

-- FLATTENING LOSES NOTHING: no two answers of a call have the same number and the same values.
-- the refusal of a number from 1 to 12; for 0 and the further ones it is any
abbrev refusal_of : ℕ → Refusal
refusal_of n =
    get_or
    (BadDegree ∷ BadDegree ∷ BadSizes ∷ SliceTooShort ∷ Damaged ∷ NoSuchEdition ∷ Absent ∷ NoSlot ∷ NoBranchCells ∷ NoEntryCells
    ∷ OutputTooShort ∷ BeyondTheEnd ∷ WorkTooShort ∷ []) n BadDegree

refusal_back : (r : Refusal) → refusal_of (number_of r) ≡ r
refusal_back BadDegree = refl
refusal_back BadSizes = refl
refusal_back SliceTooShort = refl
refusal_back Damaged = refl
refusal_back NoSuchEdition = refl
refusal_back Absent = refl
refusal_back NoSlot = refl
refusal_back NoBranchCells = refl
refusal_back NoEntryCells = refl
refusal_back OutputTooShort = refl
refusal_back BeyondTheEnd = refl
refusal_back WorkTooShort = refl

pub refusal_once : (r s : Refusal) → number_of r ≡ number_of s → r ≡ s
refusal_once r s e = sym (refusal_back r) ∙ ap refusal_of e ∙ refusal_back s

module _ {T : Type 0} (values : T → Answer) (done_is : (x : T) → (values x).number ≡ 0) (one : (x y : T) → values x ≡ values y → x ≡ y) where
  pub answered_once : (r s : Result T Refusal) → answered values r ≡ answered values s → r ≡ s
  answered_once (Ok x) (Ok y) e = ap Ok (one x y e)
  answered_once (Ok x) (Err s) e = absurd (omega (arith, number_some s, done_is x, ap (λ (w : Answer). w.number) e))
  answered_once (Err r) (Ok y) e = absurd (omega (arith, number_some r, done_is y, ap (λ (w : Answer). w.number) e))
  answered_once (Err r) (Err s) e = ap Err (refusal_once r s (ap (λ (w : Answer). w.number) e))

pub unit_once : (r s : Result (Unit {0}) Refusal) → unit_answer r ≡ unit_answer s → r ≡ s
unit_once = answered_once no_values (λ x. refl) (λ x y e. refl)

pub number_once : (r s : Result ℕ Refusal) → number_answer r ≡ number_answer s → r ≡ s
number_once = answered_once one_value (λ x. refl) (λ x y e. ap (λ (w : Answer). w.a) e)

one_truth : (x y : Bool) → truth_value x ≡ truth_value y → x ≡ y
one_truth true true e = refl
one_truth false false e = refl
one_truth true false e = absurd (omega (arith, ap (λ (w : Answer). w.a) e))
one_truth false true e = absurd (omega (arith, ap (λ (w : Answer). w.a) e))

pub truth_once : (r s : Result Bool Refusal) → truth_answer r ≡ truth_answer s → r ≡ s
truth_once = answered_once truth_value (λ x. refl) one_truth

pub update_once : (r s : Result Updated Refusal) → update_answer r ≡ update_answer s → r ≡ s
update_once = answered_once update_values (λ x. refl) (λ x y e i. record { edition = (e i).a; branches = (e i).b; entries = (e i).c })

pub cells_once : (r s : Result CellCounts Refusal) → cells_answer r ≡ cells_answer s → r ≡ s
cells_once = answered_once cell_values (λ x. refl) (λ x y e i. record { branches = (e i).a; entries = (e i).b })

-- THE CASES OF A HEADER
pub header_Right : {A : Type 0} (y : Option Shape) (x : A) (f : Shape → A) (z : Shape) → y ≡ Some z → on_header y x f ≡ f z
unfolding on_header
header_Right y x f z e = rw e

pub header_Wrong : {A : Type 0} (y : Option Shape) (x : A) (f : Shape → A) → y ≡ None → on_header y x f ≡ x
unfolding on_header
header_Wrong y x f e = rw e

-- and so of a call that read the header first, as o
pub read_Right : {A : Type 0} (o y : Option Shape) (x : A) (f : Shape → A) (z : Shape) (r : A) → o ≡ y → o ≡ Some z → r ≡ f z → r ≡ on_header y x f
read_Right o y x f z r p e q = q ∙ sym (header_Right y x f z (sym p ∙ e))

pub read_Wrong : {A : Type 0} (o y : Option Shape) (x : A) (f : Shape → A) → o ≡ y → o ≡ None → x ≡ on_header y x f
read_Wrong o y x f p e = sym (header_Wrong y x f (sym p ∙ e))

-- THE CASES OF A SLOT
pub slot_at : (y : Option ℕ) (x : Outcome) (f : ℕ → Outcome) (s : ℕ) → y ≡ Some s → on_slot y x f ≡ f s
unfolding on_slot
slot_at y x f s e = rw e

pub slot_none : (y : Option ℕ) (x : Outcome) (f : ℕ → Outcome) → y ≡ None → on_slot y x f ≡ x
unfolding on_slot
slot_none y x f e = rw e

-- AFTER A WRITER
pub wrote_none : (s : Wrote) (why : Refusal) (f : ℕ → List ℕ → Outcome) → s.at ≡ 0
    → on_wrote s why f ≡ leaves (refused why) s.words
unfolding on_wrote
wrote_none s why f e = rw (eq-eqb s.at 0 e)

pub wrote_some : (s : Wrote) (why : Refusal) (f : ℕ → List ℕ → Outcome) → (s.at ≡ 0 → ⊥) → on_wrote s why f ≡ f s.at s.words
unfolding on_wrote
wrote_some s why f ne = rw (ne_eqb s.at 0 ne)
