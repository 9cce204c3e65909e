-- The lowest free slot is found exactly: below it every slot is held, and where none is found all are.
use Prim.Native.Nat.{ℕ, zero, suc, ◌+◌, ◌-◌, ◌≤◌, ◌<◌}
use mathlib.Core.Path.{◌≡◌, refl, sym, ap, ◌∙◌}
use mathlib.Core.Bool.{true}
use mathlib.Core.List.{List}
use mathlib.Core.Logic.{⊎_elim}
use native.Mathlib.Omega.{arith}
use native.Mathlib.Numerals.{add-one}
use lib.Dec.{eqb, ltb}
use borrow.Author.Tests.{eq-eqb, ne_eqb, lt-ltb, eqb-true, eqb-false, ltb-true}
use Rattle.cases.proofs.Cases.{split, eq?, both}
use Rattle.layout.specs.declared.Shape.{Shape}
use Rattle.layout.specs.Columns.{word_of_slot}
use Rattle.cells.specs.Slots.{held_slot, free_from, free_slot}
use Rattle.std.specs.Prelude.{Some, None}

-- HELD
module _ (z : Shape) (a : List ℕ) (s : ℕ) where
  pub held_says : held_slot z a s ≡ true → (s < z.slots) × (word_of_slot z a s 0 ≡ 1)
  unfolding held_slot
  held_says e = let w = both (ltb s z.slots) _ e in (ltb-true _ _ w.0, eqb-true _ _ w.1)

  pub held_in : held_slot z a s ≡ true → s < z.slots
  held_in e = (held_says e).0

  pub held_is : s < z.slots → word_of_slot z a s 0 ≡ 1 → held_slot z a s ≡ true
  unfolding held_slot
  held_is l e = rw (lt-ltb s z.slots l, eq-eqb (word_of_slot z a s 0) 1 e)

-- FREE, by what was seen
module _ (z : Shape) (a : List ℕ) where
  pub free_here : (s n : ℕ) → 0 < n → (word_of_slot z a s 0 ≡ 1 → ⊥) → free_from z a s n ≡ Some s
  unfolding free_from
  free_here s zero l ne = absurd (omega arith)
  free_here s (suc n) l ne = rw (ne_eqb (word_of_slot z a s 0) 1 ne)

  pub free_later : (s n : ℕ) → 0 < n → word_of_slot z a s 0 ≡ 1 → free_from z a s n ≡ free_from z a (s + 1) (n - 1)
  unfolding free_from
  free_later s zero l e = absurd (omega arith)
  free_later s (suc n) l e = let q : suc n - 1 ≡ n = omega arith in rw (eq-eqb (word_of_slot z a s 0) 1 e, q, add-one)

  pub free_none : (s n : ℕ) → n ≤ 0 → free_from z a s n ≡ None
  unfolding free_from
  free_none s zero l = refl
  free_none s (suc n) l = absurd (omega arith)

  -- one step of the search
  pub free_next : (s : ℕ) → s < z.slots → word_of_slot z a s 0 ≡ 1 → free_slot z a ≡ free_from z a s (z.slots - s)
      → free_slot z a ≡ free_from z a (s + 1) (z.slots - (s + 1))
  free_next s l e q =
      let k : z.slots - s - 1 ≡ z.slots - (s + 1) = omega arith in
      q ∙ free_later s (z.slots - s) (omega arith) e ∙ ap (free_from z a (s + 1)) k

  pub free_start : free_slot z a ≡ free_from z a 0 (z.slots - 0)
  unfolding free_slot
  free_start = let k : z.slots ≡ z.slots - 0 = omega arith in ap (free_from z a 0) k

-- WHAT IS FOUND
pub record Lowest (z : Shape) (a : List ℕ) (s : ℕ) : Type 0 where
  pub slot : s < z.slots
  pub not_held : word_of_slot z a s 0 ≡ 1 → ⊥
  pub held_below : (i : ℕ) → i < s → word_of_slot z a i 0 ≡ 1

module _ (z : Shape) (a : List ℕ) where
  from_says : (s n e : ℕ) → free_from z a s n ≡ Some e
      → (s ≤ e) × (e < s + n) × (word_of_slot z a e 0 ≡ 1 → ⊥) × ((i : ℕ) → s ≤ i → i < e → word_of_slot z a i 0 ≡ 1)
  unfolding free_from
  from_says s zero e q = absurd (let m : ◌≡◌ {A = ℕ} 0 1 = cc in omega arith)
  from_says s (suc n) e q =
      split (eqb (word_of_slot z a s 0) 1)
      (λ h.
      let w = from_says (suc s) n e (rw h at q) in (
        omega (arith, w.0),
        omega (arith, w.1),
        w.2,
        λ i l m. ⊎_elim (λ x. rw x (eqb-true _ _ h)) (λ ne. w.3 i (omega arith) m) (eq? i s),
      ))
      (λ h.
      let p : Some s ≡ Some e = rw h at q in
      let x : s ≡ e = cc in
      (omega arith, omega arith, rw (sym x) (eqb-false _ _ h), λ i l m. absurd (omega arith)))

  none_says : (s n : ℕ) → free_from z a s n ≡ None → (i : ℕ) → s ≤ i → i < s + n → word_of_slot z a i 0 ≡ 1
  unfolding free_from
  none_says s zero q i l m = absurd (omega arith)
  none_says s (suc n) q i l m =
      split (eqb (word_of_slot z a s 0) 1)
      (λ h. ⊎_elim (λ x. rw x (eqb-true _ _ h)) (λ ne. none_says (suc s) n (rw h at q) i (omega arith) (omega arith)) (eq? i s))
      (λ h. absurd (let p : Some s ≡ None = rw h at q in let x : ◌≡◌ {A = ℕ} 0 1 = cc in omega arith))

  pub free_slot-Lowest : (e : ℕ) → free_slot z a ≡ Some e → Lowest z a e
  unfolding free_slot
  free_slot-Lowest e q =
      let w = from_says 0 z.slots e q in
      record { slot = omega (arith, w.1); not_held = w.2; held_below = λ i l. w.3 i (omega arith) l }

  pub free_slot_in : (e : ℕ) → free_slot z a ≡ Some e → e < z.slots
  free_slot_in e q = (free_slot-Lowest e q).slot

  pub free_slot_none : free_slot z a ≡ None → (i : ℕ) → i < z.slots → word_of_slot z a i 0 ≡ 1
  unfolding free_slot
  free_slot_none q i l = none_says 0 z.slots q i (omega arith) (omega arith)
