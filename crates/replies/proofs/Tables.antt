-- Which number a call gives, as a table: document 01, "Answer numbers", where a number is "given exactly when" its row says so. Every
-- row settles what the call leaves, and one row always holds. A refusal returns zeros beside its number and alters nothing.
use Prim.Native.Nat.{ℕ, ◌<◌}
use mathlib.Core.Path.{◌≡◌, refl, sym, ap, ◌∙◌, subst}
use mathlib.Core.Bool.{true, false, cond}
use mathlib.Core.List.{List}
use mathlib.Core.Logic.{◌↔◌}
use native.Mathlib.Omega.{arith}
use lib.Dec.{eqb}
use borrow.Author.Tests.{eqb-true}
use Rattle.cases.proofs.Cases.{split}
use Rattle.layout.specs.declared.Shape.{Shape}
use Rattle.layout.specs.Header.{Header, header_of}
use Rattle.layout.specs.Columns.{word_of_slot}
use Rattle.layout.proofs.HeaderLaws.{Header-says, Header-once}
use Rattle.cells.specs.Slots.{held_slot, free_slot}
use Rattle.cells.proofs.SlotLaws.{held_says, held_is, free_slot-Lowest, free_slot_none}
use Rattle.replies.specs.declared.Refusal.{Refusal}
use Rattle.replies.specs.declared.Refusal.TheVariants as Why
use Rattle.replies.specs.Answers.{Answer, number_of, refused, done, done_taking}
use Rattle.replies.specs.Outcomes.{Outcome, leaves, on_header}
use Rattle.replies.proofs.AnswerLaws.{header_Right, header_Wrong}
use Rattle.std.specs.Prelude.{Option, Some, None}

-- A TABLE says of every number when it is given: a row for each that a call may give, and no other is given.
abbrev pub Row : ℕ → Type 0 → (ℕ → Type 0) → ℕ → Type 0
Row n P rest k = cond (eqb k n) P (rest k)

abbrev pub End : ℕ → Type 0
End k = ⊥

abbrev pub number : Outcome → ℕ
number o = o.answer.number

-- "A refusal returns zeros beside its number and alters nothing."
abbrev pub Unaltered : List ℕ → Outcome → Type 0
Unaltered a o = (o.words ≡ a) × (o.answer.a ≡ 0) × (o.answer.b ≡ 0) × (o.answer.c ≡ 0)

-- what the table and that sentence say of an outcome on the words a
pub record Numbered (a : List ℕ) (When : ℕ → Type 0) (o : Outcome) : Type 0 where
  pub exactly : (k : ℕ) → (number o ≡ k) ↔ When k
  pub refusal : (number o ≡ 0 → ⊥) → Unaltered a o

-- what a row that holds settles
pub record Gives (a : List ℕ) (o : Outcome) (k : ℕ) : Type 0 where
  pub is : number o ≡ k
  pub unaltered : (k ≡ 0 → ⊥) → Unaltered a o

module _ {a : List ℕ} {o : Outcome} where
  pub Gives-taking : {s x y : ℕ} {b : List ℕ} → o ≡ leaves (done_taking s x y) b → Gives a o 0
  Gives-taking e = record { is = ap number e; unaltered = λ ne. absurd (ne refl) }

  pub Gives-done : {x y : ℕ} {b : List ℕ} → o ≡ leaves (done x y) b → Gives a o 0
  Gives-done e = Gives-taking e

  pub Gives-refusal : (why : Refusal) → o ≡ leaves (refused why) a → Gives a o (number_of why)
  Gives-refusal why e = record { is = ap number e; unaltered = λ ne. rw e (refl, refl, refl, refl) }

  -- the rows of a table, one by one
  pub row : {n : ℕ} {P : Type 0} {rest : ℕ → Type 0} → (P → Gives a o n) → ((k : ℕ) → rest k → Gives a o k) → (k : ℕ) → Row n P rest k → Gives a o k
  row {n} p r k w = split (eqb k n) (λ e. rw (eqb-true k n e) (p (rw e at w))) (λ e. r k (rw e at w))

  pub end : (k : ℕ) → End k → Gives a o k
  end k w = absurd w

  -- all of it, from the rows and one that holds
  pub numbered : {When : ℕ → Type 0} → ((k : ℕ) → When k → Gives a o k) → (k : ℕ) × When k → Numbered a When o
  numbered {When} gives (k, w) =
      let g = gives k w in
      record {
        exactly = λ j. (λ e. subst When (sym g.is ∙ e) w, λ v. (gives j v).is);
        refusal = λ ne. g.unaltered (λ e. ne (g.is ∙ e));
      }

-- ALL OTHER CALLS test the header first, and the rest of their table is of an arena with a right one. 4: "words 0 to 7 wrong, or the slice shorter than 12 words or the total"
abbrev pub Damaged : List ℕ → Type 0
Damaged a = (z : Shape) → Header a z → ⊥

-- Of the words a the header is tested, and the words b are what a refusal leaves unaltered: the arena again, or a listing's output.
pub record HeaderNumbered (a b : List ℕ) (When : Shape → ℕ → Type 0) (o : Outcome) : Type 0 where
  pub damaged : (number o ≡ 4) ↔ Damaged a
  pub right : (number o ≡ 4 → ⊥) → (z : Shape) × Header a z
  pub exactly : (z : Shape) → Header a z → (k : ℕ) → (number o ≡ k) ↔ When z k
  pub refusal : (number o ≡ 0 → ⊥) → Unaltered b o

-- a call that only reads, seen as an outcome: it leaves the words as they are
abbrev pub read : List ℕ → Answer → Outcome
read a x = leaves x a

module _ {A : Type 0} (a b : List ℕ) (see : A → Outcome) (When : Shape → ℕ → Type 0) (x : A) (f : Shape → A) where
  pub right_Numbered : see x ≡ leaves (refused Why.Damaged) b → ((z : Shape) → When z 4 → ⊥)
      → ((z : Shape) → Header a z → Numbered b (When z) (see (f z))) → HeaderNumbered a b When (see (on_header (header_of a) x f))
  right_Numbered wrong no_4 numbers = by (header_of a) refl
    where
      by : (y : Option Shape) → header_of a ≡ y → HeaderNumbered a b When (see (on_header (header_of a) x f))
      by None e =
          let d : Damaged a = λ z h. let q = (Header-says a z).1 h in let m : ◌≡◌ {A = ℕ} 0 1 = cc in omega arith in
          let G : Gives b (see (on_header (header_of a) x f)) 4 = Gives-refusal Why.Damaged (ap see (header_Wrong _ x f e) ∙ wrong) in
          record {
            damaged = (λ q. d, λ q. G.is);
            right = λ ne. absurd (ne G.is);
            exactly = λ z h. absurd (d z h);
            refusal = λ ne. G.unaltered (λ q. omega arith);
          }
      by (Some z) e =
          let h = (Header-says a z).0 e in
          let N : Numbered b (When z) (see (on_header (header_of a) x f)) = rw (header_Right (header_of a) x f z e) (numbers z h) in
          record {
            damaged = (λ q. absurd (no_4 z ((N.exactly 4).0 q)), λ d. absurd (d z h));
            right = λ ne. (z, h);
            exactly = λ y k. rw (Header-once a y z k h) N.exactly;
            refusal = N.refusal;
          }

  pub header_numbered : see x ≡ leaves (refused Why.Damaged) b → ((z : Shape) → When z 4 → ⊥)
      → ((z : Shape) → Numbered b (When z) (see (f z))) → HeaderNumbered a b When (see (on_header (header_of a) x f))
  header_numbered wrong no_4 numbers = right_Numbered wrong no_4 (λ z h. numbers z)

-- 5: "number not below S, or not held"
abbrev pub Held : Shape → List ℕ → ℕ → Type 0
Held z a e = (e < z.slots) × (word_of_slot z a e 0 ≡ 1)

module _ {X : Type 0} (z : Shape) (a : List ℕ) (e : ℕ) where
  pub by_Held : (held_slot z a e ≡ true → Held z a e → X) → (held_slot z a e ≡ false → (Held z a e → ⊥) → X) → X
  by_Held held not =
      split (held_slot z a e) (λ q. held q (held_says z a e q))
      (λ q. not q (λ h. let p = held_is z a e h.0 h.1 in let m : ◌≡◌ {A = ℕ} 0 1 = cc in omega arith))

pub not_Held-Gives : (z : Shape) (a b : List ℕ) (e : ℕ) (o : Outcome) → (held_slot z a e ≡ false → o ≡ leaves (refused Why.NoSuchEdition) b)
    → (Held z a e → ⊥) → Gives b o 5
not_Held-Gives z a b e o not n = by_Held z a e (λ q h. absurd (n h)) (λ q m. Gives-refusal Why.NoSuchEdition (not q))

-- 7: "a new edition wanted, all S held"
abbrev pub AllHeld : Shape → List ℕ → Type 0
AllHeld z a = (i : ℕ) → i < z.slots → word_of_slot z a i 0 ≡ 1

module _ {X : Type 0} (z : Shape) (a : List ℕ) where
  pub by_free : (free_slot z a ≡ None → AllHeld z a → X) → ((s : ℕ) → free_slot z a ≡ Some s → (AllHeld z a → ⊥) → X) → X
  by_free none at = by (free_slot z a) refl
    where
      by : (y : Option ℕ) → free_slot z a ≡ y → X
      by None e = none e (free_slot_none z a e)
      by (Some s) e = let w = free_slot-Lowest z a s e in at s e (λ all. w.not_held (all s w.slot))
