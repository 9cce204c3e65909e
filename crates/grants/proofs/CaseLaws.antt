-- What an update leaves, case by case, on any words: the tests of specs/Rooms.antt in their order, and its end.
use Rattle.std.proofs.Common.{◌≡◌, ℕ, ◌<◌, ◌≤◌, Bool, true, false, List, Some, None, Ok, Err, Result, sym, ap, ◌∙◌, subst, ⊎_elim, arith, le-ltb, lt-ltb}
use Rattle.cases.proofs.Cases.{split, eq?, lt?}
use Rattle.layout.specs.declared.Shape.{Shape}
use Rattle.layout.specs.Header.{header_of}
use Rattle.cells.specs.Mirrors.{Wrote}
use Rattle.cells.specs.Slots.{held_slot, free_slot}
use Rattle.replies.specs.declared.Refusal.{Refusal}
use Rattle.replies.specs.declared.Refusal.TheVariants as Why
use Rattle.replies.specs.Answers.{refused}
use Rattle.replies.specs.Outcomes.{Outcome, leaves, on_header}
use Rattle.replies.proofs.AnswerLaws.{header_Right, header_Wrong, wrote_none, wrote_some}
use Rattle.replies.proofs.Tables.{by_free}
use Rattle.grants.specs.Rooms.{free_cell_count, enough, room_of, on_room, update_in, held_to, hold_to}
use Rattle.cells.proofs.SlotLaws.{free_slot_in}

-- what a call knows of an update once it has read: whether the key is as it wants it, how many cells of each kind are taken, and
-- what it does with a slot
pub record Update : Type 0 where
  pub wanted : Bool
  pub branches : ℕ
  pub entries : ℕ
  pub does : ℕ → Outcome

abbrev pub update_by : Shape → List ℕ → ℕ → Update → Outcome
update_by z a e u = update_in z a e u.wanted u.branches u.entries u.does

-- and the header first
abbrev pub update_of : List ℕ → ℕ → (Shape → Update) → Outcome
update_of a e u = on_header (header_of a) (leaves (refused Why.Damaged) a) (λ z. update_by z a e (u z))

-- THE HEADER
module _ (a : List ℕ) (e : ℕ) (u : Shape → Update) where
  pub update_Damaged : header_of a ≡ None → update_of a e u ≡ leaves (refused Why.Damaged) a
  update_Damaged q = header_Wrong (header_of a) _ _ q

  pub update_Right : (z : Shape) → header_of a ≡ Some z → update_of a e u ≡ update_by z a e (u z)
  update_Right z q = header_Right (header_of a) _ _ z q

-- ROOM
module _ (z : Shape) (a : List ℕ) (branches entries : ℕ) where
  pub room_none : free_slot z a ≡ None → room_of z a branches entries ≡ Err Why.NoSlot
  unfolding room_of
  room_none q = rw q

  module _ (s : ℕ) (free : free_slot z a ≡ Some s) where
    pub room_few_branches : free_cell_count z a 0 < branches → room_of z a branches entries ≡ Err Why.NoBranchCells
    unfolding room_of enough
    room_few_branches l = rw (free, lt-ltb (free_cell_count z a 0) branches l)

    module _ (fits : branches ≤ free_cell_count z a 0) where
      pub room_few_entries : free_cell_count z a 1 < entries → room_of z a branches entries ≡ Err Why.NoEntryCells
      unfolding room_of enough
      room_few_entries l = rw (free, le-ltb (free_cell_count z a 0) branches fits, lt-ltb (free_cell_count z a 1) entries l)

      pub room_at : entries ≤ free_cell_count z a 1 → room_of z a branches entries ≡ Ok s
      unfolding room_of enough
      room_at l = rw (free, le-ltb (free_cell_count z a 0) branches fits, le-ltb (free_cell_count z a 1) entries l)

    -- the tests of the cells, and what is so where there is room
    pub by_cells : {X : Type 0} → (room_of z a branches entries ≡ Err Why.NoBranchCells → X)
        → (room_of z a branches entries ≡ Err Why.NoEntryCells → X)
        → (room_of z a branches entries ≡ Ok s → branches ≤ free_cell_count z a 0 → entries ≤ free_cell_count z a 1 → X) → X
    by_cells no_branches no_entries at =
        ⊎_elim
        (λ l. no_branches (room_few_branches l))
        (λ b.
        ⊎_elim (λ l. no_entries (room_few_entries b l)) (λ n. at (room_at b n) b n) (lt? (free_cell_count z a 1) entries))
        (lt? (free_cell_count z a 0) branches)

  -- where there is room, it is in the lowest free slot
  pub room_slot : (s : ℕ) → room_of z a branches entries ≡ Ok s → free_slot z a ≡ Some s
  room_slot s q =
      by_free z a
      (λ f all. let r = room_none f in let m : ◌≡◌ {A = ℕ} 0 1 = cc in absurd (omega arith))
      (λ t f n.
      by_cells t f
      (λ r. let m : ◌≡◌ {A = ℕ} 0 1 = cc in absurd (omega arith))
      (λ r. let m : ◌≡◌ {A = ℕ} 0 1 = cc in absurd (omega arith))
      (λ r fit_0 fit_1. let m : t ≡ s = cc in f ∙ ap Some m))

pub room_in : (z : Shape) (a : List ℕ) (branches entries s : ℕ) → room_of z a branches entries ≡ Ok s → s < z.slots
room_in z a branches entries s q = free_slot_in z a s (room_slot z a branches entries s q)

pub on_refused : (a : List ℕ) (r : Result ℕ Refusal) (f : ℕ → Outcome) (why : Refusal) → r ≡ Err why → on_room a r f ≡ leaves (refused why) a
unfolding on_room
on_refused a r f why q = rw q

pub on_At : (a : List ℕ) (r : Result ℕ Refusal) (f : ℕ → Outcome) (s : ℕ) → r ≡ Ok s → on_room a r f ≡ f s
unfolding on_room
on_At a r f s q = rw q

-- THE CALL
module _ (z : Shape) (a : List ℕ) (e : ℕ) (u : Update) where
  pub update_not_held : held_slot z a e ≡ false → update_by z a e u ≡ leaves (refused Why.NoSuchEdition) a
  unfolding update_in
  update_not_held q = rw q

  module _ (held : held_slot z a e ≡ true) where
    pub update_Absent : u.wanted ≡ false → update_by z a e u ≡ leaves (refused Why.Absent) a
    unfolding update_in
    update_Absent q = rw (held, q)

    module _ (there : u.wanted ≡ true) where
      pub update_goes : update_by z a e u ≡ on_room a (room_of z a u.branches u.entries) u.does
      unfolding update_in
      update_goes = rw (held, there)

      pub update_refused : (why : Refusal) → room_of z a u.branches u.entries ≡ Err why
          → update_by z a e u ≡ leaves (refused why) a
      update_refused why q = update_goes ∙ on_refused a _ u.does why q

      pub update_At : (s : ℕ) → room_of z a u.branches u.entries ≡ Ok s → update_by z a e u ≡ u.does s
      update_At s q = update_goes ∙ on_At a _ u.does s q

  -- what holds of every refusal, and of what is done with a slot where there is room, holds of the call
  pub either_way : (P : Outcome → Type 0) → ((why : Refusal) → P (leaves (refused why) a))
      → (held_slot z a e ≡ true → u.wanted ≡ true → (s : ℕ) → free_slot z a ≡ Some s → u.branches ≤ free_cell_count z a 0
      → u.entries ≤ free_cell_count z a 1 → P (u.does s))
      → P (update_by z a e u)
  either_way P none some =
      split (held_slot z a e)
      (λ held.
      split u.wanted
      (λ there.
      by_free z a
      (λ q all. not Why.NoSlot (update_refused held there _ (room_none z a _ _ q)))
      (λ s q n.
      by_cells z a _ _ s q
      (λ f. not Why.NoBranchCells (update_refused held there _ f))
      (λ f. not Why.NoEntryCells (update_refused held there _ f))
      (λ r fit_0 fit_1. is (update_At held there s r) (some held there s q fit_0 fit_1))))
      (λ f. not Why.Absent (update_Absent held f)))
      (λ f. not Why.NoSuchEdition (update_not_held f))
    where
      is : {o : Outcome} → update_by z a e u ≡ o → P o → P (update_by z a e u)
      is q p = subst P (sym q) p

      not : (why : Refusal) → update_by z a e u ≡ leaves (refused why) a → P (update_by z a e u)
      not why q = is q (none why)

-- THE CALL, BY WHAT WAS READ: p, where its definition reads q
module _ {P : Type 0} (z : Shape) (a : List ℕ) (e : ℕ) (u : P → Update) (p q : P) (same : p ≡ q) (held : held_slot z a e ≡ true)
    (o : Outcome) where
  pub read_goes : (u p).wanted ≡ true → o ≡ on_room a (room_of z a (u p).branches (u p).entries) (u p).does
      → o ≡ update_by z a e (u q)
  read_goes there w = w ∙ sym (update_goes z a e (u p) held there) ∙ ap (λ (x : P). update_by z a e (u x)) same

  pub read_Absent : (u p).wanted ≡ false → o ≡ leaves (refused Why.Absent) a → o ≡ update_by z a e (u q)
  read_Absent not w = w ∙ sym (update_Absent z a e (u p) held not) ∙ ap (λ (x : P). update_by z a e (u x)) same

-- THE SLOT
module _ (z : Shape) (s size branches entries : ℕ) (w : Wrote) where
  hold_none : w.at ≡ 0 → hold_to z s size branches entries w ≡ leaves (refused Why.NoBranchCells) w.words
  unfolding hold_to
  hold_none q = wrote_none w Why.NoBranchCells (held_to z s size branches entries) q

  pub hold_some : (w.at ≡ 0 → ⊥) → hold_to z s size branches entries w ≡ held_to z s size branches entries w.at w.words
  unfolding hold_to
  hold_some ne = wrote_some w Why.NoBranchCells (held_to z s size branches entries) ne

  -- what holds in both cases holds
  pub by_root : (P : Outcome → Type 0) → P (leaves (refused Why.NoBranchCells) w.words)
      → P (held_to z s size branches entries w.at w.words) → P (hold_to z s size branches entries w)
  by_root P none some =
      ⊎_elim (λ q. subst P (sym (hold_none q)) none) (λ ne. subst P (sym (hold_some ne)) some) (eq? w.at 0)
