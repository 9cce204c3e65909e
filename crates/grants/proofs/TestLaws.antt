-- The tests of an update with what each says, and the number that each gives where it refuses: all of them on any words, and nothing
-- is written.
use Rattle.std.proofs.Common.{◌≡◌, ℕ, ◌<◌, ◌≤◌, true, false, ◌↔◌, List, Some, arith}
use Rattle.cases.proofs.Cases.{split}
use Rattle.layout.specs.declared.Shape.{Shape}
use Rattle.cells.specs.Slots.{held_slot, free_slot}
use Rattle.cells.proofs.SlotLaws.{held_is}
use Rattle.replies.specs.declared.Refusal.TheVariants as Why
use Rattle.replies.specs.Outcomes.{Outcome}
use Rattle.replies.proofs.Tables.{AllHeld, Gives, Held, by_free, by_Held, Gives-refusal, not_Held-Gives}
use Rattle.grants.specs.Rooms.{free_cell_count}
use Rattle.grants.proofs.CaseLaws.{Update, update_by, room_none, room_few_branches, room_few_entries, update_Absent, update_not_held, update_refused}

-- none of 5, 6 and 7, where Lacks says that the key is not as the call wants it
abbrev pub Goes : Shape → List ℕ → ℕ → Type 0 → Type 0
Goes z a e Lacks = Held z a e × (Lacks → ⊥) × (AllHeld z a → ⊥)

-- THE CALL with a right header
module _ (z : Shape) (a : List ℕ) (e : ℕ) (u : Update) {Lacks : Type 0} (lacks : Held z a e → (u.wanted ≡ false) ↔ Lacks) where
  abbrev out : Outcome
  out = update_by z a e u

  by_wanted : {X : Type 0} → Held z a e → (u.wanted ≡ true → (Lacks → ⊥) → X) → (u.wanted ≡ false → Lacks → X) → X
  by_wanted held wants not =
      split u.wanted
      (λ w. wants w (λ n. let q = (lacks held).1 n in let m : ◌≡◌ {A = ℕ} 0 1 = cc in omega arith))
      (λ w. not w ((lacks held).0 w))

  is_held : Held z a e → held_slot z a e ≡ true
  is_held held = held_is z a e held.0 held.1

  -- the first three tests, with what each says
  pub by_tests : {X : Type 0} → ((Held z a e → ⊥) → X) → (Held z a e × Lacks → X)
      → (Held z a e × (Lacks → ⊥) × AllHeld z a → X)
      → ((s : ℕ) → free_slot z a ≡ Some s → held_slot z a e ≡ true → u.wanted ≡ true → Goes z a e Lacks → X) → X
  by_tests none absent full on =
      by_Held z a e
      (λ q held.
      by_wanted held
      (λ w wants. by_free z a (λ f all. full (held, wants, all)) (λ s f some. on s f q w (held, wants, some)))
      (λ w not. absent (held, not)))
      (λ q not. none not)

  pub not_Held : (Held z a e → ⊥) → Gives a out 5
  not_Held n = not_Held-Gives z a a e out (update_not_held z a e u) n

  pub absent : Held z a e × Lacks → Gives a out 6
  absent (held, not) = Gives-refusal Why.Absent (update_Absent z a e u (is_held held) ((lacks held).1 not))

  pub no_slot : Held z a e × (Lacks → ⊥) × AllHeld z a → Gives a out 7
  no_slot (held, wants, all) =
      by_wanted held
      (λ w y.
      by_free z a
      (λ f x. Gives-refusal Why.NoSlot (update_refused z a e u (is_held held) w _ (room_none z a _ _ f)))
      (λ s f some. absurd (some all)))
      (λ w not. absurd (wants not))

  pub on_slot : {X : Type 0} → Goes z a e Lacks
      → ((s : ℕ) → free_slot z a ≡ Some s → held_slot z a e ≡ true → u.wanted ≡ true → X) → X
  on_slot (held, wants, some) f =
      by_tests (λ n. absurd (n held)) (λ w. absurd (wants w.1)) (λ w. absurd (some w.2)) (λ s q h w g. f s q h w)

  pub no_branches : Goes z a e Lacks → free_cell_count z a 0 < u.branches → Gives a out 8
  no_branches g l =
      on_slot g
      (λ s q h w. Gives-refusal Why.NoBranchCells (update_refused z a e u h w _ (room_few_branches z a _ _ s q l)))

  pub no_entries : Goes z a e Lacks → u.branches ≤ free_cell_count z a 0 → free_cell_count z a 1 < u.entries → Gives a out 9
  no_entries g b l =
      on_slot g
      (λ s q h w. Gives-refusal Why.NoEntryCells (update_refused z a e u h w _ (room_few_entries z a _ _ s q b l)))
