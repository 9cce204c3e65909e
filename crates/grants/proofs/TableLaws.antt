-- Document 01's whole table of an update, where what it has read says what it takes and the free cells are as many as the counts say:
-- so it is on a sound arena.
use Rattle.std.proofs.Common.{◌≡◌, ℕ, ◌<◌, ◌≤◌, true, false, ◌↔◌, List, Some, refl, ◌∙◌, ⊎_elim}
use Rattle.cases.proofs.Cases.{lt?}
use Rattle.layout.specs.declared.Shape.{Shape}
use Rattle.layout.specs.Header.{Header}
use Rattle.cells.specs.Slots.{free_slot}
use Rattle.replies.specs.Answers.{done_taking}
use Rattle.replies.specs.Outcomes.{leaves}
use Rattle.replies.proofs.Tables.{AllHeld, End, Gives, HeaderNumbered, Held, Numbered, Row, end, Gives-taking, numbered, right_Numbered, row}
use Rattle.grants.specs.Rooms.{free_cell_count}
use Rattle.grants.proofs.CaseLaws.{Update, update_by, update_of, room_at, update_At}
use Rattle.grants.proofs.TestLaws.{Goes, by_tests, not_Held, absent, no_slot, on_slot, no_branches, no_entries}

-- THE TABLE, by what 6 says and how many cells the update takes of each kind. 8 and 9: "more needed than free"
abbrev pub UpdateWhen : Shape → List ℕ → ℕ → Type 0 → ℕ → ℕ → ℕ → Type 0
UpdateWhen z a e Lacks branches entries =
    Row 5 (Held z a e → ⊥)
    (Row 6 (Held z a e × Lacks)
    (Row 7 (Held z a e × (Lacks → ⊥) × AllHeld z a)
    (Row 8 (Goes z a e Lacks × (free_cell_count z a 0 < branches))
    (Row 9 (Goes z a e Lacks × (branches ≤ free_cell_count z a 0) × (free_cell_count z a 1 < entries))
    (Row 0 (Goes z a e Lacks × (branches ≤ free_cell_count z a 0) × (entries ≤ free_cell_count z a 1)) End)))))

-- the counts are these, and where both fit the update is done
pub record Counted (z : Shape) (a : List ℕ) (u : Update) (branches entries : ℕ) : Type 0 where
  pub branches_are : u.branches ≡ branches
  pub entries_are : u.entries ≡ entries
  pub done : (s : ℕ) → free_slot z a ≡ Some s → u.branches ≤ free_cell_count z a 0 → u.entries ≤ free_cell_count z a 1
      → (b : List ℕ) × (u.does s ≡ leaves (done_taking s u.branches u.entries) b)

-- ON A SOUND ARENA what was read says whether the key is as the call wants it, and then the counts
pub record Planned (z : Shape) (a : List ℕ) (u : Update) (Lacks : Type 0) (branches entries : ℕ) : Type 0 where
  pub lacks : (u.wanted ≡ false) ↔ Lacks
  pub counted : u.wanted ≡ true → Counted z a u branches entries

module _ (z : Shape) (a : List ℕ) (e : ℕ) (u : Update) {Lacks : Type 0} {branches entries : ℕ}
    (P : Held z a e → Planned z a u Lacks branches entries) where
  lacks : Held z a e → (u.wanted ≡ false) ↔ Lacks
  lacks held = (P held).lacks

  on_counts : {X : Type 0} → Goes z a e Lacks → (Counted z a u branches entries → X) → X
  on_counts g f = on_slot z a e u lacks g (λ s q h w. f ((P g.0).counted w))

  fits_gives : Goes z a e Lacks → branches ≤ free_cell_count z a 0 → entries ≤ free_cell_count z a 1 → Gives a (update_by z a e u) 0
  fits_gives g lb ln =
      on_slot z a e u lacks g
      (λ s q h w.
      let C = (P g.0).counted w in
      let fb : u.branches ≤ free_cell_count z a 0 = rw C.branches_are lb in
      let fn : u.entries ≤ free_cell_count z a 1 = rw C.entries_are ln in
      Gives-taking (update_At z a e u h w s (room_at z a _ _ s q fb fn) ∙ (C.done s q fb fn).1))

  row_holds : (n : ℕ) × UpdateWhen z a e Lacks branches entries n
  row_holds =
      by_tests z a e u lacks
      (λ n. (5, n))
      (λ w. (6, w))
      (λ w. (7, w))
      (λ s q h w g.
      ⊎_elim
      (λ l. (8, (g, l)))
      (λ b. ⊎_elim (λ l. (9, (g, b, l))) (λ l. (0, (g, b, l))) (lt? (free_cell_count z a 1) entries))
      (lt? (free_cell_count z a 0) branches))

  pub in_Numbered : Numbered a (UpdateWhen z a e Lacks branches entries) (update_by z a e u)
  in_Numbered =
      numbered
      (row (not_Held z a e u lacks)
      (row (absent z a e u lacks)
      (row (no_slot z a e u lacks)
      (row (λ w. on_counts w.0 (λ C. no_branches z a e u lacks w.0 (rw C.branches_are w.1)))
      (row
      (λ w.
      on_counts w.0
      (λ C. no_entries z a e u lacks w.0 (rw C.branches_are w.1) (rw C.entries_are w.2)))
      (row (λ w. fits_gives w.0 w.1 w.2) end))))))
      row_holds

pub update_numbered : (a : List ℕ) (e : ℕ) (u : Shape → Update) (Lacks : Shape → Type 0) (branches entries : Shape → ℕ)
    → ((z : Shape) → Header a z → Held z a e → Planned z a (u z) (Lacks z) (branches z) (entries z))
    → HeaderNumbered a a (λ z. UpdateWhen z a e (Lacks z) (branches z) (entries z)) (update_of a e u)
update_numbered a e u Lacks branches entries P =
    right_Numbered a a (λ o. o) _ _ _ refl (λ z w. w) (λ z right. in_Numbered z a e (u z) (P z right))
