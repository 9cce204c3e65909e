-- Which number format, new edition and share give: document 01's table holds of the definitions of specs/Calls.antt, on any words.
use Rattle.std.proofs.Common.{◌≡◌, ℕ, ◌<◌, ◌≤◌, false, List, length, Some, None, Ok, Err, Option, refl, ⊎_elim, arith}
use Rattle.cases.proofs.Cases.{split, lt?}
use Rattle.segments.specs.Segments.{row_of}
use Rattle.layout.specs.declared.Shape.{Shape}
use Rattle.layout.specs.Layout.{total}
use Rattle.layout.specs.Header.{are_sizes_fit, shape, shape_of}
use Rattle.layout.proofs.HeaderLaws.{shape-Fits, shape_sizes, shape_degree}
use Rattle.cells.specs.Slots.{free_slot}
use Rattle.cells.proofs.SlotLaws.{held_is}
use Rattle.replies.specs.declared.Refusal.TheVariants as Why
use Rattle.replies.specs.Answers.{refused, done}
use Rattle.replies.specs.Outcomes.{Outcome, leaves}
use Rattle.makes.specs.Calls.{format_of, new_to, new_edition_in, new_edition_of, share_to, held_shared, share_in, share_of}
use Rattle.makes.proofs.FormatLaws.{format_done, format_short, format_degree, format_sizes}
use Rattle.makes.proofs.EditionLaws.{new_At, new_none, share_At, share_NoneFree, held_shared_lem, share_not_held}
use Rattle.replies.proofs.Tables.{AllHeld, End, Gives, HeaderNumbered, Held, Numbered, Row, by_free, by_Held, end, Gives-done, Gives-refusal, header_numbered, not_Held-Gives, numbered, row}
use Rattle.layout.specs.declared.Misfit.TheVariants.{BadSizes}
use Rattle.segments.specs.declared.DegreeRow.{DegreeRow}

-- FORMAT
module _ (a : List ℕ) (g b n s : ℕ) where
  abbrev pub FormatWhen : ℕ → Type 0
  FormatWhen =
      Row 1 (row_of g ≡ None)
      (Row 2 ((row_of g ≡ None → ⊥) × (are_sizes_fit b n s ≡ false))
      (Row 3 ((z : Shape) × (shape_of g b n s ≡ Ok z) × (length a < total z))
      (Row 0 ((z : Shape) × (shape_of g b n s ≡ Ok z) × (total z ≤ length a)) End)))

  shape_BadSizes : (o : Option DegreeRow) → row_of g ≡ o → (row_of g ≡ None → ⊥) → are_sizes_fit b n s ≡ false → shape_of g b n s ≡ Err BadSizes
  shape_BadSizes (Some x) r ne f = shape_sizes g b n s x.bits x.depths x.last r f
  shape_BadSizes None r ne f = absurd (ne r)

  format_row : (o : Option DegreeRow) → row_of g ≡ o → (k : ℕ) × FormatWhen k
  format_row None r = (1, r)
  format_row (Some x) r =
      let z = shape g x.bits x.depths b n s in
      split (are_sizes_fit b n s)
      (λ f.
      let e = shape-Fits g b n s x.bits x.depths x.last r f in
      ⊎_elim (λ l. (3, (z, e, l))) (λ l. (0, (z, e, l))) (lt? (length a) (total z)))
      (λ f. (2, (λ q. let m : ◌≡◌ {A = ℕ} 0 1 = cc in omega arith, f)))

  pub format_Numbered : Numbered a FormatWhen (format_of a g b n s)
  format_Numbered =
      numbered
      (row (λ e. Gives-refusal Why.BadDegree (format_degree a _ (shape_degree g b n s e)))
      (row (λ w. Gives-refusal Why.BadSizes (format_sizes a _ (shape_BadSizes (row_of g) refl w.0 w.1)))
      (row (λ w. Gives-refusal Why.SliceTooShort (format_short a _ w.0 w.1 w.2))
      (row (λ w. Gives-done (format_done a _ w.0 w.1 w.2)) end))))
      (format_row (row_of g) refl)

-- 7 or done, where an edition is put in the lowest free slot
put_Gives : (z : Shape) (a : List ℕ) (o : Outcome) (b : ℕ → List ℕ) → (free_slot z a ≡ None → o ≡ leaves (refused Why.NoSlot) a)
    → ((s : ℕ) → free_slot z a ≡ Some s → o ≡ leaves (done s 0) (b s)) → (AllHeld z a → Gives a o 7) × ((AllHeld z a → ⊥) → Gives a o 0)
put_Gives z a o b none at = (
  λ all. by_free z a (λ q v. Gives-refusal Why.NoSlot (none q)) (λ s q n. absurd (n all)),
  λ some. by_free z a (λ q v. absurd (some v)) (λ s q n. Gives-done (at s q)),
)

-- NEW EDITION
abbrev pub NewWhen : List ℕ → Shape → ℕ → Type 0
NewWhen a z = Row 7 (AllHeld z a) (Row 0 (AllHeld z a → ⊥) End)

pub new_numbered : (a : List ℕ) → HeaderNumbered a a (NewWhen a) (new_edition_of a)
new_numbered a =
    header_numbered a a (λ o. o) (NewWhen a) _ _ refl (λ z w. w)
    (λ z.
    let p = put_Gives z a (new_edition_in z a) (new_to z a) (new_none z a) (new_At z a) in
    numbered (row p.0 (row p.1 end)) (by_free z a (λ q v. (7, v)) (λ s q n. (0, n))))

-- SHARE
abbrev pub ShareWhen : List ℕ → ℕ → Shape → ℕ → Type 0
ShareWhen a e z =
    Row 5 (Held z a e → ⊥) (Row 7 (Held z a e × AllHeld z a) (Row 0 (Held z a e × (AllHeld z a → ⊥)) End))

pub share_numbered : (a : List ℕ) (e : ℕ) → HeaderNumbered a a (ShareWhen a e) (share_of a e)
share_numbered a e =
    header_numbered a a (λ o. o) (ShareWhen a e) _ _ refl (λ z w. w)
    (λ z.
    let held : Held z a e → share_in z a e ≡ held_shared z a e = λ h. held_shared_lem z a e (held_is z a e h.0 h.1) in
    let p = put_Gives z a (held_shared z a e) (share_to z a e) (share_NoneFree z a e) (share_At z a e) in
    numbered
    (row (not_Held-Gives z a a e _ (share_not_held z a e))
    (row (λ w. rw (held w.0) (p.0 w.1)) (row (λ w. rw (held w.0) (p.1 w.1)) end)))
    (by_Held z a e (λ q h. by_free z a (λ r v. (7, (h, v))) (λ s r n. (0, (h, n)))) (λ q n. (5, n))))
