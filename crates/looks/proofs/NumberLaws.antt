-- Which number size, in use, get, list and equal give: document 01's table holds of the definitions of specs/Calls.antt, on any
-- words.
use Rattle.std.proofs.Common.{◌≡◌, ℕ, ◌<◌, ◌≤◌, ◌⊎◌, ◌↔◌, List, length, refl, ap, ◌∙◌, inl, inr, ⊎_elim, arith}
use Rattle.cases.proofs.Cases.{Tri, is_less, is_equal, is_more, lt?, tri}
use Rattle.layout.specs.declared.Shape.{Shape}
use Rattle.layout.specs.Header.{Header}
use Rattle.trie.specs.Entry.{Got, absent, got}
use Rattle.lookup.specs.Lookup.{get_below}
use Rattle.iter.specs.Met.{met}
use Rattle.cells.proofs.SlotLaws.{held_is}
use Rattle.replies.specs.declared.Refusal.TheVariants as Why
use Rattle.looks.specs.Calls.{size_word, size_of, root_word, value_found, get_in, get_of, list_from, list_in, list_of, equal_of, in_use_of}
use Rattle.looks.proofs.ReadLaws.{size_held, size_not_held}
use Rattle.looks.proofs.LookLaws.{get_held, get_not_held, list_held, list_not_held, list_beyond, list_end, list_short, list_written, equal_held, equal_first_not_held, equal_second_not_held}
use Rattle.replies.proofs.Tables.{End, HeaderNumbered, Held, Row, by_Held, end, Gives-done, Gives-refusal, header_numbered, not_Held-Gives, numbered, read, row}

-- SIZE
abbrev pub SizeWhen : List ℕ → ℕ → Shape → ℕ → Type 0
SizeWhen a e z = Row 5 (Held z a e → ⊥) (Row 0 (Held z a e) End)

pub size_numbered : (a : List ℕ) (e : ℕ) → HeaderNumbered a a (SizeWhen a e) (read a (size_of a e))
size_numbered a e =
    header_numbered a a (read a) (SizeWhen a e) _ _ refl (λ z w. w)
    (λ z.
    numbered
    (row (not_Held-Gives z a a e _ (λ q. ap (read a) (size_not_held z a e q)))
    (row (λ h. Gives-done (ap (read a) (size_held z a e (held_is z a e h.0 h.1)))) end))
    (by_Held z a e (λ q h. (0, h)) (λ q n. (5, n))))

-- IN USE
pub in_use_numbered : (a : List ℕ) → HeaderNumbered a a (λ z. Row 0 Unit End) (read a (in_use_of a))
in_use_numbered a =
    header_numbered a a (read a) (λ z. Row 0 Unit End) _ _ refl (λ z w. w)
    (λ z. numbered (row (λ w. Gives-done refl) end) (0, tt))

pub in_use_done : (a : List ℕ) → ((in_use_of a).number ≡ 0) ↔ ((z : Shape) × Header a z)
in_use_done a = let N = in_use_numbered a in (λ e. N.right (λ q. omega arith), λ w. (N.exactly w.0 w.1 0).1 tt)

-- GET. 6: "get, change, remove: key not there"
module _ (a : List ℕ) (e h k : ℕ) where
  -- what a lookup finds below the edition's root
  abbrev pub looked_up : Shape → Got
  looked_up z = get_below z a (root_word z a e) h k

  abbrev pub GetWhen : Shape → ℕ → Type 0
  GetWhen z =
      Row 5 (Held z a e → ⊥)
      (Row 6 (Held z a e × (looked_up z ≡ absent)) (Row 0 (Held z a e × ((v : ℕ) × (looked_up z ≡ got v))) End))

  get_row : (z : Shape) → Held z a e → (y : Got) → looked_up z ≡ y → (n : ℕ) × GetWhen z n
  get_row z w absent q = (6, (w, q))
  get_row z w (got v) q = (0, (w, (v, q)))

  pub get_numbered : HeaderNumbered a a GetWhen (read a (get_of a e h k))
  get_numbered =
      header_numbered a a (read a) GetWhen _ _ refl (λ z w. w)
      (λ z.
      let held : Held z a e → (y : Got) → looked_up z ≡ y → read a (get_in z a e h k) ≡ read a (value_found y)
      = λ w y q. ap (read a) (get_held z a e h k (held_is z a e w.0 w.1) ∙ ap value_found q) in
      numbered
      (row (not_Held-Gives z a a e _ (λ q. ap (read a) (get_not_held z a e h k q)))
      (row (λ w. Gives-refusal Why.Absent (held w.0 absent w.1))
      (row (λ w. Gives-done (held w.0 (got w.1.0) w.1.1)) end)))
      (by_Held z a e (λ q w. get_row z w (looked_up z) refl) (λ q n. (5, n))))

-- LIST. "listing 11, then 10": "place above size", "room under 3 words, place below size". What it leaves is the output.
module _ (a : List ℕ) (e place : ℕ) (out : List ℕ) where
  abbrev pub ListWhen : Shape → ℕ → Type 0
  ListWhen z =
      Row 5 (Held z a e → ⊥)
      (Row 11 (Held z a e × (size_word z a e < place))
      (Row 10 (Held z a e × (place < size_word z a e) × (length out < 3))
      (Row 0 (Held z a e × (place ≤ size_word z a e) × (place < size_word z a e → 3 ≤ length out)) End)))

  list_row : (z : Shape) → Held z a e → Tri place (size_word z a e) → (n : ℕ) × ListWhen z n
  list_row z w (is_less l) =
      ⊎_elim (λ s. (10, (w, l, s))) (λ s. (0, (w, omega arith, λ m. s))) (lt? (length out) 3)
  list_row z w (is_equal q) = (0, (w, omega arith, λ l. absurd (omega arith)))
  list_row z w (is_more l) = (11, (w, l))

  pub list_numbered : HeaderNumbered a out ListWhen (list_of a e place out)
  list_numbered =
      header_numbered a out (λ o. o) ListWhen _ _ refl (λ z w. w)
      (λ z.
      let n = size_word z a e in
      let es = met z a (root_word z a e) in
      let held : Held z a e → list_in z a e place out ≡ list_from n es place out
      = λ w. list_held z a e place out (held_is z a e w.0 w.1) in
      numbered
      (row (not_Held-Gives z a out e _ (list_not_held z a e place out))
      (row (λ w. Gives-refusal Why.BeyondTheEnd (held w.0 ∙ list_beyond n es place out w.1))
      (row (λ w. Gives-refusal Why.OutputTooShort (held w.0 ∙ list_short n es place out w.1 w.2))
      (row
      (λ w.
      ⊎_elim
      (λ l. Gives-done (held w.0 ∙ list_written n es place out l (w.2 l)))
      (λ l. Gives-done (held w.0 ∙ list_end n es place out (omega (arith, w.1))))
      (lt? place n))
      end))))
      (by_Held z a e (λ q w. list_row z w (tri place n)) (λ q n. (5, n))))

-- EQUAL. 5 of either edition
module _ (a : List ℕ) (e f : ℕ) where
  abbrev pub EqualWhen : Shape → ℕ → Type 0
  EqualWhen z = Row 5 ((Held z a e → ⊥) ⊎ (Held z a f → ⊥)) (Row 0 (Held z a e × Held z a f) End)

  pub equal_numbered : HeaderNumbered a a EqualWhen (read a (equal_of a e f))
  equal_numbered =
      header_numbered a a (read a) EqualWhen _ _ refl (λ z w. w)
      (λ z.
      numbered
      (row
      (⊎_elim
      (not_Held-Gives z a a e _ (λ q. ap (read a) (equal_first_not_held z a e f q)))
      (not_Held-Gives z a a f _ (λ q. ap (read a) (equal_second_not_held z a e f q))))
      (row
      (λ (v, w). Gives-done (ap (read a) (equal_held z a e f (held_is z a e v.0 v.1) (held_is z a f w.0 w.1)))) end))
      (by_Held z a e (λ q v. by_Held z a f (λ r w. (0, (v, w))) (λ r n. (5, inr n))) (λ q n. (5, inl n))))
