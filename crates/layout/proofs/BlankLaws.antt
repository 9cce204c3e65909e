-- Where the words of a formatted arena lie: each part begins where the parts before it end, so that a word is found by going
-- past them. Every word of a slot or a cell is 0 but the next free references.
use Prim.Native.Nat.{ℕ, zero, suc, ◌+◌, ◌-◌, ◌*◌, ◌≤◌, ◌<◌}
use mathlib.Core.Path.{◌≡◌, refl, sym, ap, ◌∙◌}
use mathlib.Core.Bool.{true, cond}
use mathlib.Core.List.{List, ◌++◌, append_assoc}
use mathlib.Core.Logic.{⊎_elim}
use native.Mathlib.Nat.{add-zero, suc-mul}
use native.Mathlib.Omega.{arith}
use lib.Dec.{eqb}
use lib.ListN.{length, get_or, drop}
use lib.Seq.{get_or-append-add, get_or-drop, length-sets}
use borrow.Author.Tests.{eq-eqb, ne_eqb}
use Rattle.cases.proofs.Cases.{split, eq?, lt?}
use Rattle.layout.specs.declared.Shape.{Shape}
use Rattle.layout.specs.Layout.{reference, kind_of, cell_of, width_of, cells_of, header_words, branches_at, entries_at, total, cells_at, slot_at, word_at, names, has, Allowed}
use Rattle.layout.specs.Blank.{zeros, free_cell_words, header, blank}
use Rattle.layout.specs.Columns.{word_of_slot, word}
use Rattle.layout.specs.Header.{Header}
use Rattle.layout.proofs.OffsetLaws.{place_lt, names_is, has_says, width_branch, width_entry}
use Rattle.layout.proofs.StoreLaws.{word_in, word_out, slot_in, slot_out}
use Rattle.layout.proofs.ColumnLaws.{has_low}
use Rattle.layout.proofs.WriteLaws.{zeros-length, cells_length, all, all_stored}

-- WORDS OF A LIST
past : (xs ys : List ℕ) (n m i : ℕ) → length xs ≡ n → i ≡ n + m → get_or (xs ++ ys) i 0 ≡ get_or ys m 0
past xs ys n m i long e = rw (e, ← long) (get_or-append-add xs ys m 0)

zeros_word : (n i : ℕ) (t : List ℕ) → i < n → get_or (zeros n ++ t) i 0 ≡ 0
unfolding zeros
zeros_word zero i t l = absurd (omega arith)
zeros_word (suc n) zero t l = refl
zeros_word (suc n) (suc i) t l = zeros_word n i t (omega arith)

module _ (k w : ℕ) (t : List ℕ) where
  -- the words of a cell, and of those behind it
  first_rest : (i n p : ℕ) → p < 2 + w → (p ≡ 1 → ⊥) → get_or (free_cell_words k w i (suc n) ++ t) p 0 ≡ 0
  unfolding free_cell_words
  first_rest i n zero l ne = refl
  first_rest i n (suc zero) l ne = absurd (ne refl)
  first_rest i n (suc (suc p)) l ne =
      ap (λ (x : List ℕ). get_or x p 0) (append_assoc (zeros w) (free_cell_words k w (suc i) n) t)
      ∙ zeros_word w p (free_cell_words k w (suc i) n ++ t) (omega arith)

  first_mark : (i n : ℕ) → get_or (free_cell_words k w i (suc n) ++ t) 1 0 ≡ cond (eqb n 0) 0 (reference k (suc i))
  unfolding free_cell_words
  first_mark i n = refl

  first_past : (i n p q : ℕ) → q ≡ 2 + w + p → get_or (free_cell_words k w i (suc n) ++ t) q 0 ≡ get_or (free_cell_words k w (suc i) n ++ t) p 0
  unfolding free_cell_words
  first_past i n p zero e = absurd (omega arith)
  first_past i n p (suc zero) e = absurd (omega arith)
  first_past i n p (suc (suc q)) e =
      ap (λ (x : List ℕ). get_or x q 0) (append_assoc (zeros w) (free_cell_words k w (suc i) n) t)
      ∙ past (zeros w) (free_cell_words k w (suc i) n ++ t) w p q (zeros-length w) (omega arith)

  cells_past : (c i n p : ℕ) → c ≤ n
      → get_or (free_cell_words k w i n ++ t) (c * (2 + w) + p) 0 ≡ get_or (free_cell_words k w (i + c) (n - c) ++ t) p 0
  cells_past zero i n p l =
      let e : 0 * (2 + w) + p ≡ p = omega arith in
      let m : n - 0 ≡ n = omega arith in
      rw (e, m, add-zero i)
  cells_past (suc c) i zero p l = absurd (omega arith)
  cells_past (suc c) i (suc n) p l =
      let e : suc i + c ≡ i + suc c = omega arith in
      let m : n - c ≡ suc n - suc c = omega arith in
      first_past i n (c * (2 + w) + p) _ (omega (arith, suc-mul c (2 + w)))
      ∙ cells_past c (suc i) n p (omega arith)
      ∙ rw (e, m)

two_wide : (z : Shape) (k : ℕ) → 2 + (width_of z k - 2) ≡ width_of z k
two_wide z k =
    ⊎_elim (λ e. omega (arith, width_branch z k e)) (λ ne. omega (arith, width_entry z k ne)) (eq? k 0)

module _ (z : Shape) (a : List ℕ) where
  -- PARTS. What stands behind the entry cells, behind the branch cells, and behind the slots.
  abbrev beyond : List ℕ
  beyond = drop (total z) a

  abbrev from_entries : List ℕ
  from_entries = free_cell_words 1 4 0 z.entries ++ beyond

  abbrev from_branches : List ℕ
  from_branches = free_cell_words 0 (1 + z.degree) 0 z.branches ++ from_entries

  abbrev from_slots : List ℕ
  from_slots = zeros (z.stride * z.slots) ++ from_branches

  in_slots : (i q : ℕ) → i ≡ header_words + q → get_or (blank z a) i 0 ≡ get_or from_slots q 0
  unfolding blank
  in_slots i q e = past (header z) from_slots header_words q i refl e

  in_branches : (i q : ℕ) → i ≡ branches_at z + q → get_or (blank z a) i 0 ≡ get_or from_branches q 0
  in_branches i q e =
      in_slots i (z.stride * z.slots + q) (omega arith)
      ∙ past (zeros (z.stride * z.slots)) from_branches (z.stride * z.slots) q _ (zeros-length (z.stride * z.slots)) refl

  in_entries : (i q : ℕ) → i ≡ entries_at z + q → get_or (blank z a) i 0 ≡ get_or from_entries q 0
  in_entries i q e =
      in_branches i (z.branches * (3 + z.degree) + q) (omega arith)
      ∙ past (free_cell_words 0 (1 + z.degree) 0 z.branches) from_entries (z.branches * (2 + (1 + z.degree))) q _
      (cells_length 0 (1 + z.degree) 0 z.branches) (omega arith)

  -- what lies beyond the arena stays
  pub blank_beyond : (i : ℕ) → total z ≤ i → get_or (blank z a) i 0 ≡ get_or a i 0
  blank_beyond i l =
      let e : total z + (i - total z) ≡ i = omega arith in
      in_entries i (6 * z.entries + (i - total z)) (omega arith)
      ∙ past (free_cell_words 1 4 0 z.entries) beyond (z.entries * (2 + 4)) (i - total z) _ (cells_length 1 4 0 z.entries) (omega arith)
      ∙ get_or-drop (total z) a (i - total z) 0
      ∙ ap (λ (x : ℕ). get_or a x 0) e

  pub blank-length : total z ≤ length a → length (blank z a) ≡ length a
  blank-length long = ap length (sym (all_stored z a long)) ∙ length-sets a 0 (all z)

  -- SLOTS
  pub blank_slot : (s p : ℕ) → p < z.stride → word_of_slot z (blank z a) s p ≡ 0
  unfolding slot_at
  blank_slot s p lp =
      ⊎_elim
      (λ l.
      slot_in z (blank z a) s p l
      ∙ in_slots (slot_at z s p) (s * z.stride + p) (omega arith)
      ∙ zeros_word (z.stride * z.slots) (s * z.stride + p) from_branches (omega (arith, place_lt z.stride z.slots s p l lp)))
      (λ l. slot_out z (blank z a) s p l)
      (lt? s z.slots)

  -- CELLS
  behind_cells : ℕ → List ℕ
  behind_cells k = cond (eqb k 0) from_entries beyond

  in_cells : (k i q : ℕ) → k < 2 → i ≡ cells_at z k + q
      → get_or (blank z a) i 0 ≡ get_or (free_cell_words k (width_of z k - 2) 0 (cells_of z k) ++ behind_cells k) q 0
  unfolding behind_cells cells_at width_of cells_of
  in_cells zero i q l e =
      let w : 3 + z.degree - 2 ≡ 1 + z.degree = omega arith in
      rw w (in_branches i q e)
  in_cells (suc zero) i q l e = in_entries i q e
  in_cells (suc (suc k)) i q l e = absurd (omega arith)

  -- cell c of its kind, with the cells behind it
  from_cell : ℕ → ℕ → List ℕ
  from_cell k c = free_cell_words k (width_of z k - 2) c (suc (cells_of z k - suc c)) ++ behind_cells k

  to_cell : (k c p : ℕ) → c < cells_of z k
      → get_or (free_cell_words k (width_of z k - 2) 0 (cells_of z k) ++ behind_cells k) (c * width_of z k + p) 0 ≡ get_or (from_cell k c) p 0
  unfolding from_cell
  to_cell k c p l =
      let e : 0 + c ≡ c = omega arith in
      let m : cells_of z k - c ≡ suc (cells_of z k - suc c) = omega arith in
      ap (λ (w : ℕ). get_or (free_cell_words k (width_of z k - 2) 0 (cells_of z k) ++ behind_cells k) (c * w + p) 0) (sym (two_wide z k))
      ∙ cells_past k (width_of z k - 2) (behind_cells k) c 0 (cells_of z k) p (omega arith)
      ∙ rw (e, m)

  in_cell : (r p : ℕ) → has z r p ≡ true → word z (blank z a) r p ≡ get_or (from_cell (kind_of r) (cell_of r)) p 0
  unfolding word_at
  in_cell r p h =
      word_in z (blank z a) r p h
      ∙ in_cells (kind_of r) (word_at z r p) (cell_of r * width_of z (kind_of r) + p) (omega arith) (omega arith)
      ∙ to_cell (kind_of r) (cell_of r) p (has_says z r p h).cell.number

  -- every word of a cell but the second is 0
  pub blank_rest : (r p : ℕ) → (p ≡ 1 → ⊥) → word z (blank z a) r p ≡ 0
  unfolding from_cell
  blank_rest r p ne =
      split (has z r p)
      (λ h.
      in_cell r p h
      ∙ first_rest (kind_of r) (width_of z (kind_of r) - 2) (behind_cells (kind_of r)) (cell_of r) (cells_of z (kind_of r) - suc (cell_of r)) p
      (omega (arith, (has_says z r p h).place, two_wide z (kind_of r))) ne)
      (λ h. word_out z (blank z a) r p h)

  -- the second is the reference of the next cell, and 0 in the last
  blank_mark : (r : ℕ) → names z r ≡ true
      → word z (blank z a) r 1 ≡ cond (eqb (cells_of z (kind_of r) - suc (cell_of r)) 0) 0 (reference (kind_of r) (suc (cell_of r)))
  unfolding from_cell
  blank_mark r h =
      in_cell r 1 (has_low z r 1 h (omega arith))
      ∙ first_mark (kind_of r) (width_of z (kind_of r) - 2) (behind_cells (kind_of r)) (cell_of r) (cells_of z (kind_of r) - suc (cell_of r))

  module _ (k c : ℕ) (lk : k < 2) where
    kind_is : kind_of (reference k c) ≡ k
    kind_is = omega arith

    cell_is : cell_of (reference k c) ≡ c
    cell_is = omega arith

    mark_of : c < cells_of z k → word z (blank z a) (reference k c) 1 ≡ cond (eqb (cells_of z k - suc c) 0) 0 (reference k (suc c))
    mark_of l =
        let r = reference k c in
        let n : cell_of r < cells_of z (kind_of r) = rw (kind_is, cell_is) l in
        rw (kind_is, cell_is) at (blank_mark r (names_is z r (record { low = omega arith; number = n })))

    pub blank_next : suc c < cells_of z k → word z (blank z a) (reference k c) 1 ≡ reference k (suc c)
    blank_next l = mark_of (omega arith) ∙ rw (ne_eqb (cells_of z k - suc c) 0 (λ e. omega arith))

    pub blank_last : suc c ≡ cells_of z k → word z (blank z a) (reference k c) 1 ≡ 0
    blank_last e =
        let none : cells_of z k - suc c ≡ 0 = omega arith in
        mark_of (omega arith) ∙ rw (eq-eqb (cells_of z k - suc c) 0 none)

  -- THE HEADER, words 0 to 7 and then 8 to 11
  pub blank_right : Allowed z → z.stride ≡ 3 → total z ≤ length a → Header (blank z a) z
  unfolding blank
  blank_right w e long =
      record {
        allowed = w;
        three = e;
        word_0 = refl;
        word_1 = refl;
        word_2 = refl;
        word_3 = refl;
        word_4 = refl;
        word_5 = refl;
        word_6 = refl;
        word_7 = refl;
        long = omega (arith, blank-length long);
      }

  pub blank_first : (k : ℕ) → k < 2 → get_or (blank z a) (8 + k) 0 ≡ reference k 0
  unfolding blank
  blank_first zero l = refl
  blank_first (suc zero) l = refl
  blank_first (suc (suc k)) l = absurd (omega arith)

  pub blank_used : (k : ℕ) → k < 2 → get_or (blank z a) (10 + k) 0 ≡ 0
  unfolding blank
  blank_used zero l = refl
  blank_used (suc zero) l = refl
  blank_used (suc (suc k)) l = absurd (omega arith)
