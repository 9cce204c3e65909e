-- Every word of an arena is one of the header, of a slot or of a cell, or lies beyond the total. So arenas whose slots and cells agree
-- are alike.
use Prim.Native.Nat.{ℕ, zero, suc, ◌+◌, ◌-◌, ◌*◌, ◌≤◌, ◌<◌}
use mathlib.Core.Path.{◌≡◌, refl, sym, ◌∙◌}
use mathlib.Core.Bool.{true}
use mathlib.Core.List.{List}
use mathlib.Core.Logic.{◌⊎◌, inl, inr, ⊎_elim}
use native.Mathlib.Nat.{suc-mul}
use native.Mathlib.Omega.{arith}
use lib.ListN.{length, get_or}
use Rattle.cases.proofs.Cases.{eq?, lt?}
use Rattle.layout.specs.declared.Shape.{Shape}
use Rattle.layout.specs.Layout.{reference, kind_of, cell_of, width_of, cells_of, branches_at, entries_at, total, cells_at, slot_at, word_at, names, has}
use Rattle.layout.specs.Header.{Header}
use Rattle.layout.specs.Columns.{word_of_slot, word, kids_of, kid_place, plains_of, plain_place, refs, columns}
use Rattle.layout.proofs.OffsetLaws.{names_is, has_says, has_is, at_branch, at_entry, cells_branch, cells_entry, width_branch, width_entry}
use Rattle.layout.proofs.StoreLaws.{word_in, slot_in, kind_in}
use Rattle.layout.proofs.ColumnLaws.{kid_in, plain_in, kids_branch, kids_entry}
use Rattle.settled.specs.Alike.{Open, first_free, next_free, Alike}
use Rattle.settled.proofs.SameCells.{SameCells}

-- ROWS. A word before the end of n rows of width w is in one of them.
record Row (w n j : ℕ) : Type 0 where
  row : ℕ
  place : ℕ
  row_lt : row < n
  place_lt : place < w
  found : j ≡ row * w + place

row_of : (w n j : ℕ) → j < n * w → Row w n j
row_of w zero j l = absurd (omega arith)
row_of w (suc n) j l =
    ⊎_elim
    (λ l'.
    let q = row_of w n j l' in
    record { row = q.row; place = q.place; row_lt = omega (arith, q.row_lt); place_lt = q.place_lt; found = q.found })
    (λ g.
    record { row = n; place = j - n * w; row_lt = omega arith; place_lt = omega (arith, suc-mul n w); found = omega arith })
    (lt? j (n * w))

-- THE COVER
data Word (z : Shape) : ℕ → Type 0 where
  heading : (j : ℕ) → j < 8 → Word z j
  first_word : (k : ℕ) → k < 2 → Word z (8 + k)
  used_word : (k : ℕ) → k < 2 → Word z (10 + k)
  slot_word : (s p : ℕ) → s < z.slots → p < 3 → Word z (slot_at z s p)
  cell_word : (r p : ℕ) → has z r p ≡ true → Word z (word_at z r p)
  beyond : (j : ℕ) → total z ≤ j → Word z j

module _ (z : Shape) where
  slot_cover : z.stride ≡ 3 → (j : ℕ) → 12 ≤ j → j < branches_at z → Word z j
  unfolding slot_at
  slot_cover three j g l =
      let q = row_of z.stride z.slots (j - 12) (omega arith) in
      let e : j ≡ slot_at z q.row q.place = omega (arith, q.found) in
      rw e (slot_word q.row q.place q.row_lt (omega (arith, q.place_lt)))

  cell_cover : (k j : ℕ) → k < 2 → cells_at z k ≤ j → j < cells_at z k + cells_of z k * width_of z k → Word z j
  unfolding word_at
  cell_cover k j lk g l =
      let q = row_of (width_of z k) (cells_of z k) (j - cells_at z k) (omega arith) in
      let r : ℕ = reference k q.row in
      let ek : kind_of r ≡ k = omega arith in
      let ec : cell_of r ≡ q.row = omega arith in
      let e : j ≡ word_at z r q.place = rw (ek, ec) (omega (arith, q.found)) in
      rw e
      (cell_word r q.place
      (has_is z r q.place (record { low = omega arith; number = rw (ek, ec) q.row_lt }) (rw ek q.place_lt)))

  head_cover : (j : ℕ) → j < 12 → Word z j
  head_cover j l = by (lt? j 8) (lt? j 10)
    where
      by : (j < 8) ⊎ (8 ≤ j) → (j < 10) ⊎ (10 ≤ j) → Word z j
      by (inl l8) _ = heading j l8
      by (inr g8) (inl l10) = let e : j ≡ 8 + (j - 8) = omega arith in rw e (first_word (j - 8) (omega arith))
      by (inr g8) (inr g10) = let e : j ≡ 10 + (j - 10) = omega arith in rw e (used_word (j - 10) (omega arith))

  cover : z.stride ≡ 3 → (j : ℕ) → Word z j
  cover three j = by (lt? j 12) (lt? j (branches_at z)) (lt? j (entries_at z)) (lt? j (total z))
    where
      one : ◌≡◌ {A = ℕ} 1 0 → ⊥
      one e = omega arith

      by : (j < 12) ⊎ (12 ≤ j) → (j < branches_at z) ⊎ (branches_at z ≤ j) → (j < entries_at z) ⊎ (entries_at z ≤ j)
          → (j < total z) ⊎ (total z ≤ j) → Word z j
      by (inl l) _ _ _ = head_cover j l
      by (inr g) (inl l) _ _ = slot_cover three j g l
      by (inr _) (inr g) (inl l) _ =
          cell_cover 0 j (omega arith) (rw (at_branch z 0 refl) g)
          (rw (at_branch z 0 refl, cells_branch z 0 refl, width_branch z 0 refl) l)
      by (inr _) (inr _) (inr g) (inl l) =
          cell_cover 1 j (omega arith) (rw (at_entry z 1 one) g)
          (rw (at_entry z 1 one, cells_entry z 1 one, width_entry z 1 one) (omega arith))
      by (inr _) (inr _) (inr _) (inr g) = beyond j g

refs_all : (z : Shape) (r : ℕ) → names z r ≡ true → refs z r ≡ kids_of z (kind_of r)
unfolding refs
refs_all z r n = rw n

-- ONE WORD
module _ (z : Shape) (a b : List ℕ) (c : SameCells z (columns z a) (columns z b)) where
  module _ (r p : ℕ) (n : names z r ≡ true) where
    same_kid : (k : ℕ) → k < kids_of z (kind_of r) → p ≡ kid_place (kind_of r) + k → word z b r p ≡ word z a r p
    same_kid k l e =
        let l' : k < refs z r = omega (arith, refs_all z r n) in
        rw e (sym (kid_in z b r k l') ∙ c.kid_eq r k n ∙ kid_in z a r k l')

    same_plain : (k : ℕ) → k < plains_of (kind_of r) → p ≡ plain_place (kind_of r) + k → word z b r p ≡ word z a r p
    same_plain k l e = rw e (sym (plain_in z b r k l) ∙ c.plain_eq r k n ∙ plain_in z a r k l)

    -- from word 2 on
    same_high : 2 ≤ p → p < width_of z (kind_of r) → word z b r p ≡ word z a r p
    same_high g l =
        ⊎_elim
        (λ k.
        ⊎_elim
        (λ e. same_plain 0 (omega arith) (omega arith))
        (λ ne. same_kid (p - 3) (omega (arith, kids_branch z (kind_of r) k, width_branch z (kind_of r) k)) (omega arith))
        (eq? p 2))
        (λ k.
        ⊎_elim
        (λ e. same_kid 0 (omega (arith, kids_entry z (kind_of r) k)) (omega arith))
        (λ ne. same_plain (p - 3) (omega (arith, width_entry z (kind_of r) k)) (omega arith))
        (eq? p 2))
        (eq? (kind_of r) 0)

    same_word : p < width_of z (kind_of r) → (p ≡ 1 → (columns z a).count r ≡ 0 → ⊥) → word z b r p ≡ word z a r p
    same_word l shut =
        ⊎_elim
        (λ e. rw e (c.count_eq r n))
        (λ n0.
        ⊎_elim
        (λ e. rw e (c.mark_eq r n (⊎_elim (λ y. absurd (shut e y)) (λ ny. omega arith) (eq? ((columns z a).count r) 0))))
        (λ n1. same_high (omega arith) l)
        (eq? p 1))
        (eq? p 0)

  same_slot : (s p : ℕ) → s < z.slots → p < 3 → word_of_slot z b s p ≡ word_of_slot z a s p
  same_slot s p ls lp =
      ⊎_elim
      (λ e. rw e (c.held_eq s ls))
      (λ n0.
      ⊎_elim
      (λ e. rw e (c.root_eq s ls))
      (λ n1. let e : p ≡ 2 = omega arith in rw e (c.size_eq s ls))
      (eq? p 1))
      (eq? p 0)

same_heading : (z : Shape) (a b : List ℕ) → Header a z → Header b z → (j : ℕ) → j < 8 → get_or b j 0 ≡ get_or a j 0
same_heading z a b h k zero l = k.word_0 ∙ sym h.word_0
same_heading z a b h k (suc zero) l = k.word_1 ∙ sym h.word_1
same_heading z a b h k (suc (suc zero)) l = k.word_2 ∙ sym h.word_2
same_heading z a b h k (suc (suc (suc zero))) l = k.word_3 ∙ sym h.word_3
same_heading z a b h k (suc (suc (suc (suc zero)))) l = k.word_4 ∙ sym h.word_4
same_heading z a b h k (suc (suc (suc (suc (suc zero))))) l = k.word_5 ∙ sym h.word_5
same_heading z a b h k (suc (suc (suc (suc (suc (suc zero)))))) l = k.word_6 ∙ sym h.word_6
same_heading z a b h k (suc (suc (suc (suc (suc (suc (suc zero))))))) l = k.word_7 ∙ sym h.word_7
same_heading z a b h k (suc (suc (suc (suc (suc (suc (suc (suc j)))))))) l = absurd (omega arith)

-- ALL WORDS
pub alike : (z : Shape) (a b : List ℕ) → Header a z → Header b z → length b ≡ length a
    → ((i : ℕ) → total z ≤ i → get_or b i 0 ≡ get_or a i 0) → SameCells z (columns z a) (columns z b) → Alike z a b
alike z a b h k e out c = record { same_length = e; same_words = λ j shut. by j (cover z h.three j) shut }
  where
    by : (j : ℕ) → Word z j → (Open z a j → ⊥) → get_or b j 0 ≡ get_or a j 0
    by _ (heading j l) shut = same_heading z a b h k j l
    by _ (first_word i l) shut = absurd (shut (first_free i l))
    by _ (used_word i l) shut = sym (kind_in b 10 i l) ∙ c.used_eq i ∙ kind_in a 10 i l
    by _ (slot_word s p ls lp) shut = sym (slot_in z b s p ls) ∙ same_slot z a b c s p ls lp ∙ slot_in z a s p ls
    by _ (cell_word r p g) shut =
        let w = has_says z r p g in
        let n : names z r ≡ true = names_is z r w.cell in
        sym (word_in z b r p g)
        ∙ same_word z a b c r p n w.place (λ e' y. shut (rw e' (next_free r n y)))
        ∙ word_in z a r p g
    by _ (beyond j l) shut = out j l

pub alike_refl : (z : Shape) (a : List ℕ) → Alike z a a
alike_refl z a = record { same_length = refl; same_words = λ j shut. refl }
