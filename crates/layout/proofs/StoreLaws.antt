-- A store is seen at its own word and at no other, since no other word has its offset.
use Prim.Native.Nat.{ℕ, ◌+◌, ◌≤◌, ◌<◌}
use mathlib.Core.Path.{◌≡◌, sym, ◌∙◌}
use mathlib.Core.Bool.{true, false}
use mathlib.Core.List.{List}
use mathlib.Core.Logic.{⊎_elim}
use native.Mathlib.Omega.{arith}
use lib.ListN.{length, get_or, set}
use lib.Seq.{get_or-set_same, get_or-set_other}
use borrow.Author.Tests.{lt-ltb, le-ltb}
use Rattle.cases.proofs.Cases.{split, lt?}
use Rattle.layout.specs.declared.Shape.{Shape}
use Rattle.layout.specs.Layout.{header_words, total, slot_at, word_at, has}
use Rattle.layout.specs.Columns.{word_of_slot, word, by_kind, word_set, slot_word_set}
use Rattle.layout.proofs.OffsetLaws.{slot_inside, slot_once, word_inside, word_once}

-- READS. What is inside is read, and all else is 0.
module _ (z : Shape) (a : List ℕ) where
  pub word_in : (r p : ℕ) → has z r p ≡ true → word z a r p ≡ get_or a (word_at z r p) 0
  unfolding word
  word_in r p h = rw h

  pub word_out : (r p : ℕ) → has z r p ≡ false → word z a r p ≡ 0
  unfolding word
  word_out r p h = rw h

  pub slot_in : (s p : ℕ) → s < z.slots → word_of_slot z a s p ≡ get_or a (slot_at z s p) 0
  unfolding word_of_slot
  slot_in s p l = rw (lt-ltb s z.slots l)

  pub slot_out : (s p : ℕ) → z.slots ≤ s → word_of_slot z a s p ≡ 0
  unfolding word_of_slot
  slot_out s p l = rw (le-ltb s z.slots l)

pub kind_in : (a : List ℕ) (base k : ℕ) → k < 2 → by_kind a base k ≡ get_or a (base + k) 0
unfolding by_kind
kind_in a base k l = rw (lt-ltb k 2 l)

pub kind_out : (a : List ℕ) (base k : ℕ) → 2 ≤ k → by_kind a base k ≡ 0
unfolding by_kind
kind_out a base k l = rw (le-ltb k 2 l)

-- A WORD OF A CELL
module _ (z : Shape) (a : List ℕ) (long : total z ≤ length a) (r p v : ℕ) (h : has z r p ≡ true) where
  abbrev b : List ℕ
  b = word_set z a r p v

  pub word_stored : word z (word_set z a r p v) r p ≡ v
  word_stored = word_in z b r p h ∙ get_or-set_same a (word_at z r p) v 0 (omega (arith, word_inside z r p h))

  pub word_beside : (q k : ℕ) → ((q ≡ r) × (k ≡ p) → ⊥) → word z (word_set z a r p v) q k ≡ word z a q k
  word_beside q k ne =
      split (has z q k)
      (λ g.
      word_in z b q k g
      ∙ get_or-set_other a (word_at z r p) (word_at z q k) v 0 (λ i. ne (word_once z q k r p g h i))
      ∙ sym (word_in z a q k g))
      (λ g. word_out z b q k g ∙ sym (word_out z a q k g))

  pub slot_beside_word : (s k : ℕ) → k < z.stride → word_of_slot z (word_set z a r p v) s k ≡ word_of_slot z a s k
  slot_beside_word s k lk =
      ⊎_elim
      (λ l.
      slot_in z b s k l
      ∙ get_or-set_other a (word_at z r p) (slot_at z s k) v 0
      (λ i. omega (arith, word_inside z r p h, slot_inside z s k l lk))
      ∙ sym (slot_in z a s k l))
      (λ l. slot_out z b s k l ∙ sym (slot_out z a s k l))
      (lt? s z.slots)

  pub header_beside_word : (i : ℕ) → i < header_words → get_or (word_set z a r p v) i 0 ≡ get_or a i 0
  header_beside_word i l = get_or-set_other a (word_at z r p) i v 0 (λ e. omega (arith, word_inside z r p h))

-- A WORD OF A SLOT
module _ (z : Shape) (a : List ℕ) (long : total z ≤ length a) (s p v : ℕ) (ls : s < z.slots) (lp : p < z.stride) where
  abbrev b' : List ℕ
  b' = slot_word_set z a s p v

  pub slot_stored : word_of_slot z (slot_word_set z a s p v) s p ≡ v
  slot_stored = slot_in z b' s p ls ∙ get_or-set_same a (slot_at z s p) v 0 (omega (arith, slot_inside z s p ls lp))

  pub slot_beside : (q k : ℕ) → k < z.stride → ((q ≡ s) × (k ≡ p) → ⊥) → word_of_slot z (slot_word_set z a s p v) q k ≡ word_of_slot z a q k
  slot_beside q k lk ne =
      ⊎_elim
      (λ l.
      slot_in z b' q k l
      ∙ get_or-set_other a (slot_at z s p) (slot_at z q k) v 0 (λ i. ne (slot_once z q k l lk s p lp i))
      ∙ sym (slot_in z a q k l))
      (λ l. slot_out z b' q k l ∙ sym (slot_out z a q k l))
      (lt? q z.slots)

  pub word_beside_slot : (r k : ℕ) → word z (slot_word_set z a s p v) r k ≡ word z a r k
  word_beside_slot r k =
      split (has z r k)
      (λ g.
      word_in z b' r k g
      ∙ get_or-set_other a (slot_at z s p) (word_at z r k) v 0
      (λ i. omega (arith, word_inside z r k g, slot_inside z s p ls lp))
      ∙ sym (word_in z a r k g))
      (λ g. word_out z b' r k g ∙ sym (word_out z a r k g))

  pub header_beside_slot : (i : ℕ) → i < header_words → get_or (slot_word_set z a s p v) i 0 ≡ get_or a i 0
  header_beside_slot i l = get_or-set_other a (slot_at z s p) i v 0 (λ e. omega (arith, slot_inside z s p ls lp))

-- A WORD OF THE HEADER
module _ (z : Shape) (a : List ℕ) (i v : ℕ) (li : i < header_words) where
  pub slot_beside_header : (s k : ℕ) → k < z.stride → word_of_slot z (set a i v) s k ≡ word_of_slot z a s k
  slot_beside_header s k lk =
      ⊎_elim
      (λ l.
      slot_in z (set a i v) s k l
      ∙ get_or-set_other a i (slot_at z s k) v 0 (λ e. omega (arith, slot_inside z s k l lk))
      ∙ sym (slot_in z a s k l))
      (λ l. slot_out z (set a i v) s k l ∙ sym (slot_out z a s k l))
      (lt? s z.slots)

  pub word_beside_header : (r k : ℕ) → word z (set a i v) r k ≡ word z a r k
  word_beside_header r k =
      split (has z r k)
      (λ g.
      word_in z (set a i v) r k g
      ∙ get_or-set_other a i (word_at z r k) v 0 (λ e. omega (arith, word_inside z r k g))
      ∙ sym (word_in z a r k g))
      (λ g. word_out z (set a i v) r k g ∙ sym (word_out z a r k g))
