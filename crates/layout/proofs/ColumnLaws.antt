-- A store changes one column at one row: the columns of the words after it are the columns before it with one place changed.
use Prim.Native.Nat.{ℕ, ◌+◌, ◌≤◌, ◌<◌}
use mathlib.Core.Path.{◌≡◌, refl, sym, ap, ◌∙◌, fun_ext}
use mathlib.Core.Bool.{true, cond}
use mathlib.Core.List.{List}
use mathlib.Core.Logic.{◌⊎◌, inl, inr, ⊎_elim}
use native.Mathlib.Omega.{arith}
use lib.Dec.{ltb}
use lib.ListN.{length, set, length-set}
use lib.Seq.{get_or-set_same, get_or-set_other}
use borrow.Author.Tests.{eq-eqb, ne_eqb, lt-ltb, le-ltb}
use Rattle.cases.proofs.Cases.{split, eq?, lt?}
use Rattle.counts.specs.Counts.{upd, upd2}
use Rattle.counts.proofs.CountLaws.{upd_same, upd_other, place_same, place_other}
use Rattle.layout.specs.declared.Shape.{Shape}
use Rattle.layout.specs.Layout.{kind_of, header_words, total, slot_at, names, has, Allowed}
use Rattle.layout.specs.Columns.{State, word_of_slot, word, kids_of, kid_place, plains_of, plain_place, refs, by_kind, columns, word_set, slot_word_set, set_slot_words, state, set_first, set_used, set_slot, set_count, set_mark, set_kid, set_plain}
use Rattle.layout.proofs.SizeLaws.{small}
use Rattle.layout.proofs.OffsetLaws.{names_says, has_is, width_branch, width_entry}
use Rattle.layout.proofs.StoreLaws.{kind_in, kind_out, word_stored, word_beside, slot_beside_word, header_beside_word, slot_stored, slot_beside, word_beside_slot, header_beside_slot, slot_beside_header, word_beside_header}

-- PLACES. A cell has a count, a mark, its references and its other words, and no two of these share a place.
pub refs_in : (z : Shape) (r k : ℕ) → k < refs z r → (names z r ≡ true) × (k < kids_of z (kind_of r))
unfolding refs
refs_in z r k l =
    split (names z r) (λ e. (e, rw e at l)) (λ e. absurd (let n : k < 0 = rw e at l in omega arith))

pub kids_branch : (z : Shape) (k : ℕ) → k ≡ 0 → kids_of z k ≡ z.degree
unfolding kids_of
kids_branch z k e = rw (eq-eqb k 0 e)

pub kids_entry : (z : Shape) (k : ℕ) → (k ≡ 0 → ⊥) → kids_of z k ≡ 1
unfolding kids_of
kids_entry z k ne = rw (ne_eqb k 0 ne)

-- a cell has words 0 and 1, its references and its other words
pub has_low : (z : Shape) (r p : ℕ) → names z r ≡ true → p < 3 → has z r p ≡ true
has_low z r p e l =
    has_is z r p (names_says z r e)
    (⊎_elim
    (λ k. rw (width_branch z (kind_of r) k) (omega arith))
    (λ k. rw (width_entry z (kind_of r) k) (omega arith))
    (eq? (kind_of r) 0))

pub has_branch : (z : Shape) (r p : ℕ) → names z r ≡ true → kind_of r ≡ 0 → p < 3 + z.degree → has z r p ≡ true
has_branch z r p e k l = has_is z r p (names_says z r e) (rw (width_branch z (kind_of r) k) l)

pub has_entry : (z : Shape) (r p : ℕ) → names z r ≡ true → (kind_of r ≡ 0 → ⊥) → p < 6 → has z r p ≡ true
has_entry z r p e k l = has_is z r p (names_says z r e) (rw (width_entry z (kind_of r) k) l)

pub has_kid : (z : Shape) (r k : ℕ) → k < refs z r → has z r (kid_place (kind_of r) + k) ≡ true
has_kid z r k l =
    let w = refs_in z r k l in
    has_is z r _ (names_says z r w.0)
    (⊎_elim
    (λ e. rw (width_branch z (kind_of r) e) (omega (arith, kids_branch z (kind_of r) e, w.1)))
    (λ e. rw (width_entry z (kind_of r) e) (omega (arith, kids_entry z (kind_of r) e, w.1)))
    (eq? (kind_of r) 0))

pub has_plain : (z : Shape) (r k : ℕ) → names z r ≡ true → k < plains_of (kind_of r) → has z r (plain_place (kind_of r) + k) ≡ true
has_plain z r k e l =
    has_is z r _ (names_says z r e)
    (⊎_elim
    (λ k0. rw (width_branch z (kind_of r) k0) (omega arith))
    (λ k0. rw (width_entry z (kind_of r) k0) (omega arith))
    (eq? (kind_of r) 0))

apart : (z : Shape) (r k j : ℕ) → k < refs z r → j < plains_of (kind_of r) → kid_place (kind_of r) + k ≡ plain_place (kind_of r) + j → ⊥
apart z r k j l lj q =
    ⊎_elim
    (λ e. omega arith)
    (λ e. omega (arith, kids_entry z (kind_of r) e, refs_in z r k l))
    (eq? (kind_of r) 0)

-- a cell holds few references
pub refs_few : (z : Shape) (r : ℕ) → Allowed z → refs z r ≤ 64
refs_few z r w =
    ⊎_elim
    (λ l.
    let k = (refs_in z r 64 l).1 in
    ⊎_elim
    (λ e. absurd (omega (arith, k, kids_branch z (kind_of r) e, small z w)))
    (λ e. absurd (omega (arith, k, kids_entry z (kind_of r) e)))
    (eq? (kind_of r) 0))
    (λ l. l)
    (lt? 64 (refs z r))

pub kid_in : (z : Shape) (a : List ℕ) (r k : ℕ) → k < refs z r → (columns z a).kid r k ≡ word z a r (kid_place (kind_of r) + k)
kid_in z a r k l = rw (lt-ltb k (refs z r) l)

pub plain_in : (z : Shape) (a : List ℕ) (r k : ℕ) → k < plains_of (kind_of r) → (columns z a).plain r k ≡ word z a r (plain_place (kind_of r) + k)
plain_in z a r k l = rw (lt-ltb k (plains_of (kind_of r)) l)

-- COLUMNS AND TABLES OF WORDS, n words from f on in each row
abbrev column : Shape → List ℕ → ℕ → ℕ → ℕ
column z a k q = word z a q k

abbrev slot_column : Shape → List ℕ → ℕ → ℕ → ℕ
slot_column z a k s = word_of_slot z a s k

abbrev table : Shape → List ℕ → (ℕ → ℕ) → (ℕ → ℕ) → ℕ → ℕ → ℕ
table z a n f q k = cond (ltb k (n q)) (word z a q (f q + k)) 0

module _ (z : Shape) (a : List ℕ) (n f : ℕ → ℕ) (q k : ℕ) where
  table_in : k < n q → table z a n f q k ≡ word z a q (f q + k)
  table_in l = rw (lt-ltb k (n q) l)

  table_out : n q ≤ k → table z a n f q k ≡ 0
  table_out l = rw (le-ltb k (n q) l)

module _ (z : Shape) (a : List ℕ) (long : total z ≤ length a) (r p v : ℕ) (h : has z r p ≡ true) where
  abbrev b : List ℕ
  b = word_set z a r p v

  column_hit : column z b p ≡ upd (column z a p) r v
  column_hit =
      fun_ext
      (λ q.
      ⊎_elim
      (λ e. rw e (word_stored z a long r p v h) ∙ sym (upd_same (column z a p) r v q e))
      (λ ne. word_beside z a long r p v h q p (λ w. ne w.0) ∙ sym (upd_other (column z a p) r v q ne))
      (eq? q r))

  column_miss : (k : ℕ) → (k ≡ p → ⊥) → column z b k ≡ column z a k
  column_miss k ne = fun_ext (λ q. word_beside z a long r p v h q k (λ w. ne w.1))

  module _ (n f : ℕ → ℕ) where
    table_miss : ((j : ℕ) → j < n r → f r + j ≡ p → ⊥) → table z b n f ≡ table z a n f
    table_miss ne =
        fun_ext
        (λ q.
        fun_ext
        (λ k.
        ⊎_elim
        (λ l.
        table_in z b n f q k l
        ∙ word_beside z a long r p v h q (f q + k)
        (λ w. ne k (rw (ap n w.0) at l) (ap (λ (x : ℕ). f x + k) (sym w.0) ∙ w.1))
        ∙ sym (table_in z a n f q k l))
        (λ l. table_out z b n f q k l ∙ sym (table_out z a n f q k l))
        (lt? k (n q))))

    table_hit : (j : ℕ) → j < n r → f r + j ≡ p → table z b n f ≡ upd2 (table z a n f) r j v
    table_hit j lj e =
        fun_ext
        (λ q.
        ⊎_elim
        (λ qr. fun_ext (λ k. at q qr k) ∙ sym (place_same (table z a n f) r j v q qr))
        (λ ne. fun_ext (λ k. off q ne k) ∙ sym (place_other (table z a n f) r j v q ne))
        (eq? q r))
      where
        at : (q : ℕ) → q ≡ r → (k : ℕ) → table z b n f q k ≡ upd (table z a n f q) j v k
        at q qr k =
            ⊎_elim
            (λ kj.
            table_in z b n f q k (omega (arith, ap n qr))
            ∙ ap (λ (x : ℕ). word z b q (f q + x)) kj
            ∙ ap (λ (x : ℕ). word z b x (f x + j)) qr
            ∙ ap (word z b r) e
            ∙ word_stored z a long r p v h
            ∙ sym (upd_same (table z a n f q) j v k kj))
            (λ ne.
            ⊎_elim
            (λ l.
            table_in z b n f q k l
            ∙ word_beside z a long r p v h q (f q + k)
            (λ w. ne (omega (arith, w.1, e, ap f qr)))
            ∙ sym (table_in z a n f q k l)
            ∙ sym (upd_other (table z a n f q) j v k ne))
            (λ l. table_out z b n f q k l ∙ sym (table_out z a n f q k l) ∙ sym (upd_other (table z a n f q) j v k ne))
            (lt? k (n q)))
            (eq? k j)

        off : (q : ℕ) → (q ≡ r → ⊥) → (k : ℕ) → table z b n f q k ≡ table z a n f q k
        off q ne k =
            ⊎_elim
            (λ l. table_in z b n f q k l ∙ word_beside z a long r p v h q (f q + k) (λ w. ne w.0) ∙ sym (table_in z a n f q k l))
            (λ l. table_out z b n f q k l ∙ sym (table_out z a n f q k l))
            (lt? k (n q))

abbrev kids : Shape → List ℕ → ℕ → ℕ → ℕ
kids z a = table z a (refs z) (λ q. kid_place (kind_of q))

abbrev plains : Shape → List ℕ → ℕ → ℕ → ℕ
plains z a = table z a (λ q. plains_of (kind_of q)) (λ q. plain_place (kind_of q))

-- THE COLUMNS AFTER A STORE TO A CELL. Header and slots are as they were; the rest is what the four columns of cells have become.
module _ (z : Shape) (a : List ℕ) (long : total z ≤ length a) (wide : 3 ≤ z.stride) (r p v : ℕ) (h : has z r p ≡ true) where
  abbrev c : List ℕ
  c = word_set z a r p v

  kinds_kept : (base : ℕ) → base ≤ 10 → by_kind c base ≡ by_kind a base
  kinds_kept base l =
      fun_ext
      (λ k.
      ⊎_elim
      (λ lk. kind_in c base k lk ∙ header_beside_word z a long r p v h (base + k) (omega arith) ∙ sym (kind_in a base k lk))
      (λ lk. kind_out c base k lk ∙ sym (kind_out a base k lk))
      (lt? k 2))

  slots_kept : (k : ℕ) → k < 3 → slot_column z c k ≡ slot_column z a k
  slots_kept k l = fun_ext (λ s. slot_beside_word z a long r p v h s k (omega arith))

  columns_after : (C M : ℕ → ℕ) (K P : ℕ → ℕ → ℕ) → column z c 0 ≡ C → column z c 1 ≡ M → kids z c ≡ K → plains z c ≡ P
      → columns z c ≡ state (by_kind a 8) (by_kind a 10) (slot_column z a 0) (slot_column z a 1) (slot_column z a 2) C M K P
  columns_after C M K P ec em ek ep =
      let f = kinds_kept 8 (omega arith) in
      let u = kinds_kept 10 (omega arith) in
      let s0 = slots_kept 0 (omega arith) in
      let s1 = slots_kept 1 (omega arith) in
      let s2 = slots_kept 2 (omega arith) in
      λ i. state (f i) (u i) (s0 i) (s1 i) (s2 i) (ec i) (em i) (ek i) (ep i)

module _ (z : Shape) (a : List ℕ) (long : total z ≤ length a) (wide : 3 ≤ z.stride) (r v : ℕ) where
  pub count_store : names z r ≡ true → columns z (word_set z a r 0 v) ≡ set_count (columns z a) r v
  count_store e =
      let h = has_low z r 0 e (omega arith) in
      columns_after z a long wide r 0 v h _ _ _ _ (column_hit z a long r 0 v h) (column_miss z a long r 0 v h 1 (λ q. omega arith))
      (table_miss z a long r 0 v h _ _ (λ j l q. omega arith)) (table_miss z a long r 0 v h _ _ (λ j l q. omega arith))

  pub mark_store : names z r ≡ true → columns z (word_set z a r 1 v) ≡ set_mark (columns z a) r v
  mark_store e =
      let h = has_low z r 1 e (omega arith) in
      columns_after z a long wide r 1 v h _ _ _ _ (column_miss z a long r 1 v h 0 (λ q. omega arith)) (column_hit z a long r 1 v h)
      (table_miss z a long r 1 v h _ _ (λ j l q. omega arith)) (table_miss z a long r 1 v h _ _ (λ j l q. omega arith))

  pub kid_store : (k : ℕ) → k < refs z r → columns z (word_set z a r (kid_place (kind_of r) + k) v) ≡ set_kid (columns z a) r k v
  kid_store k l =
      let h = has_kid z r k l in
      let p = kid_place (kind_of r) + k in
      columns_after z a long wide r p v h _ _ _ _ (column_miss z a long r p v h 0 (λ q. omega arith))
      (column_miss z a long r p v h 1 (λ q. omega arith)) (table_hit z a long r p v h _ _ k l refl)
      (table_miss z a long r p v h _ _ (λ j lj q. apart z r k j l lj (sym q)))

  pub plain_store : names z r ≡ true → (k : ℕ) → k < plains_of (kind_of r)
      → columns z (word_set z a r (plain_place (kind_of r) + k) v) ≡ set_plain (columns z a) r k v
  plain_store e k l =
      let h = has_plain z r k e l in
      let p = plain_place (kind_of r) + k in
      columns_after z a long wide r p v h _ _ _ _ (column_miss z a long r p v h 0 (λ q. omega arith))
      (column_miss z a long r p v h 1 (λ q. omega arith)) (table_miss z a long r p v h _ _ (λ j lj q. apart z r j k lj l q))
      (table_hit z a long r p v h _ _ k l refl)

-- THE COLUMNS AFTER A STORE TO A SLOT
module _ (z : Shape) (a : List ℕ) (long : total z ≤ length a) (s p v : ℕ) (ls : s < z.slots) (lp : p < z.stride) where
  abbrev d : List ℕ
  d = slot_word_set z a s p v

  slot_hit : slot_column z d p ≡ upd (slot_column z a p) s v
  slot_hit =
      fun_ext
      (λ q.
      ⊎_elim
      (λ e. rw e (slot_stored z a long s p v ls lp) ∙ sym (upd_same (slot_column z a p) s v q e))
      (λ ne. slot_beside z a long s p v ls lp q p lp (λ w. ne w.0) ∙ sym (upd_other (slot_column z a p) s v q ne))
      (eq? q s))

  slot_miss : (k : ℕ) → k < z.stride → (k ≡ p → ⊥) → slot_column z d k ≡ slot_column z a k
  slot_miss k lk ne = fun_ext (λ q. slot_beside z a long s p v ls lp q k lk (λ w. ne w.1))

  words_miss : word z d ≡ word z a
  words_miss = fun_ext (λ r. fun_ext (λ k. word_beside_slot z a long s p v ls lp r k))

  kinds_miss : (base : ℕ) → base ≤ 10 → by_kind d base ≡ by_kind a base
  kinds_miss base l =
      fun_ext
      (λ k.
      ⊎_elim
      (λ lk. kind_in d base k lk ∙ header_beside_slot z a long s p v ls lp (base + k) (omega arith) ∙ sym (kind_in a base k lk))
      (λ lk. kind_out d base k lk ∙ sym (kind_out a base k lk))
      (lt? k 2))

-- the columns are read off the words of cells and slots and the words 8 to 11
abbrev from_words : Shape → (ℕ → ℕ) → (ℕ → ℕ) → (ℕ → ℕ) → (ℕ → ℕ) → (ℕ → ℕ) → (ℕ → ℕ → ℕ) → State
from_words z f u s0 s1 s2 w =
    state f u s0 s1 s2 (λ r. w r 0) (λ r. w r 1) (λ r k. cond (ltb k (refs z r)) (w r (kid_place (kind_of r) + k)) 0)
    (λ r k. cond (ltb k (plains_of (kind_of r))) (w r (plain_place (kind_of r) + k)) 0)

pub slot_store : (z : Shape) (a : List ℕ) → total z ≤ length a → 3 ≤ z.stride → (s h r n : ℕ) → s < z.slots
    → columns z (set_slot_words z a s h r n) ≡ set_slot (columns z a) s h r n
unfolding set_slot_words
slot_store z a long wide s h r n ls =
    let b1 = slot_word_set z a s 0 h in
    let b2 = slot_word_set z b1 s 1 r in
    let l0 : 0 < z.stride = omega arith in
    let l1 : 1 < z.stride = omega arith in
    let l2 : 2 < z.stride = omega arith in
    let g1 : total z ≤ length b1 = omega (arith, length-set a (slot_at z s 0) h) in
    let g2 : total z ≤ length b2 = omega (arith, length-set b1 (slot_at z s 1) r) in
    let f = kinds_miss z b2 g2 s 2 n ls l2 8 (omega arith) ∙ kinds_miss z b1 g1 s 1 r ls l1 8 (omega arith) ∙ kinds_miss z a long s 0 h ls l0 8 (omega arith) in
    let u = kinds_miss z b2 g2 s 2 n ls l2 10 (omega arith) ∙ kinds_miss z b1 g1 s 1 r ls l1 10 (omega arith) ∙ kinds_miss z a long s 0 h ls l0 10 (omega arith) in
    let s0 = slot_miss z b2 g2 s 2 n ls l2 0 l0 (λ e. omega arith) ∙ slot_miss z b1 g1 s 1 r ls l1 0 l0 (λ e. omega arith) ∙ slot_hit z a long s 0 h ls l0 in
    let s1 = slot_miss z b2 g2 s 2 n ls l2 1 l1 (λ e. omega arith) ∙ slot_hit z b1 g1 s 1 r ls l1
    ∙ ap (λ (g : ℕ → ℕ). upd g s r) (slot_miss z a long s 0 h ls l0 1 l1 (λ e. omega arith)) in
    let s2 = slot_hit z b2 g2 s 2 n ls l2
    ∙ ap (λ (g : ℕ → ℕ). upd g s n) (slot_miss z b1 g1 s 1 r ls l1 2 l2 (λ e. omega arith) ∙ slot_miss z a long s 0 h ls l0 2 l2 (λ e. omega arith)) in
    let w = words_miss z b2 g2 s 2 n ls l2 ∙ words_miss z b1 g1 s 1 r ls l1 ∙ words_miss z a long s 0 h ls l0 in
    λ i. from_words z (f i) (u i) (s0 i) (s1 i) (s2 i) (w i)

-- THE COLUMNS AFTER A STORE TO A WORD OF THE HEADER THAT THERE IS ONE OF FOR EACH KIND
module _ (z : Shape) (a : List ℕ) (long : total z ≤ length a) (wide : 3 ≤ z.stride) (k v : ℕ) (lk : k < 2) where
  kind_hit : (base : ℕ) → base ≤ 10 → by_kind (set a (base + k) v) base ≡ upd (by_kind a base) k v
  kind_hit base lb =
      fun_ext
      (λ j.
      ⊎_elim
      (λ e.
      kind_in (set a (base + k) v) base j (omega arith)
      ∙ rw e (get_or-set_same a (base + k) v 0 (omega arith))
      ∙ sym (upd_same (by_kind a base) k v j e))
      (λ ne.
      ⊎_elim
      (λ lj.
      kind_in (set a (base + k) v) base j lj
      ∙ get_or-set_other a (base + k) (base + j) v 0 (λ q. ne (omega arith))
      ∙ sym (kind_in a base j lj)
      ∙ sym (upd_other (by_kind a base) k v j ne))
      (λ lj. kind_out (set a (base + k) v) base j lj ∙ sym (kind_out a base j lj) ∙ sym (upd_other (by_kind a base) k v j ne))
      (lt? j 2))
      (eq? j k))

  kind_miss : (base other : ℕ) → (base + 2 ≤ other) ⊎ (other + 2 ≤ base) → by_kind (set a (base + k) v) other ≡ by_kind a other
  kind_miss base other apart' =
      fun_ext
      (λ j.
      ⊎_elim
      (λ lj.
      kind_in (set a (base + k) v) other j lj
      ∙ get_or-set_other a (base + k) (other + j) v 0 (λ q. ⊎_elim (λ l. omega arith) (λ l. omega arith) apart')
      ∙ sym (kind_in a other j lj))
      (λ lj. kind_out (set a (base + k) v) other j lj ∙ sym (kind_out a other j lj))
      (lt? j 2))

  slots_beside : (i : ℕ) → i < header_words → (p : ℕ) → p < 3 → slot_column z (set a i v) p ≡ slot_column z a p
  slots_beside i l p lp = fun_ext (λ s. slot_beside_header z a i v l s p (omega arith))

  words_beside : (i : ℕ) → i < header_words → word z (set a i v) ≡ word z a
  words_beside i l = fun_ext (λ r. fun_ext (λ p. word_beside_header z a i v l r p))

  pub first_store : columns z (set a (8 + k) v) ≡ set_first (columns z a) k v
  first_store =
      let f = kind_hit 8 (omega arith) in
      let u = kind_miss 8 10 (inl (omega arith)) in
      let s0 = slots_beside (8 + k) (omega arith) 0 (omega arith) in
      let s1 = slots_beside (8 + k) (omega arith) 1 (omega arith) in
      let s2 = slots_beside (8 + k) (omega arith) 2 (omega arith) in
      let w = words_beside (8 + k) (omega arith) in
      λ i. from_words z (f i) (u i) (s0 i) (s1 i) (s2 i) (w i)

  pub used_store : columns z (set a (10 + k) v) ≡ set_used (columns z a) k v
  used_store =
      let f = kind_miss 10 8 (inr (omega arith)) in
      let u = kind_hit 10 (omega arith) in
      let s0 = slots_beside (10 + k) (omega arith) 0 (omega arith) in
      let s1 = slots_beside (10 + k) (omega arith) 1 (omega arith) in
      let s2 = slots_beside (10 + k) (omega arith) 2 (omega arith) in
      let w = words_beside (10 + k) (omega arith) in
      λ i. from_words z (f i) (u i) (s0 i) (s1 i) (s2 i) (w i)
