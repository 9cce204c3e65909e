-- What the words of an arena mean: its columns. Cells of both kinds stand in one table, whose row is the reference that names
-- the cell, so that nothing that is said of cells is said twice. What lies outside a table reads as 0.
use Rattle.std.specs.Prelude.{ℕ, ◌+◌, ◌-◌, ◌*◌, cond, List, eqb, ltb, get_or, set}
use Rattle.counts.specs.Counts.{upd, upd2}
use Rattle.layout.specs.declared.Shape.{Shape}
use Rattle.layout.specs.Layout.{kind_of, slot_at, word_at, names, has}

pub record State : Type 0 where
  -- by kind: "first free branch, first free entry (references)"; "branch cells, entry cells in use"
  pub first : ℕ → ℕ
  pub used : ℕ → ℕ
  -- by slot: "held (0 or 1), root, size"
  pub held : ℕ → ℕ
  pub root : ℕ → ℕ
  pub size : ℕ → ℕ
  -- by reference: the count; then the depth of a branch, the chain length of an entry, the next free reference of a free cell
  pub count : ℕ → ℕ
  pub mark : ℕ → ℕ
  -- by reference and place: the references that a cell holds, which are a branch's children and an entry's next
  pub kid : ℕ → ℕ → ℕ
  -- by reference and place: a branch's bitmap; an entry's hash, key and value
  pub plain : ℕ → ℕ → ℕ

-- word p of slot s, and of the cell that r names
unfoldable pub word_of_slot : Shape → List ℕ → ℕ → ℕ → ℕ
word_of_slot z a s p = cond (ltb s z.slots) (get_or a (slot_at z s p) 0) 0

unfoldable pub word : Shape → List ℕ → ℕ → ℕ → ℕ
word z a r p = cond (has z r p) (get_or a (word_at z r p) 0) 0

-- how many references a cell of this kind holds, and from which word on: a branch its children from word 3, an entry its next
-- in word 2
unfoldable pub kids_of : Shape → ℕ → ℕ
kids_of z k = cond (eqb k 0) z.degree 1

abbrev pub kid_place : ℕ → ℕ
kid_place k = 3 - k

-- how many words of it are no references, and from which word on: a branch its bitmap in word 2, an entry three from word 3
abbrev pub plains_of : ℕ → ℕ
plains_of k = 1 + 2 * k

abbrev pub plain_place : ℕ → ℕ
plain_place k = 2 + k

-- how many references the cell that r names holds; 0 where r names none
unfoldable pub refs : Shape → ℕ → ℕ
refs z r = cond (names z r) (kids_of z (kind_of r)) 0

-- a word of the header that there is one of for each kind
unfoldable pub by_kind : List ℕ → ℕ → ℕ → ℕ
by_kind a base k = cond (ltb k 2) (get_or a (base + k) 0) 0

abbrev pub columns : Shape → List ℕ → State
columns z a =
    record {
      first = by_kind a 8;
      used = by_kind a 10;
      held = λ s. word_of_slot z a s 0;
      root = λ s. word_of_slot z a s 1;
      size = λ s. word_of_slot z a s 2;
      count = λ r. word z a r 0;
      mark = λ r. word z a r 1;
      kid = λ r k. cond (ltb k (refs z r)) (word z a r (kid_place (kind_of r) + k)) 0;
      plain = λ r k. cond (ltb k (plains_of (kind_of r))) (word z a r (plain_place (kind_of r) + k)) 0;
    }

-- STORES. A word of a cell, a word of a slot, and what each does to the columns (proofs/StoreLaws.antt).
abbrev pub word_set : Shape → List ℕ → ℕ → ℕ → ℕ → List ℕ
word_set z a r p v = set a (word_at z r p) v

abbrev pub slot_word_set : Shape → List ℕ → ℕ → ℕ → ℕ → List ℕ
slot_word_set z a s p v = set a (slot_at z s p) v

unfoldable pub set_slot_words : Shape → List ℕ → ℕ → ℕ → ℕ → ℕ → List ℕ
set_slot_words z a s h r n = slot_word_set z (slot_word_set z (slot_word_set z a s 0 h) s 1 r) s 2 n

abbrev pub state :
    (ℕ → ℕ) → (ℕ → ℕ) → (ℕ → ℕ) → (ℕ → ℕ) → (ℕ → ℕ) → (ℕ → ℕ) → (ℕ → ℕ) → (ℕ → ℕ → ℕ) → (ℕ → ℕ → ℕ) → State
state f u h r s c m k p =
    record { first = f; used = u; held = h; root = r; size = s; count = c; mark = m; kid = k; plain = p }

module _ (σ : State) where
  abbrev pub set_first : ℕ → ℕ → State
  set_first p v = state (upd σ.first p v) σ.used σ.held σ.root σ.size σ.count σ.mark σ.kid σ.plain

  abbrev pub set_used : ℕ → ℕ → State
  set_used p v = state σ.first (upd σ.used p v) σ.held σ.root σ.size σ.count σ.mark σ.kid σ.plain

  -- a slot's three words
  abbrev pub set_slot : ℕ → ℕ → ℕ → ℕ → State
  set_slot s h r n =
      state σ.first σ.used (upd σ.held s h) (upd σ.root s r) (upd σ.size s n) σ.count σ.mark σ.kid
      σ.plain

  abbrev pub set_count : ℕ → ℕ → State
  set_count r v = state σ.first σ.used σ.held σ.root σ.size (upd σ.count r v) σ.mark σ.kid σ.plain

  abbrev pub set_mark : ℕ → ℕ → State
  set_mark r v = state σ.first σ.used σ.held σ.root σ.size σ.count (upd σ.mark r v) σ.kid σ.plain

  abbrev pub set_kid : ℕ → ℕ → ℕ → State
  set_kid r k v =
      state σ.first σ.used σ.held σ.root σ.size σ.count σ.mark (upd2 σ.kid r k v) σ.plain

  abbrev pub set_plain : ℕ → ℕ → ℕ → State
  set_plain r k v =
      state σ.first σ.used σ.held σ.root σ.size σ.count σ.mark σ.kid (upd2 σ.plain r k v)
