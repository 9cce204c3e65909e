-- Different words have different offsets, and all of them lie inside the arena: the header ends before the slots, the slots
-- before the branch cells, these before the entry cells, and rows of one width never overlap.
use Prim.Native.Nat.{ℕ, ◌+◌, ◌*◌, ◌≤◌, ◌<◌}
use mathlib.Core.Path.{◌≡◌, refl, sym, ap, ◌∙◌}
use mathlib.Core.Bool.{Bool, true, false, cond}
use mathlib.Core.List.{List}
use mathlib.Core.Logic.{⊎_elim}
use native.Mathlib.Nat.{mul-le-mul_right, suc-mul}
use native.Mathlib.Omega.{arith}
use lib.Dec.{ltb}
use lib.ListN.{length}
use borrow.Author.Tests.{eq-eqb, ne_eqb, lt-ltb, le-ltb, ltb-true, ltb-false}
use Rattle.cases.proofs.Cases.{eq?, lt?, both}
use Rattle.layout.specs.declared.Shape.{Shape}
use Rattle.layout.specs.Layout.{kind_of, cell_of, width_of, cells_of, header_words, branches_at, entries_at, total, cells_at, slot_at, word_at, names, has, Allowed, Lent}
use Rattle.layout.proofs.SizeLaws.{small}

-- ROWS. A row ends before the next begins.
row_le : (w c d : ℕ) → c < d → c * w + w ≤ d * w
row_le w c d l = omega (arith, suc-mul c w, mul-le-mul_right w l)

pub place_lt : (w n c k : ℕ) → c < n → k < w → c * w + k < n * w
place_lt w n c k lc lk = omega (arith, row_le w c n lc)

pub place_row : (w c d k m : ℕ) → k < w → m < w → c * w + k ≡ d * w + m → c ≡ d
place_row w c d k m lk lm e =
    ⊎_elim
    (λ l. absurd (omega (arith, row_le w c d l)))
    (λ l. ⊎_elim (λ l'. absurd (omega (arith, row_le w d c l'))) (λ l'. omega arith) (lt? d c))
    (lt? c d)

pub place_column : (w c d k m : ℕ) → k < w → m < w → c * w + k ≡ d * w + m → k ≡ m
place_column w c d k m lk lm e = omega (arith, ap (λ (x : ℕ). x * w) (place_row w c d k m lk lm e))

-- SLOTS
module _ (z : Shape) (s p : ℕ) (ls : s < z.slots) (lp : p < z.stride) where
  pub slot_inside : (header_words ≤ slot_at z s p) × (slot_at z s p < branches_at z)
  unfolding slot_at
  slot_inside = (omega arith, omega (arith, place_lt z.stride z.slots s p ls lp))

  pub slot_once : (s' p' : ℕ) → p' < z.stride → slot_at z s p ≡ slot_at z s' p' → (s ≡ s') × (p ≡ p')
  unfolding slot_at
  slot_once s' p' lp' e =
      (place_row z.stride s s' p p' lp lp' (omega arith), place_column z.stride s s' p p' lp lp' (omega arith))

-- CELLS
not_and : (b x : Bool) → cond b false x ≡ true → (b ≡ false) × (x ≡ true)
not_and true x e = absurd (let n : ◌≡◌ {A = ℕ} 0 1 = cc in omega arith)
not_and false x e = (refl, e)

pub record Cell (z : Shape) (r : ℕ) : Type 0 where
  pub low : 2 ≤ r
  pub number : cell_of r < cells_of z (kind_of r)

pub names_says : (z : Shape) (r : ℕ) → names z r ≡ true → Cell z r
unfolding names
names_says z r e =
    let w = not_and (ltb r 2) _ e in
    record { low = ltb-false _ _ w.0; number = ltb-true _ _ w.1 }

pub names_is : (z : Shape) (r : ℕ) → Cell z r → names z r ≡ true
unfolding names
names_is z r k = rw (le-ltb r 2 k.low, lt-ltb (cell_of r) (cells_of z (kind_of r)) k.number)

pub names_low : (z : Shape) (r : ℕ) → r < 2 → names z r ≡ false
unfolding names
names_low z r l = rw (lt-ltb r 2 l)

pub names_not : (z : Shape) (r : ℕ) → cells_of z (kind_of r) ≤ cell_of r → names z r ≡ false
unfolding names
names_not z r g =
    ⊎_elim (λ l. names_low z r l) (λ u. rw (le-ltb r 2 u, le-ltb (cell_of r) (cells_of z (kind_of r)) g)) (lt? r 2)

pub record Place (z : Shape) (r p : ℕ) : Type 0 where
  pub cell : Cell z r
  pub place : p < width_of z (kind_of r)

pub has_says : (z : Shape) (r p : ℕ) → has z r p ≡ true → Place z r p
unfolding has
has_says z r p e =
    let w = both (names z r) _ e in
    record { cell = names_says z r w.0; place = ltb-true _ _ w.1 }

pub has_is : (z : Shape) (r p : ℕ) → Cell z r → p < width_of z (kind_of r) → has z r p ≡ true
unfolding has
has_is z r p k l = rw (names_is z r k, lt-ltb p (width_of z (kind_of r)) l)

-- what a shape says of a branch and of an entry
module _ (z : Shape) (k : ℕ) where
  pub width_branch : k ≡ 0 → width_of z k ≡ 3 + z.degree
  unfolding width_of
  width_branch e = rw (eq-eqb k 0 e)

  pub width_entry : (k ≡ 0 → ⊥) → width_of z k ≡ 6
  unfolding width_of
  width_entry e = rw (ne_eqb k 0 e)

  pub cells_branch : k ≡ 0 → cells_of z k ≡ z.branches
  unfolding cells_of
  cells_branch e = rw (eq-eqb k 0 e)

  pub cells_entry : (k ≡ 0 → ⊥) → cells_of z k ≡ z.entries
  unfolding cells_of
  cells_entry e = rw (ne_eqb k 0 e)

  pub at_branch : k ≡ 0 → cells_at z k ≡ branches_at z
  unfolding cells_at
  at_branch e = rw (eq-eqb k 0 e)

  pub at_entry : (k ≡ 0 → ⊥) → cells_at z k ≡ entries_at z
  unfolding cells_at
  at_entry e = rw (ne_eqb k 0 e)

pub cells_few : (z : Shape) (k : ℕ) → Allowed z → cells_of z k ≤ 4194304
cells_few z k w =
    ⊎_elim
    (λ e. rw (cells_branch z k e) (omega (arith, w.few_branches)))
    (λ e. rw (cells_entry z k e) w.few_entries)
    (eq? k 0)

-- the cells of a kind lie between two offsets
pub cells_end : (z : Shape) (k : ℕ) → cells_at z k + cells_of z k * width_of z k ≤ total z
cells_end z k =
    ⊎_elim
    (λ e. rw (at_branch z k e, cells_branch z k e, width_branch z k e) (omega arith))
    (λ ne. rw (at_entry z k ne, cells_entry z k ne, width_entry z k ne) (omega arith))
    (eq? k 0)

cells_begin : (z : Shape) (k : ℕ) → branches_at z ≤ cells_at z k
cells_begin z k = ⊎_elim (λ e. rw (at_branch z k e) (omega arith)) (λ ne. rw (at_entry z k ne) (omega arith)) (eq? k 0)

pub word_inside : (z : Shape) (r p : ℕ) → has z r p ≡ true → (branches_at z ≤ word_at z r p) × (word_at z r p < total z)
unfolding word_at
word_inside z r p h =
    let w = has_says z r p h in (
      omega (arith, cells_begin z (kind_of r)),
      omega
          (arith, cells_end z (kind_of r), place_lt (width_of z (kind_of r)) (cells_of z (kind_of r)) (cell_of r) p w.cell.number w.place),
    )

-- a branch cell lies before the entry cells
word_below : (z : Shape) (r p : ℕ) → has z r p ≡ true → kind_of r ≡ 0 → word_at z r p < entries_at z
unfolding word_at
word_below z r p h e =
    let w = has_says z r p h in
    let lc : cell_of r < z.branches = rw (cells_branch z (kind_of r) e) at w.cell.number in
    let lp : p < 3 + z.degree = rw (width_branch z (kind_of r) e) at w.place in
    rw (at_branch z (kind_of r) e, width_branch z (kind_of r) e)
    (omega (arith, place_lt (3 + z.degree) z.branches (cell_of r) p lc lp))

word_above : (z : Shape) (r p : ℕ) → (kind_of r ≡ 0 → ⊥) → entries_at z ≤ word_at z r p
unfolding word_at
word_above z r p ne = rw (at_entry z (kind_of r) ne) (omega arith)

-- words of cells of one kind
word_like : (z : Shape) (r p q k : ℕ) → has z r p ≡ true → has z q k ≡ true → kind_of r ≡ kind_of q → word_at z r p ≡ word_at z q k
    → (r ≡ q) × (p ≡ k)
unfolding word_at
word_like z r p q k h g e i =
    let a = has_says z r p h in
    let b = has_says z q k g in
    let lk : k < width_of z (kind_of r) = rw (sym e) at b.place in
    let i' : cells_at z (kind_of r) + cell_of r * width_of z (kind_of r) + p ≡ cells_at z (kind_of r) + cell_of q * width_of z (kind_of r) + k
    = i ∙ ap (λ (x : ℕ). cells_at z x + cell_of q * width_of z x + k) (sym e) in
    let c : cell_of r ≡ cell_of q = place_row (width_of z (kind_of r)) (cell_of r) (cell_of q) p k a.place lk (omega arith) in
    (omega (arith, a.cell.low, b.cell.low), place_column (width_of z (kind_of r)) (cell_of r) (cell_of q) p k a.place lk (omega arith))

-- DIFFERENT WORDS, DIFFERENT OFFSETS
pub word_once : (z : Shape) (r p q k : ℕ) → has z r p ≡ true → has z q k ≡ true → word_at z r p ≡ word_at z q k → (r ≡ q) × (p ≡ k)
word_once z r p q k h g i =
    ⊎_elim
    (λ e. word_like z r p q k h g e i)
    (λ ne.
    ⊎_elim
    (λ e. absurd (omega (arith, word_below z r p h e, word_above z q k (λ e'. ne (e ∙ sym e')))))
    (λ e.
    ⊎_elim
    (λ e'. absurd (omega (arith, word_below z q k g e', word_above z r p e)))
    (λ e'. absurd (ne (omega arith)))
    (eq? (kind_of q) 0))
    (eq? (kind_of r) 0))
    (eq? (kind_of r) (kind_of q))

-- the sums on the way to an offset are below the total, which is far below 2 to the power 64
pub record Room (z : Shape) (r p : ℕ) : Type 0 where
  pub low : 2 ≤ r
  pub room : cells_at z (kind_of r) + cell_of r * width_of z (kind_of r) + p < 95440910

pub word_room : (z : Shape) (r p : ℕ) → Allowed z → has z r p ≡ true → Room z r p
unfolding word_at
word_room z r p w h =
    record { low = (has_says z r p h).cell.low; room = omega (arith, word_inside z r p h, small z w) }

-- an offset lies in a slice that is long enough
pub word_Lent : (z : Shape) (a : List ℕ) (r p i : ℕ) → Lent z a → has z r p ≡ true → i ≡ word_at z r p → (i < length a) × (i < 95440910)
word_Lent z a r p i l h e = (omega (arith, word_inside z r p h, l.long), omega (arith, word_inside z r p h, small z l.allowed))

pub slot_lent : (z : Shape) (a : List ℕ) (s p i : ℕ) → Lent z a → s < z.slots → p < z.stride → i ≡ slot_at z s p
    → (i < length a) × (i < 95440910)
slot_lent z a s p i l ls lp e =
    (omega (arith, slot_inside z s p ls lp, l.long), omega (arith, slot_inside z s p ls lp, small z l.allowed))
