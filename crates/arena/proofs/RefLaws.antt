-- A reference names a cell exactly if it is that of a kind and of a number below the cells of that kind, and then it is so in
-- one way. So the references that name a cell hold something, lie below the top, and there are as many of a kind as cells.
use Prim.Native.Nat.{ℕ, zero, suc, ◌+◌, ◌-◌, ◌*◌, ◌/◌, ◌≤◌, ◌<◌}
use mathlib.Core.Path.{◌≡◌, refl, sym, ap, ◌∙◌}
use mathlib.Core.Logic.{⊎_elim, ◌↔◌}
use mathlib.Core.Bool.{true, false, cond}
use native.Mathlib.Omega.{arith}
use borrow.Author.Tests.{eq-eqb, ne_eqb, lt-ltb, le-ltb}
use lib.Dec.{eqb, ltb}
use Rattle.cases.proofs.Cases.{split, eq?, lt?}
use Rattle.counts.specs.Counts.{sum_to}
use native.Mathlib.Nat.{add-mul}
use Rattle.counts.proofs.CountLaws.{sum_ext, sum_zero, sum_add}
use Rattle.layout.specs.declared.Shape.{Shape}
use Rattle.layout.specs.Layout.{reference, kind_of, cell_of, cells_of, names}
use Rattle.layout.proofs.OffsetLaws.{names_says, names_is, names_low, names_not}
use Rattle.layout.proofs.ColumnLaws.{kids_branch, kids_entry}
use Rattle.layout.specs.Columns.{kids_of, refs}
use Rattle.arena.specs.Sound.{top}
use Rattle.arena.specs.Local.{cell, num}

cells_fit : (z : Shape) (k : ℕ) → cells_of z k ≤ z.branches + z.entries
unfolding cells_of
cells_fit z k = ⊎_elim (λ e. rw (eq-eqb k 0 e) (omega arith)) (λ ne. rw (ne_eqb k 0 ne) (omega arith)) (eq? k 0)

-- HOW MANY REFERENCES A CELL HOLDS
pub refs_some : (z : Shape) (r : ℕ) → 0 < refs z r → names z r ≡ true
unfolding refs
refs_some z r l = split (names z r) (λ e. e) (λ e. absurd (omega (arith, rw e at l)))

pub refs_out : (z : Shape) (r : ℕ) → names z r ≡ false → refs z r ≡ 0
unfolding refs
refs_out z r e = rw e

refs_named_kind : (z : Shape) (r k : ℕ) → names z r ≡ true → kind_of r ≡ k → refs z r ≡ kids_of z k
unfolding refs
refs_named_kind z r k n e = rw (n, e)

kids_some : (z : Shape) → 0 < z.degree → (k : ℕ) → 0 < kids_of z k
unfolding kids_of
kids_some z d k = ⊎_elim (λ e. rw (eq-eqb k 0 e) d) (λ ne. rw (ne_eqb k 0 ne) (omega arith)) (eq? k 0)

pub refs_none : (z : Shape) → refs z 0 ≡ 0
unfolding refs names
refs_none z = refl

pub refs_inside : (z : Shape) (r : ℕ) → 0 < refs z r → r < top z
refs_inside z r l = omega (arith, names_says z r (refs_some z r l), cells_fit z (kind_of r))

pub refs_branch : (z : Shape) (r : ℕ) → 0 < refs z r → kind_of r ≡ 0 → refs z r ≡ z.degree
refs_branch z r l e = refs_named_kind z r 0 (refs_some z r l) e ∙ kids_branch z 0 refl

pub refs_entry : (z : Shape) (r : ℕ) → 0 < refs z r → kind_of r ≡ 1 → refs z r ≡ 1
refs_entry z r l e = refs_named_kind z r 1 (refs_some z r l) e ∙ kids_entry z 1 (λ y. omega arith)

-- an entry holds one reference, its next
pub entry_refs : (z : Shape) (r : ℕ) → kind_of r ≡ 1 → refs z r ≤ 1
entry_refs z r odd = ⊎_elim (λ e. omega arith) (λ ne. omega (arith, refs_entry z r (omega arith) odd)) (eq? (refs z r) 0)

refs_named : (z : Shape) → 0 < z.degree → (r : ℕ) → names z r ≡ true → 0 < refs z r
refs_named z d r n = omega (arith, refs_named_kind z r (kind_of r) n refl, kids_some z d (kind_of r))

pub names-refs : (z : Shape) → 0 < z.degree → (r : ℕ) → (names z r ≡ true) ↔ (0 < refs z r)
names-refs z d r = (refs_named z d r, refs_some z r)

-- the reference of a kind and a number
pub names_of : (z : Shape) (k c : ℕ) → k < 2 → c < cells_of z k → names z (reference k c) ≡ true
names_of z k c u l =
    let e : kind_of (reference k c) ≡ k = omega arith in
    names_is z (reference k c) (record { low = omega arith; number = omega (arith, ap (cells_of z) e) })

pub refs_of : (z : Shape) (k c : ℕ) → k < 2 → c < cells_of z k → 0 < z.degree → 0 < refs z (reference k c)
refs_of z k c u l d = refs_named z d (reference k c) (names_of z k c u l)

pub ref_cell : (z : Shape) (r : ℕ) → 0 < refs z r → (cell_of r < cells_of z (kind_of r)) × (r ≡ reference (kind_of r) (cell_of r))
ref_cell z r l = let w = names_says z r (refs_some z r l) in (w.number, omega (arith, w.low))

-- HOW MANY CELLS THERE ARE. 1 at the numbers from 1 to n
unfoldable up_to : ℕ → ℕ → ℕ
up_to n i = cond (eqb i 0) 0 (cond (ltb i (suc n)) 1 0)

up_zero : (n : ℕ) → up_to n 0 ≡ 0
unfolding up_to
up_zero n = refl

up_in : (n i : ℕ) → (i ≡ 0 → ⊥) → i < suc n → up_to n i ≡ 1
unfolding up_to
up_in n i nz l = rw (ne_eqb i 0 nz, lt-ltb i (suc n) l)

up_out : (n i : ℕ) → suc n ≤ i → up_to n i ≡ 0
unfolding up_to
up_out n i l = rw (ne_eqb i 0 (λ e. omega arith), le-ltb i (suc n) l)

sum_up : (n m : ℕ) → (m ≤ suc n → sum_to m (λ i. up_to n i) ≡ m - 1) × (suc n ≤ m → sum_to m (λ i. up_to n i) ≡ n)
unfolding sum_to
sum_up n zero = (λ l. omega arith, λ l. absurd (omega arith))
sum_up n (suc m) =
    let w = sum_up n m in
    let at : m ≤ n → sum_to m (λ i. up_to n i) + up_to n m ≡ m
    = λ l.
    ⊎_elim
    (λ e. omega (arith, w.0 (omega arith), ap (up_to n) e, up_zero n))
    (λ nz. omega (arith, w.0 (omega arith), up_in n m nz (omega arith)))
    (eq? m 0)
    in (
      λ l. omega (arith, at (omega arith)),
      λ l. ⊎_elim (λ a. omega (arith, at (omega arith))) (λ a. omega (arith, w.1 a, up_out n m a)) (lt? m (suc n)),
    )

sum_pairs : (n : ℕ) (f : ℕ → ℕ) → sum_to (2 * n) f ≡ sum_to n (λ i. f (2 * i) + f (2 * i + 1))
unfolding sum_to
sum_pairs zero f = refl
sum_pairs (suc n) f =
    ap (λ (k : ℕ). sum_to k f) {x = 2 * suc n} {y = suc (suc (2 * n))} (omega arith)
    ∙ omega (arith, sum_pairs n f, ap f {x = suc (2 * n)} {y = 2 * n + 1} (omega arith))

cell_off : (z : Shape) (p r : ℕ) → (kind_of r ≡ p → ⊥) → cell z p r ≡ 0
unfolding cell
cell_off z p r h = rw (ne_eqb (kind_of r) p h)

pub cell_yes : (z : Shape) (p r : ℕ) → 0 < refs z r → kind_of r ≡ p → cell z p r ≡ 1
unfolding cell
cell_yes z p r l e = rw (eq-eqb (kind_of r) p e, ne_eqb (refs z r) 0 (λ q. omega arith))

cell_no : (z : Shape) (p r : ℕ) → refs z r ≡ 0 → cell z p r ≡ 0
unfolding cell
cell_no z p r l =
    ⊎_elim (λ e. rw (eq-eqb (kind_of r) p e, eq-eqb (refs z r) 0 l)) (λ ne. rw (ne_eqb (kind_of r) p ne)) (eq? (kind_of r) p)

cell_at : (z : Shape) → 0 < z.degree → (p i r : ℕ) → kind_of r ≡ p → r / 2 ≡ i → cell z p r ≡ up_to (cells_of z p) i
cell_at z d p i r e h =
    let n = cells_of z p in
    let q : cells_of z (kind_of r) ≡ n = ap (cells_of z) e in
    ⊎_elim
    (λ y. cell_no z p r (refs_out z r (names_low z r (omega arith))) ∙ sym (ap (up_to n) y ∙ up_zero n))
    (λ nz.
    ⊎_elim
    (λ l. cell_yes z p r (refs_named z d r (names_is z r (record { low = omega arith; number = omega arith }))) e ∙ sym (up_in n i nz l))
    (λ g. cell_no z p r (refs_out z r (names_not z r (omega arith))) ∙ sym (up_out n i g))
    (lt? i (suc n)))
    (eq? i 0)

pub num_cells : (z : Shape) → 0 < z.degree → (p : ℕ) → p < 2 → num z p ≡ cells_of z p
num_cells z d p u =
    let m = z.branches + z.entries + 2 in
    let f : ℕ → ℕ = λ r. cell z p r in
    ap (λ (k : ℕ). sum_to k f) {x = top z} {y = 2 * m} (omega arith)
    ∙ sum_pairs m f
    ∙ sum_ext m (λ i. f (2 * i) + f (2 * i + 1)) (λ i. up_to (cells_of z p) i)
    (λ i l.
    ⊎_elim
    (λ e. omega (arith, cell_at z d p i (2 * i) (omega arith) (omega arith), cell_off z p (2 * i + 1) (λ y. omega arith)))
    (λ ne. omega (arith, cell_at z d p i (2 * i + 1) (omega arith) (omega arith), cell_off z p (2 * i) (λ y. omega arith)))
    (eq? p 0))
    ∙ (sum_up (cells_of z p) m).1 (omega (arith, cells_fit z p))

pub num-branches : (z : Shape) → 0 < z.degree → num z 0 ≡ z.branches
unfolding cells_of
num-branches z d = num_cells z d 0 (omega arith)

pub num-entries : (z : Shape) → 0 < z.degree → num z 1 ≡ z.entries
unfolding cells_of
num-entries z d = num_cells z d 1 (omega arith)

pub num_none : (z : Shape) (p : ℕ) → 2 ≤ p → num z p ≡ 0
num_none z p l = sum_zero (top z) (λ r. cell z p r) (λ r m. cell_off z p r (λ e. omega arith))

-- HOW MANY REFERENCES ALL CELLS HOLD
sum_times : (n : ℕ) (f : ℕ → ℕ) (b : ℕ) → sum_to n (λ j. f j * b) ≡ sum_to n f * b
unfolding sum_to
sum_times zero f b = omega arith
sum_times (suc n) f b = omega (arith, sum_times n f b, add-mul (sum_to n f) (f n) b)

refs_cells : (z : Shape) (r : ℕ) → refs z r ≡ cell z 0 r * z.degree + cell z 1 r
refs_cells z r =
    ⊎_elim
    (λ n. rw (cell_no z 0 r n, cell_no z 1 r n) (omega arith))
    (λ (nz : refs z r ≡ 0 → ⊥).
    let l : 0 < refs z r = omega arith in
    ⊎_elim
    (λ (e : kind_of r ≡ 0).
    let b : cell z 1 r ≡ 0 = cell_off z 1 r (λ y. omega arith) in
    rw (cell_yes z 0 r l e, b) (omega (arith, refs_branch z r l e)))
    (λ (ne : kind_of r ≡ 0 → ⊥).
    let o : kind_of r ≡ 1 = omega arith in
    rw (cell_off z 0 r ne, cell_yes z 1 r l o) (omega (arith, refs_entry z r l o)))
    (eq? (kind_of r) 0))
    (eq? (refs z r) 0)

pub sum_refs : (z : Shape) → 0 < z.degree → sum_to (top z) (refs z) ≡ z.branches * z.degree + z.entries
sum_refs z d =
    sum_ext (top z) (refs z) (λ r. cell z 0 r * z.degree + cell z 1 r) (λ r l. refs_cells z r)
    ∙ sum_add (top z) (λ r. cell z 0 r * z.degree) (λ r. cell z 1 r)
    ∙ rw (sum_times (top z) (λ r. cell z 0 r) z.degree, num-branches z d, num-entries z d)
