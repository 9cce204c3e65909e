-- The laws of columns: a store is seen at its row and nowhere else, and it moves the count of a number by what it takes away
-- and puts there. The one lemma behind all counts is `sum_one`: two columns that differ at one row.
use Prim.Native.Nat.{ℕ, zero, suc, ◌+◌, ◌*◌, ◌≤◌, ◌<◌}
use mathlib.Core.Path.{◌≡◌, refl, sym, ap}
use mathlib.Core.Logic.{⊎_elim}
use mathlib.Core.List.{[], List, ◌∷◌}
use native.Mathlib.Omega.{arith}
use native.Mathlib.Nat.{not-suc-le-zero, suc-mul}
use lib.ListN.{length}
use borrow.Author.Tests.{eq-eqb, ne_eqb}
use Rattle.cases.proofs.Cases.{eq?}
use Rattle.counts.specs.Counts.{upd, upd2, upd_row, ind, sum_to, times, among}

pub upd_same : (f : ℕ → ℕ) (i v j : ℕ) → j ≡ i → upd f i v j ≡ v
unfolding upd
upd_same f i v j e = rw (eq-eqb j i e)

pub upd_at : (f : ℕ → ℕ) (i v : ℕ) → upd f i v i ≡ v
upd_at f i v = upd_same f i v i refl

pub upd_other : (f : ℕ → ℕ) (i v j : ℕ) → (j ≡ i → ⊥) → upd f i v j ≡ f j
unfolding upd
upd_other f i v j h = rw (ne_eqb j i h)

pub ind_same : (r x : ℕ) → x ≡ r → ind r x ≡ 1
unfolding ind
ind_same r x e = rw (eq-eqb x r e)

pub ind_other : (r x : ℕ) → (x ≡ r → ⊥) → ind r x ≡ 0
unfolding ind
ind_other r x h = rw (ne_eqb x r h)

pub ind_le : (r x : ℕ) → ind r x ≤ 1
ind_le r x = ⊎_elim (λ e. omega (arith, ind_same r x e)) (λ h. omega (arith, ind_other r x h)) (eq? x r)

-- a sum depends on the values below n
pub sum_ext : (n : ℕ) (f g : ℕ → ℕ) → ((j : ℕ) → j < n → f j ≡ g j) → sum_to n f ≡ sum_to n g
unfolding sum_to
sum_ext zero f g h = refl
sum_ext (suc n) f g h = omega (arith, sum_ext n f g (λ j l. h j (omega arith)), h n (omega arith))

-- f and g differ at i alone
pub sum_one : (n : ℕ) (f g : ℕ → ℕ) (i : ℕ) → i < n → ((j : ℕ) → (j ≡ i → ⊥) → f j ≡ g j) → sum_to n g + f i ≡ sum_to n f + g i
unfolding sum_to
sum_one zero f g i l h = absurd (not-suc-le-zero l)
sum_one (suc n) f g i l h =
    ⊎_elim
    (λ e. let p : sum_to n f ≡ sum_to n g = sum_ext n f g (λ j m. h j (λ q. omega arith)) in
    let a : f i ≡ f n = ap f e in
    let b : g i ≡ g n = ap g e in
    omega arith)
    (λ d. omega (arith, sum_one n f g i (omega arith) h, h n (λ q. d (sym q))))
    (eq? i n)

pub sum_le : (n : ℕ) (f : ℕ → ℕ) (b : ℕ) → ((j : ℕ) → f j ≤ b) → sum_to n f ≤ n * b
unfolding sum_to
sum_le zero f b h = omega arith
sum_le (suc n) f b h = omega (arith, sum_le n f b h, h n, suc-mul n b)

pub sum_at : (n : ℕ) (f : ℕ → ℕ) (i : ℕ) → i < n → f i ≤ sum_to n f
unfolding sum_to
sum_at zero f i l = absurd (not-suc-le-zero l)
sum_at (suc n) f i l =
    ⊎_elim (λ e. omega (arith, ap f e)) (λ d. omega (arith, sum_at n f i (omega arith))) (eq? i n)

-- THE STORE LEMMA: one word of the column changes
pub cnt_upd : (n : ℕ) (f : ℕ → ℕ) (i v r : ℕ) → i < n → times n (upd f i v) r + ind r (f i) ≡ times n f r + ind r v
cnt_upd n f i v r l =
    rw upd_at at (sum_one n (λ j. ind r (f j)) (λ j. ind r (upd f i v j)) i l (λ j d. ap (ind r) (sym (upd_other f i v j d))))

pub cnt_le : (n : ℕ) (f : ℕ → ℕ) (r : ℕ) → times n f r ≤ n
cnt_le n f r = omega (arith, sum_le n (λ j. ind r (f j)) 1 (λ j. ind_le r (f j)))

pub cnt_some : (n : ℕ) (f : ℕ → ℕ) (r i : ℕ) → i < n → f i ≡ r → 1 ≤ times n f r
cnt_some n f r i l e = omega (arith, sum_at n (λ j. ind r (f j)) i l, ind_same r (f i) e)

pub sum_zero : (n : ℕ) (f : ℕ → ℕ) → ((j : ℕ) → j < n → f j ≡ 0) → sum_to n f ≡ 0
unfolding sum_to
sum_zero zero f h = refl
sum_zero (suc n) f h = omega (arith, sum_zero n f (λ j l. h j (omega arith)), h n (omega arith))

-- TABLES
pub row_same : (g : ℕ → ℕ → ℕ) (c : ℕ) (f : ℕ → ℕ) (d : ℕ) → d ≡ c → upd_row g c f d ≡ f
unfolding upd_row
row_same g c f d e = rw (eq-eqb d c e)

pub row_other : (g : ℕ → ℕ → ℕ) (c : ℕ) (f : ℕ → ℕ) (d : ℕ) → (d ≡ c → ⊥) → upd_row g c f d ≡ g d
unfolding upd_row
row_other g c f d h = rw (ne_eqb d c h)

pub place_same : (f : ℕ → ℕ → ℕ) (c k v d : ℕ) → d ≡ c → upd2 f c k v d ≡ upd (f d) k v
unfolding upd2
place_same f c k v d e = rw (eq-eqb d c e)

pub place_other : (f : ℕ → ℕ → ℕ) (c k v d : ℕ) → (d ≡ c → ⊥) → upd2 f c k v d ≡ f d
unfolding upd2
place_other f c k v d h = rw (ne_eqb d c h)

-- SUMS
pub sum_add : (n : ℕ) (f g : ℕ → ℕ) → sum_to n (λ j. f j + g j) ≡ sum_to n f + sum_to n g
unfolding sum_to
sum_add zero f g = refl
sum_add (suc n) f g = omega (arith, sum_add n f g)

pub sum_mono : (n : ℕ) (f g : ℕ → ℕ) → ((j : ℕ) → f j ≤ g j) → sum_to n f ≤ sum_to n g
unfolding sum_to
sum_mono zero f g h = omega arith
sum_mono (suc n) f g h = omega (arith, sum_mono n f g h, h n)

pub sum_head : (n : ℕ) (f : ℕ → ℕ) → sum_to (suc n) f ≡ f 0 + sum_to n (λ j. f (suc j))
unfolding sum_to
sum_head zero f = omega arith
sum_head (suc n) f = omega (arith, sum_head n f)

pub sum_ind : (n i : ℕ) → i < n → sum_to n (λ j. ind j i) ≡ 1
sum_ind n i l =
    omega
    (arith, sum_one n (λ j. 0) (λ j. ind j i) i l (λ j ne. sym (ind_other j i (λ e. ne (sym e)))), sum_zero n (λ j. 0) (λ j m. refl), ind_same i i refl)

-- a sum that is not 0 has a place that is not 0
pub sum_find : (n : ℕ) (f : ℕ → ℕ) → 0 < sum_to n f → (j : ℕ) × (j < n) × (0 < f j)
unfolding sum_to
sum_find zero f l = absurd (omega arith)
sum_find (suc n) f l =
    ⊎_elim
    (λ z. let w = sum_find n f (omega arith) in (w.0, omega arith, w.2))
    (λ nz. (n, omega arith, omega arith))
    (eq? (f n) 0)

pub ind_pos : (r x : ℕ) → 0 < ind r x → x ≡ r
ind_pos r x l = ⊎_elim (λ e. e) (λ ne. absurd (omega (arith, ind_other r x ne))) (eq? x r)

-- LISTS. A list of numbers below n is as long as the numbers below n stand in it.
pub length-among : (n : ℕ) (l : List ℕ) → ((r : ℕ) → 0 < among l r → r < n) → sum_to n (λ r. among l r) ≡ length l
unfolding among
length-among n [] h = sum_zero n (λ r. 0) (λ j m. refl)
length-among n (x ∷ l) h =
    omega
    (arith, sum_add n (λ r. ind r x) (λ r. among l r), sum_ind n x (h x (omega (arith, ind_same x x refl))), length-among n l (λ r m. h r (omega arith)))
