-- A column of words is a function of the row, a table of words a function of the row and the place. What a store does to one,
-- and how often a number stands in one.
use Rattle.std.specs.Prelude.{ℕ, zero, suc, ◌+◌, cond, List, [], ◌∷◌, eqb}

-- the column f with v at row i
unfoldable pub upd : (ℕ → ℕ) → ℕ → ℕ → ℕ → ℕ
upd f i v j = cond (eqb j i) v (f j)

-- the table f with v at row c, place k
unfoldable pub upd2 : (ℕ → ℕ → ℕ) → ℕ → ℕ → ℕ → ℕ → ℕ → ℕ
upd2 f c k v d = cond (eqb d c) (upd (f d) k v) (f d)

-- the table f with the row g at c
unfoldable pub upd_row : (ℕ → ℕ → ℕ) → ℕ → (ℕ → ℕ) → ℕ → ℕ → ℕ
upd_row f c g d = cond (eqb d c) g (f d)

-- 1 where x is r, else 0
unfoldable pub ind : ℕ → ℕ → ℕ
ind r x = cond (eqb x r) 1 0

-- f 0 + .. + f (n - 1)
unfoldable pub sum_to : ℕ → (ℕ → ℕ) → ℕ
sum_to zero f = 0
sum_to (suc n) f = sum_to n f + f n

-- how many of f 0 .. f (n - 1) are r
abbrev pub times : ℕ → (ℕ → ℕ) → ℕ → ℕ
times n f r = sum_to n (λ j. ind r (f j))

-- how often r stands in a list
unfoldable pub among : List ℕ → ℕ → ℕ
among [] r = 0
among (x ∷ xs) r = ind r x + among xs r
