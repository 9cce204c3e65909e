-- How often each cell is named, in the work words: document 01, SOUND, "each count is the number of slots, child words and next
-- words .. that name the cell". A branch's work word comes first, then an entry's: "each branch's, then each entry's count".
use Rattle.std.specs.Prelude.{ℕ, ◌+◌, ◌≤◌, ◌≡◌, Bool, true, false, cond, List, eqb, length, get_or}
use Rattle.layout.specs.declared.Shape.{Shape}
use Rattle.layout.specs.Layout.{reference, kind_of, cell_of, cells_of, names}
use Rattle.layout.specs.Columns.{State}
use Rattle.audits.specs.Audits.{all_from}

-- how many work words there are: B + N
abbrev pub work_words : Shape → ℕ
work_words z = z.branches + z.entries

-- the work word of the cell that r names
unfoldable pub work_place : Shape → ℕ → ℕ
work_place z r = cond (eqb (kind_of r) 0) (cell_of r) (z.branches + cell_of r)

-- what the work words of the cells hold, with all behind them as they were
pub record Works (z : Shape) (f : ℕ → ℕ) (w w' : List ℕ) : Type 0 where
  pub same_length : length w' ≡ length w
  pub first : (r : ℕ) → names z r ≡ true → get_or w' (work_place z r) 0 ≡ f r
  pub rest : (j : ℕ) → work_words z ≤ j → get_or w' j 0 ≡ get_or w j 0

-- work words that are m at most
abbrev pub Low : Shape → ℕ → List ℕ → Type 0
Low z m w = (r : ℕ) → names z r ≡ true → get_or w (work_place z r) 0 ≤ m

-- g more for each cell
abbrev pub Adds : Shape → (ℕ → ℕ) → List ℕ → List ℕ → Type 0
Adds z g w w' = Works z (λ r. get_or w (work_place z r) 0 + g r) w w'

-- the work words of the cells of a kind are their counts
unfoldable pub counts_of : Shape → State → List ℕ → ℕ → Bool
counts_of z σ w k =
    all_from (λ i. eqb (get_or w (work_place z (reference k i)) 0) (σ.count (reference k i))) 0 (cells_of z k)

unfoldable pub counts_right : Shape → State → List ℕ → Bool
counts_right z σ w = cond (counts_of z σ w 0) (counts_of z σ w 1) false
