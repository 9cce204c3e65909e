-- How many cells a release enters, on any words, by the recursion of Releases.antt: a cell is entered where its count is 1, and
-- given back when what it names is let go. That no cell is entered twice is in proofs/OnceLaws.antt.
use Rattle.std.specs.Prelude.{ℕ, zero, suc, ◌+◌, cond, List, eqb}
use Rattle.counts.specs.Counts.{ind, sum_to}
use Rattle.layout.specs.declared.Shape.{Shape}
use Rattle.layout.specs.Layout.{names}
use Rattle.layout.specs.Columns.{word, columns}
use Rattle.arena.specs.Sound.{top}
use Rattle.lookup.specs.Lookup.{names_kind}
use Rattle.cells.specs.Mirrors.{take_out_words, give_back_words}
use Rattle.releases.specs.Releases.{is_last, row_from, at_place, release_from}

-- each cell r that is entered counts g r
module _ (g : ℕ → ℕ) (z : Shape) where
  unfoldable pub chain_entered : ℕ → ℕ → List ℕ → ℕ
  chain_entered zero r a = 0
  chain_entered (suc n) r a =
      cond (names_kind z 1 r)
      (cond (is_last z a r) (g r + chain_entered n ((columns z a).kid r 0) (give_back_words z (take_out_words z a r 0) r)) 0)
      0

  unfoldable pub row_entered : (ℕ → List ℕ → List ℕ) → (ℕ → List ℕ → ℕ) → ℕ → ℕ → List ℕ → ℕ
  row_entered release entered r zero a = 0
  row_entered release entered r (suc n) a =
      let w = row_from release z r n a in
      row_entered release entered r n a + entered ((columns z w).kid r n) (take_out_words z w r n)

  unfoldable pub entered_of : ℕ → ℕ → ℕ → List ℕ → ℕ
  entered_of zero t r a = cond (names_kind z 1 r) (chain_entered z.entries r a) 0
  entered_of (suc n) t r a =
      cond (names_kind z 1 r) (chain_entered z.entries r a)
      (cond (at_place z (columns z a) t r)
      (cond (is_last z a r) (row_entered (release_from z n (suc t)) (entered_of n (suc t)) r z.degree a + g r) 0)
      0)

  -- each cell r whose count is 0 counts g r
  unfoldable pub unnamed_of : List ℕ → ℕ
  unnamed_of a = sum_to (top z) (λ r. cond (names z r) (cond (eqb (word z a r 0) 0) (g r) 0) 0)

-- HOW MANY CELLS of either kind a release enters, and how often it enters the cell c
abbrev pub entered_by : Shape → ℕ → ℕ → ℕ → List ℕ → ℕ
entered_by z n t r a = entered_of (λ c. 1) z n t r a

abbrev pub times_entered : Shape → ℕ → ℕ → ℕ → List ℕ → ℕ → ℕ
times_entered z n t r a c = entered_of (ind c) z n t r a

-- how many cells of either kind have the count 0
abbrev pub unnamed : Shape → List ℕ → ℕ
unnamed z a = unnamed_of (λ c. 1) z a
