-- What a release does to the words, on any words: document 01, "Drop frees the slot and every cell no longer reached." What it means
-- on a sound arena is in proofs/Meaning.antt, and that it enters no cell twice, on any words, in proofs/OnceLaws.antt.
use Rattle.std.specs.Prelude.{ℕ, zero, suc, ◌≡◌, Bool, true, false, cond, List, eqb, ltb}
use Rattle.layout.specs.declared.Shape.{Shape}
use Rattle.layout.specs.Columns.{State, word, columns}
use Rattle.lookup.specs.Lookup.{names_kind}
use Rattle.cells.specs.Mirrors.{unshare_words, take_out_words, give_back_words}

-- ONE WORD FEWER names the cell r. Where it was the last, nothing is written yet.
unfoldable pub is_last : Shape → List ℕ → ℕ → Bool
is_last z a r = eqb (word z a r 0) 1

unfoldable pub less_words : Shape → List ℕ → ℕ → List ℕ
less_words z a r = cond (ltb 1 (word z a r 0)) (unshare_words z a r) a

-- CHAINS: at most n entries from r on, each given back before the next is looked at
unfoldable pub chain_from : Shape → ℕ → ℕ → List ℕ → List ℕ
chain_from z zero r a = a
chain_from z (suc n) r a =
    cond (names_kind z 1 r)
    (cond (is_last z a r)
    (chain_from z n ((columns z a).kid r 0) (give_back_words z (take_out_words z a r 0) r))
    (less_words z a r))
    a

-- BRANCHES: the first n children of r, each taken out before it is released
unfoldable pub row_from : (ℕ → List ℕ → List ℕ) → Shape → ℕ → ℕ → List ℕ → List ℕ
row_from release z r zero a = a
row_from release z r (suc n) a =
    let w = row_from release z r n a in release ((columns z w).kid r n) (take_out_words z w r n)

-- whatever words a row began with, where a is what it comes to up to the place m, b is what it comes to up to n
abbrev pub RowGoesOn : (ℕ → List ℕ → List ℕ) → Shape → ℕ → ℕ → ℕ → List ℕ → List ℕ → Type 0
RowGoesOn release z r m n a b = (w : List ℕ) → a ≡ row_from release z r m w → b ≡ row_from release z r n w

-- a branch whose depth is its place
unfoldable pub at_place : Shape → State → ℕ → ℕ → Bool
at_place z σ t r = cond (names_kind z 0 r) (eqb (σ.mark r) t) false

-- THE RELEASE of the reference r, which stands at depth t, with n depths left
unfoldable pub release_from : Shape → ℕ → ℕ → ℕ → List ℕ → List ℕ
release_from z zero t r a = cond (names_kind z 1 r) (chain_from z z.entries r a) a
release_from z (suc n) t r a =
    cond (names_kind z 1 r) (chain_from z z.entries r a)
    (cond (at_place z (columns z a) t r)
    (cond (is_last z a r) (give_back_words z (row_from (release_from z n (suc t)) z r z.degree a) r) (less_words z a r))
    a)

-- SHARED: the release of r comes to a cell, an entry or a branch at its place, and other words name that cell too
abbrev pub comes_to : Shape → State → ℕ → ℕ → ℕ → Bool
comes_to z σ n t r = cond (names_kind z 1 r) true (cond (ltb 0 n) (at_place z σ t r) false)

unfoldable pub is_shared : Shape → State → ℕ → ℕ → ℕ → Bool
is_shared z σ n t r = cond (comes_to z σ n t r) (ltb 1 (σ.count r)) false
