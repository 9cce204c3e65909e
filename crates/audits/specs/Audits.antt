-- What is asked of each cell by itself, and of the free chains: document 01, SOUND and "The arena", as tests on the columns of an
-- arena. That they hold in every sound arena, and what they give together with the tests of the crates above, is in the proofs
-- of this crate and of the crate `checks`.
use Rattle.std.specs.Prelude.{ℕ, zero, suc, ◌-◌, ◌<◌, Bool, true, false, cond, eqb, ltb, is_none}
use Rattle.counts.specs.Counts.{ind, sum_to}
use Rattle.layout.specs.declared.Shape.{Shape}
use Rattle.layout.specs.Layout.{reference, cells_of}
use Rattle.layout.specs.Columns.{State}
use Rattle.trie.specs.Entry.{Word64}
use Rattle.lookup.specs.Lookup.{names_kind, entry_at, longest, hit_from}

-- whether p holds of n numbers from i on
unfoldable pub all_from : (ℕ → Bool) → ℕ → ℕ → Bool
all_from p i zero = true
all_from p i (suc n) = cond (p i) (all_from p (suc i) n) false

-- whether n words of a row from place i on are 0
abbrev pub none_from : (ℕ → ℕ) → ℕ → ℕ → Bool
none_from f i n = all_from (λ k. eqb (f k) 0) i n

-- a cell of kind k that is in use
unfoldable pub is_live : Shape → State → ℕ → ℕ → Bool
is_live z σ k r = cond (names_kind z k r) (ltb 0 (σ.count r)) false

-- FREE CELLS. "Free cell: first word 0, second the next free reference, the rest 0."
unfoldable pub free_branch : Shape → State → ℕ → Bool
free_branch z σ r = cond (eqb (σ.plain r 0) 0) (none_from (σ.kid r) 0 z.degree) false

unfoldable pub free_entry : State → ℕ → Bool
free_entry σ r =
    cond (eqb (σ.kid r 0) 0) (cond (eqb (σ.plain r 0) 0) (cond (eqb (σ.plain r 1) 0) (eqb (σ.plain r 2) 0) false) false)
    false

-- ENTRIES. "A cell's chain length is one more than that of its next, or 1", and a chain has one hash.
unfoldable pub one_more : ℕ → ℕ → Bool
one_more m n = cond (ltb n m) (eqb (m - n) 1) false

unfoldable pub linked_to : Shape → State → ℕ → ℕ → Bool
linked_to z σ r n =
    cond (is_live z σ 1 n) (cond (one_more (σ.mark r) (σ.mark n)) (eqb (σ.plain n 0) (σ.plain r 0)) false) false

unfoldable pub linked : Shape → State → ℕ → Bool
linked z σ r = cond (eqb (σ.kid r 0) 0) (eqb (σ.mark r) 1) (linked_to z σ r (σ.kid r 0))

unfoldable pub entry_right : Shape → State → ℕ → Bool
entry_right z σ r = cond (eqb (σ.count r) 0) (free_entry σ r) (linked z σ r)

unfoldable pub key_right : Shape → State → ℕ → Bool
key_right z σ r =
    cond (eqb (σ.count r) 0) true (is_none (hit_from z σ (σ.plain r 0) (σ.plain r 1) (longest z) (σ.kid r 0)))

-- BRANCHES. One in use stands above the depth at which a hash is exhausted; what else is asked of it, level by level, is in the
-- crate above.
unfoldable pub branch_right : Shape → State → ℕ → Bool
branch_right z σ r = cond (eqb (σ.count r) 0) (free_branch z σ r) (ltb (σ.mark r) z.depths)

-- every entry cell holds 64-bit words
abbrev pub EntriesFit : Shape → State → Type 0
EntriesFit z σ = (i : ℕ) → i < z.entries → Word64 (entry_at σ (reference 1 i))

-- all entries, their keys, all branches
unfoldable pub entries_right : Shape → State → Bool
entries_right z σ = all_from (λ i. entry_right z σ (reference 1 i)) 0 z.entries

unfoldable pub keys_right : Shape → State → Bool
keys_right z σ = all_from (λ i. key_right z σ (reference 1 i)) 0 z.entries

unfoldable pub branches_right : Shape → State → Bool
branches_right z σ = all_from (λ i. branch_right z σ (reference 0 i)) 0 z.branches

-- FREE CHAINS. How many cells of kind k are free;
abbrev pub idle : Shape → State → ℕ → ℕ
idle z σ k = sum_to (cells_of z k) (λ i. ind 0 (σ.count (reference k i)))

-- a walk through n free cells of kind k from r on, which ends there;
unfoldable pub walk : Shape → State → ℕ → ℕ → ℕ → Bool
walk z σ k zero r = eqb r 0
walk z σ k (suc n) r = cond (names_kind z k r) (cond (eqb (σ.count r) 0) (walk z σ k n (σ.mark r)) false) false

-- the cells in use are all others, and the chain goes through as many cells as are free
unfoldable pub chain_right : Shape → State → ℕ → Bool
chain_right z σ k = cond (eqb (σ.used k) (cells_of z k - idle z σ k)) (walk z σ k (idle z σ k) (σ.first k)) false
