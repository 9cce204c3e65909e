-- A chain while it is made from its front, and when it is made; what is known of a chain that is shown; and what a copy that could be
-- taken comes to.
use Prim.Native.Nat.{ℕ, suc, ◌<◌}
use mathlib.Core.Path.{◌≡◌}
use mathlib.Core.Bool.{true}
use mathlib.Core.List.{[], List, ◌∷◌}
use native.Mathlib.Omega.{arith}
use lib.ListN.{length}
use Rattle.counts.specs.Counts.{ind}
use Rattle.trie.specs.declared.Entry.{Entry}
use Rattle.trie.specs.Trie.{Item}
use Rattle.layout.specs.declared.Shape.{Shape}
use Rattle.layout.specs.Layout.{kind_of, Lent}
use Rattle.layout.specs.Columns.{State, refs, columns, set_kid}
use Rattle.arena.specs.Shows.{ShowsChain}
use Rattle.arena.specs.Local.{Local, Grow, SameSlots}
use Rattle.arena.proofs.LocalLaws.{live_cell}
use Rattle.lookup.specs.Lookup.{names_kind, entry_at}
use Rattle.cells.specs.Frame.{Kept}
use Rattle.cells.specs.Mirrors.{Wrote, put_in_words}
use Rattle.cells.proofs.Made.{left, taking, then_on}
use Rattle.chains.specs.Chains.{entry_copied, copied_on}
use Rattle.chains.proofs.NewEntry.{Last}

-- CHAINS THAT ARE SHOWN
module _ (σ : State) where
  pub chain_first : (x : Item ℕ) (xs : List (Item ℕ)) (r : ℕ) → ShowsChain σ (x ∷ xs) r
      → (0 < σ.count r) × (kind_of r ≡ 1) × (σ.mark r ≡ suc (length xs)) × ShowsChain σ xs (σ.kid r 0)
  unfolding ShowsChain
  chain_first x xs r h = (h.1, omega (arith, h.0), h.2, h.3)

  pub chain_entry : (x : Item ℕ) (xs : List (Item ℕ)) (r : ℕ) → ShowsChain σ (x ∷ xs) r → entry_at σ r ≡ x.entry
  unfolding ShowsChain
  chain_entry x xs r h = λ i. record { hash = h.4 i; key = h.5 i; value = h.6 i }

  -- the front of a chain, where there is one
  pub chain_some : (xs : List (Item ℕ)) (r : ℕ) → ShowsChain σ xs r → (r ≡ 0 → ⊥)
      → (0 < σ.count r) × (kind_of r ≡ 1) × (σ.mark r ≡ length xs)
  chain_some [] r h nz = absurd (nz (unfold ShowsChain in h))
  chain_some (x ∷ xs) r h nz = let C = chain_first x xs r h in (C.0, C.1, C.2)

  pub chain_live : (xs : List (Item ℕ)) (r : ℕ) → ShowsChain σ xs r → 0 < length xs → 0 < σ.count r
  chain_live [] r h some = absurd (omega arith)
  chain_live (x ∷ xs) r h some = (chain_first x xs r h).0

-- WHILE THE CHAIN IS MADE, from what was in ρ: the words w, where j cells are taken, `first` is in hand and c is the last entry
pub record Open (z : Shape) (ρ : State) (free : ℕ → List ℕ) (j first l : ℕ) (e : Entry) (c : ℕ) (w : List ℕ) : Type 0 where
  pub lent : Lent z w
  pub local : Local z (columns z w) (λ r. ind r first) (left (taking 1 j) free)
  pub grow : Grow ρ (columns z w)
  pub last : Last ρ (columns z w) l e c

-- WHEN IT IS MADE: xs stand behind c, and else what lived in w keeps its words
pub record Closed (z : Shape) (free : ℕ → List ℕ) (m first c : ℕ) (xs : List (Item ℕ)) (w : List ℕ) (s : Wrote) : Type 0 where
  pub next : ℕ
  pub at_is : s.at ≡ first
  pub kept : Kept z w s.words
  pub local : Local z (columns z s.words) (λ r. ind r first) (left (taking 1 m) free)
  pub grow : Grow (set_kid (columns z w) c 0 next) (columns z s.words)
  pub slots : SameSlots (columns z w) (columns z s.words)
  pub shows : ShowsChain (columns z s.words) xs next

-- the last entry holds a reference, as every cell does
pub last_ref : {z : Shape} {ρ : State} {free : ℕ → List ℕ} {j first l : ℕ} {e : Entry} {c : ℕ} {w : List ℕ}
    → Open z ρ free j first l e c w → 0 < refs z c
last_ref {c = c} O = live_cell O.local c O.last.live

-- ONE COPY MORE on the words: behind it stand the copies of what is behind the entry
pub copy_is : (z : Shape) (n c r : ℕ) (w : List ℕ) → names_kind z 1 r ≡ true → ((entry_copied z w r).at ≡ 0 → ⊥)
    → copied_on z (suc n) c r w
    ≡ copied_on z n (entry_copied z w r).at ((columns z w).kid r 0) (put_in_words z (entry_copied z w r).words c 0 (entry_copied z w r).at)
unfolding copied_on
copy_is z n c r w y nz = rw y (then_on (entry_copied z w r) _ nz)
