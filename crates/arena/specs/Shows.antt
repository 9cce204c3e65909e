-- What a reference shows: a named trie, the name of a cell being its number. By recursion on the trie, so that a shown trie is
-- finite whatever the words are. Document 01, "The arena": how slots and cells are laid out; what stands in quotes is document
-- 01's.
use Rattle.std.specs.Prelude.{ℕ, suc, ◌+◌, ◌^◌, ◌<◌, ◌≡◌, [], List, ◌∷◌, length}
use Rattle.layout.specs.declared.Shape.{Shape}
use Rattle.layout.specs.Layout.{reference}
use Rattle.layout.specs.Columns.{State}
use Rattle.trie.specs.Trie.{Node, leaf, branch, Kids, none, kid, Item, Map, empty, root, size}
use Rattle.trie.specs.Canon.{Asc}

-- a bit for each child's segment
unfoldable pub bitmap : {X : Type 0} → Kids X → ℕ
bitmap none = 0
bitmap (kid s n ks) = 2 ^ s + bitmap ks

-- a row without its first word
abbrev pub behind : (ℕ → ℕ) → ℕ → ℕ
behind f j = f (suc j)

module _ (σ : State) where
  -- "Entry cell: count, chain length from here, next, hash, key, value." A cell that is in use has a count that is not 0.
  unfoldable pub ShowsChain : List (Item ℕ) → ℕ → Type 0
  ShowsChain [] r = r ≡ 0
  ShowsChain (x ∷ xs) r =
      (r ≡ reference 1 x.cell)
      × (0 < σ.count r)
      × (σ.mark r ≡ suc (length xs))
      × ShowsChain xs (σ.kid r 0)
      × (σ.plain r 0 ≡ x.entry.hash)
      × (σ.plain r 1 ≡ x.entry.key)
      × (σ.plain r 2 ≡ x.entry.value)

  -- "Branch cell: count, depth, bitmap, children packed first, the other child words 0."
  unfoldable mutual
    pub Shows : Node ℕ → ℕ → ℕ → Type 0
    Shows (leaf []) t r = ⊥
    Shows (leaf (x ∷ xs)) t r = ShowsChain (x ∷ xs) r
    Shows (branch c ks) t r =
        (r ≡ reference 0 c)
        × (0 < σ.count r)
        × (σ.mark r ≡ t)
        × (σ.plain r 0 ≡ bitmap ks)
        × Asc ks
        × ShowsRow ks t (σ.kid r)

    pub ShowsRow : Kids ℕ → ℕ → (ℕ → ℕ) → Type 0
    ShowsRow none t f = (j : ℕ) → f j ≡ 0
    ShowsRow (kid s n ks) t f = Shows n (suc t) (f 0) × ShowsRow ks t (behind f)

  -- "The empty map .. takes no cell": its root is 0.
  unfoldable pub ShowsMap : Map ℕ → ℕ → Type 0
  ShowsMap empty r = r ≡ 0
  ShowsMap (root n) r = Shows n 0 r

-- a slot that is held: the map that its root shows, with its size
pub record Edition (z : Shape) (σ : State) (s : ℕ) (m : Map ℕ) : Type 0 where
  pub slot : s < z.slots
  pub held : σ.held s ≡ 1
  pub shows : ShowsMap σ m (σ.root s)
  pub sized : σ.size s ≡ size m
