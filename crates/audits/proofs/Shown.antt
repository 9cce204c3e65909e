-- What the tests of this crate give: the chain that an entry in use shows, and the free cells of a kind in their order.
use Prim.Native.Nat.{ℕ, ◌+◌, ◌≤◌, ◌<◌}
use mathlib.Core.Path.{◌≡◌}
use mathlib.Core.List.{List}
use lib.ListN.{length}
use Rattle.counts.specs.Counts.{ind, among}
use Rattle.trie.specs.Entry.{Word64}
use Rattle.trie.specs.Trie.{Item}
use Rattle.trie.specs.Canon.{AllItems, Distinct}
use Rattle.layout.specs.declared.Shape.{Shape}
use Rattle.layout.specs.Layout.{kind_of}
use Rattle.layout.specs.Columns.{State, refs}
use Rattle.arena.specs.Shows.{ShowsChain}
use Rattle.arena.specs.Sound.{Chain}
use Rattle.arena.specs.Local.{num}

-- the chain from the entry r on: one hash, no key twice
pub record ChainAt (z : Shape) (σ : State) (r : ℕ) : Type 0 where
  pub items : List (Item ℕ)
  pub shows : ShowsChain σ items r
  pub some : 0 < length items
  pub few : length items ≤ z.entries
  pub one_hash : AllItems (λ e. (e.hash ≡ σ.plain r 0) × Word64 e) items
  pub distinct : Distinct items

-- the free cells of kind k, each once on its chain
pub record FreeChain (z : Shape) (σ : State) (k : ℕ) : Type 0 where
  pub free : List ℕ
  pub chain : Chain σ.mark (σ.first k) free
  pub once : (r : ℕ) → 0 < refs z r → kind_of r ≡ k → among free r ≡ ind 0 (σ.count r)
  pub within : (r : ℕ) → 0 < among free r → (0 < refs z r) × (kind_of r ≡ k)
  pub used_ok : σ.used k + length free ≡ num z k
