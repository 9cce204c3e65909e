-- The path of a hash through the first t depths, the last segment first; what is asked of the children of a branch at a depth; and
-- what a node is if the tests of this crate see it.
use Rattle.std.proofs.Common.{◌≡◌, ℕ, zero, suc, true, List, [], ◌∷◌, length}
use Rattle.segments.specs.Segments.{segment}
use Rattle.trie.specs.Entry.{Word64}
use Rattle.trie.specs.Trie.{Node, Kids, listing_node}
use Rattle.trie.specs.Canon.{Some, Busy, Canon}
use Rattle.layout.specs.declared.Shape.{Shape}
use Rattle.layout.specs.Columns.{State}
use Rattle.arena.specs.Shows.{Shows}
use Rattle.audits.specs.Audits.{is_live}

unfoldable pub path_of : ℕ → ℕ → ℕ → List ℕ
path_of bits zero h = []
path_of bits (suc t) h = segment bits t h ∷ path_of bits t h

unfoldable pub asked : ℕ → Kids ℕ → Type 0
asked zero ks = Some ks
asked (suc t) ks = Busy ks

-- the node at r, at depth t with n depths left, whose leftmost entry is l and which has s entries
pub record SeenAs (z : Shape) (σ : State) (n t r l s : ℕ) : Type 0 where
  pub node : Node ℕ
  pub shows : Shows σ node t r
  pub canon : Canon (segment z.bits) Word64 (asked t) n (path_of z.bits t (σ.plain l 0)) node
  pub size : length (listing_node node) ≡ s
  pub lead : is_live z σ 1 l ≡ true
