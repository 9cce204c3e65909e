-- The words that the writing of an update leaves: after the leaf, and after the path above it.
use Prim.Native.Nat.{ℕ}
use mathlib.Core.List.{List}
use Rattle.trie.specs.declared.Entry.{Entry}
use Rattle.layout.specs.declared.Shape.{Shape}
use Rattle.cells.specs.Mirrors.{Wrote}
use Rattle.chains.specs.Chains.{front_pushed}
use Rattle.grafts.specs.Grafts.{graft_from}
use Rattle.updates.specs.declared.Plan.{Plan}

module _ (z : Shape) (a : List ℕ) (x : Entry) (p : Plan) where
  unfoldable pub leaf_wrote : Wrote
  leaf_wrote = front_pushed z a p.length x p.tail.count p.tail.from p.tail.rest

  unfoldable pub root_wrote : Wrote
  root_wrote = graft_from z x.hash leaf_wrote.at p.replaced z.depths 0 p.root leaf_wrote.words
