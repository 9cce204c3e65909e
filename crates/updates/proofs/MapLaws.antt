-- The new path of an update on a map, empty or with a root: the leaf at its end, how many branches stand above it, and what its
-- writing comes to.
use Prim.Native.Nat.{ℕ, zero, suc, ◌≤◌, ◌<◌}
use mathlib.Core.Path.{◌≡◌, refl, sym, ◌∙◌}
use mathlib.Core.Bool.{Bool}
use mathlib.Core.List.{List, [], ◌∷◌}
use native.Mathlib.Omega.{arith}
use lib.ListN.{length}
use Rattle.counts.specs.Counts.{ind}
use Rattle.segments.specs.Segments.{segment}
use Rattle.layout.specs.declared.Shape.{Shape}
use Rattle.layout.specs.Layout.{Lent}
use Rattle.layout.specs.Columns.{columns}
use Rattle.layout.proofs.SizeLaws.{row_is_Right}
use Rattle.trie.specs.declared.Entry.{Entry}
use Rattle.trie.specs.Entry.{Word64}
use Rattle.trie.specs.Trie.{Item, Node, kid, none, single, Map, empty, root, item, get, insert_node, insert}
use Rattle.trie.specs.Canon.{Some, Canonical}
use Rattle.trie.specs.Cells.{branches_on, insert_takes}
use Rattle.trie.proofs.InsertCases.{InsertCase, insert_case}
use Rattle.trie.proofs.KidsLaws.{child_hit}
use Rattle.trie.proofs.PathNames.{along-leaf, along-found}
use Rattle.arena.specs.Shows.{ShowsChain, ShowsMap}
use Rattle.arena.specs.Local.{Local}
use Rattle.arena.proofs.Shelved.{Good}
use Rattle.cells.proofs.Made.{taking, Made}
use Rattle.grafts.specs.Grafts.{graft_from}
use Rattle.grafts.proofs.CaseLaws.{has_key, leaf_of, cost_of, cost_along}
use Rattle.grafts.proofs.Meaning.{Names, graft_means, graft_empty_means}

-- insert on a map of this shape, and the branches that it takes
abbrev pub with_entry : Shape → (ℕ → ℕ) → (ℕ → ℕ) → Entry → Map ℕ → Map ℕ
with_entry z b f x m = insert (segment z.bits) z.depths b f x m

abbrev pub new_branches : Shape → (ℕ → ℕ) → (ℕ → ℕ) → Entry → Map ℕ → ℕ
new_branches z b f x m = (insert_takes (segment z.bits) z.depths b f x m).branches

module _ (z : Shape) (b f : ℕ → ℕ) (x : Entry) where
  pub root_case : (n : Node ℕ) → Good z (root n)
      → InsertCase (segment z.bits) Word64 b f x z.depths [] n (insert_node (segment z.bits) b f z.depths 0 x n)
  unfolding Canonical
  root_case n c = insert_case (segment z.bits) Word64 b f x z.depths [] Some n c

  -- the chain at the end of the new path
  unfoldable pub new_leaf : (m : Map ℕ) → Good z m → List (Item ℕ)
  new_leaf empty c = item (f 0) x ∷ []
  new_leaf (root n) c = leaf_of (root_case n c)

  -- HOW MANY BRANCHES
  pub root_branches : (n : Node ℕ) (c : Good z (root n)) → cost_of (root_case n c) ≡ new_branches z b f x (root n)
  unfolding insert_takes branches_on insert
  root_branches n c = cost_along (root_case n c)

one_branch : (seg : ℕ → ℕ → ℕ) (d : ℕ) (b f : ℕ → ℕ) (x : Entry) → 0 < d → (insert_takes seg d b f x empty).branches ≡ 1
unfolding insert_takes branches_on insert
one_branch seg zero b f x l = absurd (omega arith)
one_branch seg (suc d) b f x l =
    let w : ℕ → ℕ = λ c. 1 in
    omega (
      arith,
      along-found seg w d 0 x.hash (b 0) (kid (seg 0 x.hash) (single f x) none) (single f x)
          (child_hit (seg 0 x.hash) (seg 0 x.hash) (single f x) none refl),
      along-leaf seg w d 1 x.hash (item (f 0) x ∷ []),
    )

pub empty_branches : {z : Shape} {a : List ℕ} → Lent z a → (b f : ℕ → ℕ) (x : Entry) → new_branches z b f x empty ≡ 1
empty_branches {z} l b f x = one_branch (segment z.bits) z.depths b f x (row_is_Right z l.allowed).some_depths

-- WHAT THE NEW PATH COMES TO: the map with the entry put in it is shown, and as many branches are taken
module _ {z : Shape} {a : List ℕ} {free : ℕ → List ℕ} (l : Lent z a) (b f : ℕ → ℕ) (x : Entry) (leaf : ℕ) (there : Bool) where
  pub map_graft_means : (m : Map ℕ) (c : Good z m) (r n : ℕ) → Local z (columns z a) (λ q. ind q leaf) free
      → ShowsMap (columns z a) m r → ShowsChain (columns z a) (new_leaf z b f x m c) leaf
      → there ≡ has_key z x.hash x.key m
      → n ≡ new_branches z b f x m → n ≤ length (free 0) → Names b 0 free n
      → Made z a free (taking 0 n) (graft_from z x.hash leaf there z.depths 0 r a)
      × ShowsMap (columns z (graft_from z x.hash leaf there z.depths 0 r a).words) (with_entry z b f x m)
      (graft_from z x.hash leaf there z.depths 0 r a).at
  unfolding new_leaf ShowsMap insert get
  map_graft_means empty c r n I shown end is many room named =
      let one : n ≡ 1 = many ∙ empty_branches l b f x in
      rw (one, shown) (graft_empty_means l b f x leaf there z.depths refl I end (omega arith) (rw one at named))
  map_graft_means (root y) c r n I shown end is many room named =
      let e : n ≡ cost_of (root_case z b f x y c) = many ∙ sym (root_branches z b f x y c) in
      rw e
      (graft_means l b f x leaf there (root_case z b f x y c) (omega arith) I r shown end is (omega arith) (rw e at named))
