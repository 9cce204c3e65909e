-- A removal on a map: what the reading pass says will be left of it, and what the writing of its new path comes to, where
-- something is left.
use Rattle.std.proofs.Common.{◌≡◌, ℕ, ◌≤◌, true, false, cond, List, [], ◌∷◌, length, sym, refl, ap, ◌∙◌, arith}
use Rattle.cases.proofs.Cases.{split}
use Rattle.counts.specs.Counts.{ind}
use Rattle.segments.specs.Segments.{segment}
use Rattle.layout.specs.declared.Shape.{Shape}
use Rattle.layout.specs.Layout.{Lent}
use Rattle.layout.specs.Columns.{State, columns}
use Rattle.trie.specs.Entry.{Word64, got, if_got}
use Rattle.trie.specs.Trie.{Node, leaf, branch, none, kid, Map, empty, root, updated, get, get_node, list_remove_first, is_empty, is_single, tidy, remove, remove_node}
use Rattle.trie.specs.Canon.{Some, Canonical}
use Rattle.trie.specs.Cells.{branches_on, remove_takes}
use Rattle.trie.proofs.CellLaws.{remove_branches_left}
use Rattle.trie.proofs.PathLaws.{chain_of}
use Rattle.trie.proofs.PathNames.{along-leaf}
use Rattle.trie.proofs.RemoveCases.{RemoveCase, remove_case}
use Rattle.arena.specs.Shows.{ShowsChain, ShowsMap}
use Rattle.arena.specs.Local.{Local}
use Rattle.arena.proofs.Shelved.{Good}
use Rattle.cells.proofs.Made.{taking, Made}
use Rattle.grafts.proofs.Meaning.{Names}
use Rattle.grafts.proofs.SeenLaws.{Celled}
use Rattle.prunes.specs.declared.Left.{Left}
use Rattle.prunes.specs.declared.Left.TheVariants.{Nothing, Single, More}
use Rattle.prunes.specs.Prunes.{left_from, prune_from}
use Rattle.prunes.proofs.LeftLaws.{left_of, left_means}
use Rattle.prunes.proofs.Meaning.{prune_means}
use Rattle.prunes.proofs.StepMeaning.{left_on}

-- what is left where a map is left, with so many branches on the path
unfoldable pub left_map : ℕ → Map ℕ → Left
left_map c empty = Nothing
left_map c (root m) = cond (is_single m) Single (More c)

-- anything that is the same of a single and of more is that of a map with a root
pub left_root : {A : Type 0} (g : Left → A) (y : A) (c : ℕ) (m : Node ℕ) → (is_single m ≡ true → g Single ≡ y) → g (More c) ≡ y
    → g (left_map c (root m)) ≡ y
unfolding left_map
left_root g y c m one more = split (is_single m) (λ e. rw e (one e)) (λ e. rw e more)

-- above a single stands no branch
pub single_branches : (seg : ℕ → ℕ → ℕ) (d h : ℕ) (m : Node ℕ) → is_single m ≡ true → branches_on seg d h (root m) ≡ 0
unfolding branches_on is_single
single_branches seg d h (leaf []) e = let n : ◌≡◌ {A = ℕ} 0 1 = cc in absurd (omega arith)
single_branches seg d h (leaf (x ∷ xs)) e = along-leaf seg (λ (c : ℕ). 1) d 0 h (x ∷ xs)
single_branches seg d h (branch c ks) e = let n : ◌≡◌ {A = ℕ} 0 1 = cc in absurd (omega arith)

-- NOTHING IS LEFT, OR A ROOT
module _ (c : ℕ) where
  none_of : (m : Node ℕ) → is_empty m ≡ true → left_of c m ≡ Nothing
  unfolding left_of is_empty
  none_of (leaf []) e = refl
  none_of (leaf (x ∷ xs)) e = let n : ◌≡◌ {A = ℕ} 0 1 = cc in absurd (omega arith)
  none_of (branch d none) e = refl
  none_of (branch d (kid i m ks)) e = let n : ◌≡◌ {A = ℕ} 0 1 = cc in absurd (omega arith)

  some_of : (m : Node ℕ) → is_empty m ≡ false → left_of c m ≡ cond (is_single m) Single (More c)
  unfolding left_of is_empty is_single
  some_of (leaf []) e = let n : ◌≡◌ {A = ℕ} 0 1 = cc in absurd (omega arith)
  some_of (leaf (x ∷ [])) e = refl
  some_of (leaf (x ∷ (y ∷ xs))) e = refl
  some_of (branch d none) e = let n : ◌≡◌ {A = ℕ} 0 1 = cc in absurd (omega arith)
  some_of (branch d (kid i m ks)) e = refl

tidy_left : (seg : ℕ → ℕ → ℕ) (d h c : ℕ) (m : Node ℕ) → c ≡ branches_on seg d h (root m)
    → left_of c m ≡ left_map (branches_on seg d h (tidy m)) (tidy m)
unfolding tidy left_map
tidy_left seg d h c m e =
    split (is_empty m) (λ y. rw y (none_of c m y)) (λ y. rw (y, ← e) (some_of c m y))

tidy-root : (m n : Node ℕ) → tidy m ≡ root n → (is_empty m ≡ false) × (m ≡ n)
unfolding tidy
tidy-root m n e =
    split (is_empty m)
    (λ y. let o : ◌≡◌ {A = ℕ} 0 1 = cc (rw y at e) in absurd (omega arith))
    (λ y. (y, cc (rw y at e)))

-- WHAT REMOVE MAKES OF A ROOT, where the key is there
module _ (seg : ℕ → ℕ → ℕ) (d : ℕ) (b f : ℕ → ℕ) (h k : ℕ) where
  removed_root : (n : Node ℕ) (m' : Map ℕ) (v : ℕ) → get_node seg d 0 h k n ≡ got v → remove seg d b f h k (root n) ≡ updated m'
      → tidy (remove_node seg b f d 0 h k n) ≡ m'
  unfolding remove if_got
  removed_root n m' v g q = cc (rw g at q)

module _ (z : Shape) (b f : ℕ → ℕ) (h k : ℕ) where
  root_case : (n : Node ℕ) → Good z (root n)
      → RemoveCase (segment z.bits) Word64 b f h k z.depths [] n (remove_node (segment z.bits) b f z.depths 0 h k n)
  unfolding Canonical
  root_case n c = remove_case (segment z.bits) Word64 b f h k z.depths [] Some n c

-- THE READING PASS
module _ {z : Shape} {σ : State} (C : Celled z σ) (b f : ℕ → ℕ) (h k v : ℕ) where
  pub map_left_means : (m m' : Map ℕ) → Good z m
      → get (segment z.bits) z.depths h k m ≡ got v → remove (segment z.bits) z.depths b f h k m ≡ updated m'
      → (r : ℕ) → ShowsMap σ m r
      → (l : ℕ) → l ≡ length (list_remove_first f 0 h k (chain_of (segment z.bits) z.depths h m))
      → left_from z σ h l z.depths 0 r ≡ left_map (remove_takes (segment z.bits) z.depths b f h k m).branches m'
  unfolding get ShowsMap chain_of
  map_left_means empty m' c g q r shown l e = let n : ◌≡◌ {A = ℕ} 0 1 = cc in absurd (omega arith)
  map_left_means (root n) m' c g q r shown l e =
      let seg = segment z.bits in
      let o = remove_node seg b f z.depths 0 h k n in
      rw (remove_branches_left seg z.depths b f (root n) h k m' q, ← removed_root seg z.depths b f h k n m' v g q)
      (left_means C b f h k v (root_case z b f h k n c) (omega arith) g r shown l e
      ∙ tidy_left seg z.depths h _ o (unfold branches_on in refl))

-- THE NEW PATH, where something is left: the map without the entry is shown, and as many branches are taken
module _ {z : Shape} {a : List ℕ} {free : ℕ → List ℕ} (l : Lent z a) (b f : ℕ → ℕ) (h k v x : ℕ) where
  pub map_prune_means : (m : Map ℕ) (n : Node ℕ) → Good z m
      → get (segment z.bits) z.depths h k m ≡ got v
      → remove (segment z.bits) z.depths b f h k m ≡ updated (root n) → Local z (columns z a) (λ q. ind q x) free
      → (r c : ℕ) → ShowsMap (columns z a) m r
      → ShowsChain (columns z a) (list_remove_first f 0 h k (chain_of (segment z.bits) z.depths h m)) x
      → c ≡ (remove_takes (segment z.bits) z.depths b f h k m).branches → c ≤ length (free 0) → Names b 0 free c
      → Made z a free (taking 0 c) (prune_from z h x z.depths 0 r a)
      × ShowsMap (columns z (prune_from z h x z.depths 0 r a).words) (root n) (prune_from z h x z.depths 0 r a).at
  unfolding get ShowsMap chain_of
  map_prune_means empty n good g q I r c shown end many room named = let y : ◌≡◌ {A = ℕ} 0 1 = cc in absurd (omega arith)
  map_prune_means (root o) n good g q I r c shown end many room named =
      let seg = segment z.bits in
      let (full, same) = tidy-root _ n (removed_root seg z.depths b f h k o (root n) v g q) in
      let e : c ≡ left_on z z.depths 0 h (remove_node seg b f z.depths 0 h k o)
      = many ∙ remove_branches_left seg z.depths b f (root o) h k (root n) q
      ∙ unfold branches_on in (ap (left_on z z.depths 0 h) (sym same)) in
      rw (e, ← same)
      (prune_means l b f h k v x I (root_case z b f h k o good) (omega arith) g r shown end full (omega arith) (rw e at named))
