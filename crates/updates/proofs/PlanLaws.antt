-- On an edition the reading pass says what the trie's own insert takes and makes: its counts, whether the key is there, the size
-- afterwards, and the chains that the writers copy and share.
use Prim.Native.Nat.{ℕ, zero, suc, ◌+◌, ◌-◌, ◌^◌, ◌<◌}
use mathlib.Core.Path.{◌≡◌, refl, sym, ap, ◌∙◌}
use mathlib.Core.Bool.{true, false}
use mathlib.Core.List.{List, [], ◌∷◌, ◌++◌}
use native.Mathlib.Omega.{arith}
use lib.ListN.{length}
use Rattle.segments.specs.Segments.{segment}
use Rattle.layout.specs.declared.Shape.{Shape}
use Rattle.layout.specs.Layout.{names, Lent}
use Rattle.layout.specs.Columns.{State, columns}
use Rattle.layout.proofs.SizeLaws.{row_is_Right, small}
use Rattle.trie.specs.declared.Entry.{Entry}
use Rattle.trie.specs.Entry.{Word64, Got, absent, got}
use Rattle.trie.specs.Trie.{Item, Node, Map, empty, root, item, chain, push_front, get, size, insert}
use Rattle.trie.specs.Canon.{Canonical}
use Rattle.trie.specs.Cells.{insert_takes}
use Rattle.trie.proofs.CellLaws.{insert_entries_there, insert_entries_new}
use Rattle.trie.proofs.CopyLaws.{copies, Parts, removed_there, parts_length}
use Rattle.trie.proofs.MapLaws.{size-insert_there, size-insert_new}
use Rattle.trie.proofs.PathLaws.{chain_of}
use Rattle.arena.specs.Shows.{ShowsChain, ShowsMap}
use Rattle.arena.proofs.Few.{chain_few, size_few, columns_live}
use Rattle.arena.proofs.Shelved.{Good}
use Rattle.lookup.specs.Lookup.{path_end, hit_from, longest}
use Rattle.lookup.proofs.Meaning.{live_named}
use Rattle.lookup.proofs.SplitLaws.{split_rest, map_hit_there, map_hit_none}
use Rattle.cells.specs.Mirrors.{one_more}
use Rattle.cells.proofs.TakeLaws.{more_some}
use Rattle.chains.specs.Chains.{length_at, an_entry}
use Rattle.chains.proofs.LengthLaws.{length_shown, length_before}
use Rattle.grafts.specs.Grafts.{reaches, reach_from}
use Rattle.grafts.proofs.CaseLaws.{has_key, is_there_lem, is_absent, rest_of, leaf_there, leaf_new}
use Rattle.grafts.proofs.SeenLaws.{words_Celled}
use Rattle.grafts.proofs.ReachLaws.{reach_means, reach_empty_means}
use Rattle.updates.specs.declared.Plan.{Plan}
use Rattle.updates.specs.Calls.{replacing, adding, plan_of}
use Rattle.updates.proofs.MapLaws.{with_entry, new_branches, root_case, new_leaf, root_branches, empty_branches}
use Rattle.std.specs.Prelude.{Some, None}

-- what the plan p says of the map m below the root r, for new cells of these names: `copied` are the entries that are copied,
-- `behind` those that follow them in the old chain, and `shared` those that stand behind the copies in the new one
pub record Plans (z : Shape) (a : List ℕ) (b f : ℕ → ℕ) (x : Entry) (m : Map ℕ) (good : Good z m) (r : ℕ) (p : Plan)
    : Type 0 where
  pub branches_is : p.branches ≡ new_branches z b f x m
  pub more_is : one_more p.tail.count ≡ suc p.tail.count
  pub entries_is : suc p.tail.count ≡ (insert_takes (segment z.bits) z.depths b f x m).entries
  pub replaced_is : p.replaced ≡ has_key z x.hash x.key m
  pub size_is : p.size ≡ size (with_entry z b f x m)
  pub root_is : p.root ≡ r
  pub copied : List (Item ℕ)
  pub behind : List (Item ℕ)
  pub shared : List (Item ℕ)
  pub front_shown : ShowsChain (columns z a) (copied ++ behind) p.tail.from
  pub copied_length : length copied ≡ p.tail.count
  pub behind_length : 0 < p.tail.count → length behind ≡ suc (length shared)
  pub shared_shown : ShowsChain (columns z a) shared p.tail.rest
  pub length_is : p.length ≡ suc (p.tail.count + length shared)
  pub leaf_is : new_leaf z b f x m good ≡ item (f 0) x ∷ (copies f 1 copied ++ shared)

-- BY THE SEARCH
module _ (z : Shape) (a : List ℕ) (e h k : ℕ) where
  abbrev σ : State
  σ = columns z a

  abbrev end : ℕ
  end = path_end z σ h z.depths 0 (σ.root e)

  plan_there : (q : ℕ) → hit_from z σ h k (longest z) end ≡ Some q
      → plan_of z a e h k ≡ replacing z σ (σ.root e) (σ.size e) h end q
  unfolding plan_of
  plan_there q y = rw y

  plan_new : hit_from z σ h k (longest z) end ≡ None → plan_of z a e h k ≡ adding z σ (σ.root e) (σ.size e) h
  unfolding plan_of
  plan_new y = rw y

-- WHAT IS COUNTED
one_more_lem : (n : ℕ) → suc n < 2 ^ 64 → one_more n ≡ suc n
one_more_lem n l = more_some n (omega arith) ∙ omega arith

module _ (seg : ℕ → ℕ → ℕ) (b f : ℕ → ℕ) (x : Entry) (m : Map ℕ) where
  size_there : (d v : ℕ) → 0 < d → Canonical seg Word64 d m → get seg d x.hash x.key m ≡ got v
      → size (insert seg d b f x m) ≡ size m
  size_there zero v l c g = absurd (omega arith)
  size_there (suc d) v l c g = size-insert_there seg d Word64 b f x m v c g

  size_new : (d : ℕ) → 0 < d → Canonical seg Word64 d m → get seg d x.hash x.key m ≡ absent
      → size (insert seg d b f x m) ≡ suc (size m)
  size_new zero l c g = absurd (omega arith)
  size_new (suc d) l c g = size-insert_new seg d Word64 b f x m c g

module _ {z : Shape} {a : List ℕ} (l : Lent z a) (b f : ℕ → ℕ) (e h k v : ℕ) where
  abbrev ρ : State
  ρ = columns z a

  abbrev r : ℕ
  r = ρ.root e

  abbrev x : Entry
  x = an_entry h k v

  abbrev front : ℕ
  front = path_end z ρ h z.depths 0 r

  named : (q : ℕ) → 0 < ρ.count q → names z q ≡ true
  named = live_named z a l.allowed

  some_depths : 0 < z.depths
  some_depths = (row_is_Right z l.allowed).some_depths

  -- a chain's length, and a map's size, can be counted
  chain_small : (xs : List (Item ℕ)) (q : ℕ) → ShowsChain ρ xs q → suc (length xs) < 2 ^ 64
  chain_small xs q c =
      omega (
        arith,
        chain_few z ρ (columns_live z a (omega (arith, (small z l.allowed).degree_low))) xs q c,
        l.allowed.few_entries,
      )

  map_small : (m : Map ℕ) → Good z m → ShowsMap ρ m r → suc (size m) < 2 ^ 64
  map_small m good shown =
      omega (
        arith,
        size_few z ρ (columns_live z a (omega (arith, (small z l.allowed).degree_low))) (segment z.bits) Word64
            z.depths m r good shown,
        l.allowed.few_entries,
      )

  -- THE KEY IS THERE
  there_leaf : (n : Node ℕ) (good : Good z (root n)) (w : ℕ) → get (segment z.bits) z.depths h k (root n) ≡ got w
      → (p : Parts h k (chain_of (segment z.bits) z.depths h (root n)))
      → new_leaf z b f x (root n) good ≡ item (f 0) x ∷ (copies f 1 p.front ++ p.rest)
  unfolding new_leaf get chain_of push_front
  there_leaf n good w g p =
      leaf_there (root_case z b f x n good) w g
      ∙ ap (λ (xs : List (Item ℕ)). item (f 0) x ∷ xs)
      (removed_there h k (chain (segment z.bits) z.depths 0 h n) f 1 w g p)

  there_branches : (n : Node ℕ) (good : Good z (root n)) (w : ℕ) → ShowsMap ρ (root n) r
      → get (segment z.bits) z.depths h k (root n) ≡ got w
      → (reach_from z ρ h true z.depths 0 r).branches ≡ new_branches z b f x (root n)
  unfolding ShowsMap get
  there_branches n good w shown g =
      omega (
        arith,
        (reach_means (words_Celled l) b f x true (root_case z b f x n good) r shown (sym (is_there_lem w refl g))).0,
        root_branches z b f x n good,
      )

  Plans-there : (n : Node ℕ) (good : Good z (root n)) (w : ℕ) → ShowsMap ρ (root n) r → ρ.size e ≡ size (root n)
      → get (segment z.bits) z.depths h k (root n) ≡ got w → Plans z a b f x (root n) good r (plan_of z a e h k)
  unfolding replacing
  Plans-there n good w shown sized g =
      let (q, y, s) = map_hit_there z a l.allowed Word64 h k (root n) r good shown w g in
      let p : Parts h k (chain_of (segment z.bits) z.depths h (root n)) = s.parts in
      let ahead : length_at z ρ front - length_at z ρ q ≡ length p.front = length_before z ρ named s in
      rw (plan_there z a e h k q y)
      (record {
        branches_is = there_branches n good w shown g;
        more_is =
            one_more_lem _ (omega (arith, ahead, parts_length h k _ p, chain_small _ _ s.all_shown));
        entries_is = omega (arith, ahead, insert_entries_there (segment z.bits) z.depths b f (root n) x w g p);
        replaced_is = sym (is_there_lem w refl g);
        size_is = sized ∙ sym (size_there (segment z.bits) b f x (root n) z.depths w some_depths good g);
        root_is = refl;
        copied = p.front;
        behind = p.at ∷ p.rest;
        shared = p.rest;
        front_shown = rw p.whole at s.all_shown;
        copied_length = omega (arith, ahead);
        behind_length = λ some. refl;
        shared_shown = split_rest s;
        length_is = omega (arith, ahead, length_shown z ρ named _ _ s.all_shown, parts_length h k _ p);
        leaf_is = there_leaf n good w g p;
      })

  -- IT IS NOT: ys stand at the new path's end
  Plans-new : (m : Map ℕ) (good : Good z m) (ys : List (Item ℕ)) → ShowsMap ρ m r → ρ.size e ≡ size m
      → get (segment z.bits) z.depths h k m ≡ absent
      → ((reach_from z ρ h false z.depths 0 r).branches ≡ new_branches z b f x m)
      × ShowsChain ρ ys (reach_from z ρ h false z.depths 0 r).behind
      → new_leaf z b f x m good ≡ item (f 0) x ∷ ys → Plans z a b f x m good r (plan_of z a e h k)
  unfolding adding ShowsChain copies
  Plans-new m good ys shown sized g (branches, rest) leaf =
      let len : length_at z ρ (reach_from z ρ h false z.depths 0 r).behind ≡ length ys = length_shown z ρ named ys _ rest in
      rw (plan_new z a e h k (map_hit_none z a l.allowed Word64 h k m r good shown g))
      (record {
        branches_is = branches;
        more_is = one_more_lem 0 (omega arith);
        entries_is = sym (insert_entries_new (segment z.bits) z.depths b f m x g);
        replaced_is = sym (is_absent refl g);
        size_is =
            ap one_more sized ∙ one_more_lem (size m) (map_small m good shown)
            ∙ sym (size_new (segment z.bits) b f x m z.depths some_depths good g);
        root_is = refl;
        copied = [];
        behind = [];
        shared = ys;
        front_shown = refl;
        copied_length = refl;
        behind_length = λ some. absurd (omega arith);
        shared_shown = rest;
        length_is = ap one_more len ∙ one_more_lem (length ys) (chain_small ys _ rest) ∙ omega arith;
        leaf_is = leaf;
      })

  Plans-absent : (n : Node ℕ) (good : Good z (root n)) → ShowsMap ρ (root n) r → ρ.size e ≡ size (root n)
      → get (segment z.bits) z.depths h k (root n) ≡ absent → Plans z a b f x (root n) good r (plan_of z a e h k)
  unfolding ShowsMap get new_leaf
  Plans-absent n good shown sized g =
      let R = reach_means (words_Celled l) b f x false (root_case z b f x n good) r shown (sym (is_absent refl g)) in
      Plans-new (root n) good (rest_of (root_case z b f x n good)) shown sized g
      (omega (arith, R.0, root_branches z b f x n good), R.1) (leaf_new (root_case z b f x n good) g)

  Plans-empty : (good : Good z empty) → ShowsMap ρ empty r → ρ.size e ≡ size {X = ℕ} empty
      → Plans z a b f x empty good r (plan_of z a e h k)
  unfolding ShowsMap get new_leaf
  Plans-empty good shown sized =
      let R : reach_from z ρ h false z.depths 0 r ≡ reaches 1 0
      = rw shown (reach_empty_means (words_Celled l) h false z.depths refl) in
      Plans-new empty good [] shown sized refl (rw R (sym (empty_branches l b f x), unfold ShowsChain in refl)) refl

  -- EITHER
  pub plan_means : (m : Map ℕ) (good : Good z m) → ShowsMap (columns z a) m ((columns z a).root e) → (columns z a).size e ≡ size m
      → Plans z a b f (an_entry h k v) m good ((columns z a).root e) (plan_of z a e h k)
  plan_means empty good shown sized = Plans-empty good shown sized
  plan_means (root n) good shown sized = by (get (segment z.bits) z.depths h k (root n)) refl
    where
      by : (g : Got) → get (segment z.bits) z.depths h k (root n) ≡ g → Plans z a b f x (root n) good r (plan_of z a e h k)
      by (got w) g = Plans-there n good w shown sized g
      by absent g = Plans-absent n good shown sized g
