-- What an update takes. The names in the result are the old ones, less those that it gives up (the branches on the old path;
-- the chain's entries up to the key), and new ones: b 0, b 1, .. and f 0, f 1, .., as many as document 01 counts. It is said
-- for every weight on names, so it says of each name how often it stands there.
use mathlib.Core.Path.{◌≡◌, refl, sym, ◌∙◌, ap}
use mathlib.Core.List.{[], ◌∷◌}
use Prim.Native.Nat.{ℕ, zero, suc, ◌+◌, ◌≤◌, ◌<◌}
use native.Mathlib.Omega.{arith}
use lib.ListN.{length}
use Rattle.trie.specs.Canon.{Some, Canon, Canonical}
use Rattle.trie.specs.Cells.{before, along, branches_on, stand_before, insert_takes, left_takes, remove_takes}
use Rattle.trie.specs.declared.Entry.{Entry}
use Rattle.trie.specs.Entry.{absent, got, if_got}
use Rattle.trie.specs.Names.{cells, total, branch_sum, entry_sum, on_map, news, gone}
use Rattle.trie.specs.Trie.{branch, leaf, single, chain, Node, none, kid, empty, root, Map, on_found, child, item, is_empty, remove_node, remove, Updated, not_there, updated, tidy, get, insert}
use Rattle.trie.proofs.CopyLaws.{Parts, before_there}
use Rattle.trie.proofs.InsertCases.{insert_case}
use Rattle.trie.proofs.InsertNames.{insert_entries, insert_Fresh, insert_branches}
use Rattle.trie.proofs.KidsLaws.{child_hit}
use Rattle.trie.proofs.MapLaws.{removal, Removal, taken_out}
use Rattle.trie.proofs.PathLaws.{chain_of, get_chain, before_chain}
use Rattle.trie.proofs.PathNames.{along-leaf, along-found, news_next, along_within, chain_within, along_most}
use Rattle.trie.proofs.RemoveCases.{remove_case}
use Rattle.trie.proofs.RemoveNames.{remove_entries, remove_branches, remove_Fresh}
use Rattle.trie.proofs.Sums.{total_only, gone_within, news_ones}

-- the depths are suc d
module _ (seg : ℕ → ℕ → ℕ) (d : ℕ) (W : Entry → Type 0) {X : Type 0} (b f : ℕ → X) (w : X → ℕ) where
  abbrev Good : Map X → Type 0
  Good m = Canonical seg W (suc d) m

  -- the branches on a hash's path, and the entries of its chain up to a key
  abbrev pub path_sum : ℕ → Map X → ℕ
  path_sum h m = on_map (along seg w (suc d) 0 h) m

  abbrev pub gone_sum : ℕ → ℕ → Map X → ℕ
  gone_sum h k m = on_map (λ n. gone w h k (chain seg (suc d) 0 h n)) m

  -- INSERT
  pub insert_branch_names : (e : Entry) (m : Map X) → Good m
      → on_map (branch_sum w) (insert seg (suc d) b f e m) + path_sum e.hash m
      ≡ on_map (branch_sum w) m + news w b 0 (insert_takes seg (suc d) b f e m).branches
  unfolding insert on_map insert_takes branches_on Canonical
  insert_branch_names e empty c =
      let one : along seg (λ (c : X). 1) (suc d) 0 e.hash (branch (b 0) (kid (seg 0 e.hash) (single f e) none)) ≡ 1 + 0
      = along-found seg (λ (c : X). 1) d 0 e.hash (b 0) (kid (seg 0 e.hash) (single f e) none) (single f e)
      (child_hit (seg 0 e.hash) (seg 0 e.hash) (single f e) none refl)
      ∙ ap (λ (z : ℕ). 1 + z) (along-leaf seg (λ (c : X). 1) d 1 e.hash (item (f 0) e ∷ [])) in
      omega (arith, total_only w (λ xs. 0) (b 0) (seg 0 e.hash) (single f e), leaf_none, news_next seg w b 0 0 _ one, no_news)
    where
      leaf_none : branch_sum w (single f e) ≡ 0
      leaf_none = unfold total in refl

      no_news : news w b 1 0 ≡ 0
      no_news = unfold news in refl
  insert_branch_names e (root m) c = omega (
    arith,
    insert_branches seg W b f e w (insert_case seg W b f e (suc d) [] Some m c),
    insert_Fresh seg W b f e w
        (insert_case seg W b f e (suc d) [] Some m c),
  )

  pub insert_entry_names : (e : Entry) (m : Map X) → Good m
      → on_map (entry_sum w) (insert seg (suc d) b f e m) + gone_sum e.hash e.key m
      ≡ on_map (entry_sum w) m + news w f 0 (insert_takes seg (suc d) b f e m).entries
  unfolding insert on_map insert_takes stand_before Canonical
  insert_entry_names e empty c = omega (
    arith,
    total_only (λ c. 0) (cells w) (b 0) (seg 0 e.hash) (single f e),
    one_entry,
    one_new,
  )
    where
      one_entry : entry_sum w (single f e) ≡ w (f 0) + 0
      one_entry = unfold total cells in refl

      one_new : news w f 0 1 ≡ w (f 0) + 0
      one_new = unfold news in refl
  insert_entry_names e (root m) c =
      omega (
        arith,
        insert_entries seg W b f e w (insert_case seg W b f e (suc d) [] Some m c),
        news_next seg w f 0
            (before e.hash e.key (chain seg (suc d) 0 e.hash m)) _ refl,
      )

  -- REMOVE
  tidy_branches : (h : ℕ) (m : Node X) → on_map (branch_sum w) (tidy m) + along seg w (suc d) 0 h m
      ≡ branch_sum w m + path_sum h (tidy m)
  unfolding tidy is_empty on_map total along child on_found
  tidy_branches h (leaf []) = refl
  tidy_branches h (leaf (x ∷ xs)) = refl
  tidy_branches h (branch c none) = omega arith
  tidy_branches h (branch c (kid s m ks)) = refl

  tidy_fresh : (h : ℕ) (m : Node X) → along seg w (suc d) 0 h m ≡ news w b 0 (along seg (λ c. 1) (suc d) 0 h m)
      → path_sum h (tidy m) ≡ news w b 0 (branches_on seg (suc d) h (tidy m))
  unfolding tidy is_empty on_map branches_on
  tidy_fresh h (leaf []) q = unfold news in refl
  tidy_fresh h (leaf (x ∷ xs)) q = q
  tidy_fresh h (branch c none) q = unfold news in refl
  tidy_fresh h (branch c (kid s m ks)) q = q

  Removal-branches : (h k : ℕ) {m m' : Map X} → Removal seg d W b f h k m m' → Good m
      → on_map (branch_sum w) m' + path_sum h m ≡ on_map (branch_sum w) m + news w b 0 (branches_on seg (suc d) h m')
  Removal-branches h k (taken_out n v g) c =
      let m' : Node X = remove_node seg b f (suc d) 0 h k n in
      let cn : Canon seg W Some (suc d) [] n = unfold Canonical in c in
      let root_sum : on_map (branch_sum w) (root n) ≡ branch_sum w n = unfold on_map in refl in
      let root_path : path_sum h (root n) ≡ along seg w (suc d) 0 h n = unfold on_map in refl in
      omega (
        arith,
        tidy_branches h m',
        tidy_fresh h m' (remove_Fresh seg W b f h k w (remove_case seg W b f h k (suc d) [] Some n cn) v g),
        remove_branches seg W b f h k w (remove_case seg W b f h k (suc d) [] Some n cn),
      )

  tidy_entries : (m : Node X) → on_map (entry_sum w) (tidy m) ≡ entry_sum w m
  unfolding tidy is_empty on_map total cells
  tidy_entries (leaf []) = refl
  tidy_entries (leaf (x ∷ xs)) = refl
  tidy_entries (branch c none) = refl
  tidy_entries (branch c (kid s m ks)) = refl

  Removal-entries : (h k : ℕ) {m m' : Map X} → Removal seg d W b f h k m m' → Good m
      → on_map (entry_sum w) m' + gone_sum h k m ≡ on_map (entry_sum w) m + news w f 0 (stand_before seg (suc d) h k m)
  unfolding stand_before
  Removal-entries h k (taken_out n v g) c =
      let m' : Node X = remove_node seg b f (suc d) 0 h k n in
      let root_sum : on_map (entry_sum w) (root n) ≡ entry_sum w n = unfold on_map in refl in
      let root_gone : gone_sum h k (root n) ≡ gone w h k (chain seg (suc d) 0 h n) = unfold on_map in refl in
      omega (
        arith,
        tidy_entries m',
        remove_entries seg W b f h k w
            (remove_case seg W b f h k (suc d) [] Some n (unfold Canonical in c)),
      )

  pub remove_branch_names : (h k : ℕ) (m m' : Map X) → remove seg (suc d) b f h k m ≡ updated m' → Good m
      → on_map (branch_sum w) m' + path_sum h m ≡ on_map (branch_sum w) m + news w b 0 (remove_takes seg (suc d) b f h k m).branches
  unfolding left_takes
  remove_branch_names h k m m' q c = rw q (Removal-branches h k (removal seg d W b f h k m m' q) c)

  pub remove_entry_names : (h k : ℕ) (m m' : Map X) → remove seg (suc d) b f h k m ≡ updated m' → Good m
      → on_map (entry_sum w) m' + gone_sum h k m ≡ on_map (entry_sum w) m + news w f 0 (remove_takes seg (suc d) b f h k m).entries
  unfolding left_takes
  remove_entry_names h k m m' q c = rw q (Removal-entries h k (removal seg d W b f h k m m' q) c)

  -- what is given up was there
  path_within : (h : ℕ) (m : Map X) → path_sum h m ≤ on_map (branch_sum w) m
  unfolding on_map
  path_within h empty = omega arith
  path_within h (root m) = along_within seg w (suc d) 0 h m

  gone_inside : (h k : ℕ) (m : Map X) → gone_sum h k m ≤ on_map (entry_sum w) m
  unfolding on_map
  gone_inside h k empty = omega arith
  gone_inside h k (root m) = omega (arith, gone_within w h k (chain seg (suc d) 0 h m), chain_within seg w (suc d) 0 h m)

  -- THE COUNTS: where a new name weighs 1 and an old one 0, the result weighs what document 01 counts
  module _ (new : (j : ℕ) → w (b j) ≡ 1) (m : Map X) (c : Good m) (old : on_map (branch_sum w) m ≡ 0) where
    pub insert_new_branches : (e : Entry)
        → on_map (branch_sum w) (insert seg (suc d) b f e m) ≡ (insert_takes seg (suc d) b f e m).branches
    insert_new_branches e =
        omega (
          arith,
          insert_branch_names e m c,
          path_within e.hash m,
          news_ones w b new 0 (insert_takes seg (suc d) b f e m).branches,
        )

    pub remove_new_branches : (h k : ℕ) (m' : Map X) → remove seg (suc d) b f h k m ≡ updated m'
        → on_map (branch_sum w) m' ≡ (remove_takes seg (suc d) b f h k m).branches
    remove_new_branches h k m' q =
        omega (
          arith,
          remove_branch_names h k m m' q c,
          path_within h m,
          news_ones w b new 0 (remove_takes seg (suc d) b f h k m).branches,
        )

  module _ (new : (j : ℕ) → w (f j) ≡ 1) (m : Map X) (c : Good m) (old : on_map (entry_sum w) m ≡ 0) where
    pub insert_new_entries : (e : Entry)
        → on_map (entry_sum w) (insert seg (suc d) b f e m) ≡ (insert_takes seg (suc d) b f e m).entries
    insert_new_entries e =
        omega (
          arith,
          insert_entry_names e m c,
          gone_inside e.hash e.key m,
          news_ones w f new 0 (insert_takes seg (suc d) b f e m).entries,
        )

    pub remove_new_entries : (h k : ℕ) (m' : Map X) → remove seg (suc d) b f h k m ≡ updated m'
        → on_map (entry_sum w) m' ≡ (remove_takes seg (suc d) b f h k m).entries
    remove_new_entries h k m' q =
        omega (
          arith,
          remove_entry_names h k m m' q c,
          gone_inside h k m,
          news_ones w f new 0 (remove_takes seg (suc d) b f h k m).entries,
        )

-- THE ENTRIES, by the chain at the end of the path
module _ (seg : ℕ → ℕ → ℕ) (d : ℕ) {X : Type 0} (b f : ℕ → X) (m : Map X) where
  stand_there : (h k v : ℕ) → get seg d h k m ≡ got v → (p : Parts h k (chain_of seg d h m))
      → stand_before seg d h k m ≡ length p.front
  stand_there h k v g p =
      before_chain seg d h k m
      ∙ before_there h k (chain_of seg d h m) v (sym (get_chain seg d h k m) ∙ g) p

  pub insert_entries_there : (e : Entry) (v : ℕ) → get seg d e.hash e.key m ≡ got v
      → (p : Parts e.hash e.key (chain_of seg d e.hash m)) → (insert_takes seg d b f e m).entries ≡ suc (length p.front)
  unfolding insert_takes
  insert_entries_there e v g p = omega (arith, stand_there e.hash e.key v g p)

  pub insert_entries_new : (e : Entry) → get seg d e.hash e.key m ≡ absent → (insert_takes seg d b f e m).entries ≡ 1
  unfolding insert_takes before if_got
  insert_entries_new e g =
      rw (before_chain seg d e.hash e.key m, sym (get_chain seg d e.hash e.key m) ∙ g)

  module _ (h k : ℕ) (m' : Map X) (q : remove seg d b f h k m ≡ updated m') where
    pub remove_entries_there : (v : ℕ) → get seg d h k m ≡ got v → (p : Parts h k (chain_of seg d h m))
        → (remove_takes seg d b f h k m).entries ≡ length p.front
    unfolding left_takes
    remove_entries_there v g p = rw q (stand_there h k v g p)

    pub remove_branches_left : (remove_takes seg d b f h k m).branches ≡ branches_on seg d h m'
    unfolding left_takes
    remove_branches_left = rw q

-- "AN EMPTY RESULT TAKES NONE"
module _ (seg : ℕ → ℕ → ℕ) (W : Entry → Type 0) {X : Type 0} (b f : ℕ → X) (h k : ℕ) where
  pub empty_takes_no_branch : (d : ℕ) (m : Map X) → remove seg d b f h k m ≡ updated empty
      → (remove_takes seg d b f h k m).branches ≡ 0
  unfolding branches_on
  empty_takes_no_branch d m q = remove_branches_left seg d b f m h k empty q

  pub empty_takes_no_entry : (d : ℕ) (m : Map X) → 0 < d → Canonical seg W d m → remove seg d b f h k m ≡ updated empty
      → (remove_takes seg d b f h k m).entries ≡ 0
  unfolding on_map remove
  empty_takes_no_entry zero m l c q = absurd (omega arith)
  empty_takes_no_entry (suc d) empty l c q = let n : ◌≡◌ {A = ℕ} 0 1 = cc in absurd (omega arith)
  empty_takes_no_entry (suc d) (root n) l c q =
      let w : X → ℕ = λ x. 1 in
      omega (
        arith,
        remove_entry_names seg d W b f w h k (root n) empty q c,
        gone_within w h k (chain seg (suc d) 0 h n),
        chain_within seg w (suc d) 0 h n,
        news_ones w f (λ j. refl) 0 (remove_takes seg (suc d) b f h k (root n)).entries,
      )

-- AT MOST ONE BRANCH CELL FOR EACH DEPTH
module _ (seg : ℕ → ℕ → ℕ) (d : ℕ) {X : Type 0} (b f : ℕ → X) (m : Map X) where
  branches_most : (h : ℕ) (m : Map X) → branches_on seg d h m ≤ d
  unfolding branches_on
  branches_most h empty = omega arith
  branches_most h (root m) = along_most seg d 0 h m

  pub insert_most : (e : Entry) → (insert_takes seg d b f e m).branches ≤ d
  unfolding insert_takes
  insert_most e = branches_most e.hash (insert seg d b f e m)

  pub remove_most : (h k : ℕ) → (remove_takes seg d b f h k m).branches ≤ d
  remove_most h k = go (remove seg d b f h k m)
    where
      go : (u : Updated X) → (left_takes seg d h k m u).branches ≤ d
      go not_there = unfold left_takes in (omega arith)
      go (updated m') = unfold left_takes in (branches_most h m')
