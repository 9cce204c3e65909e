-- Which names an insert takes and which it gives up, as sums of any weight.
use mathlib.Core.Path.{◌≡◌, refl, ◌∙◌}
use mathlib.Core.List.{List, [], ◌∷◌}
use Prim.Native.Nat.{ℕ, suc, ◌+◌}
use native.Mathlib.Omega.{arith}
use lib.ListN.{length}
use Rattle.trie.specs.Canon.{Above, Asc}
use Rattle.trie.specs.Cells.{before, along}
use Rattle.trie.specs.declared.Entry.{Entry}
use Rattle.trie.specs.Entry.{absent}
use Rattle.trie.specs.Names.{cells, total, branch_sum, entry_sum, news, gone}
use Rattle.trie.specs.Trie.{leaf, single, chain, Node, Kids, none, kid, item, find, push_front}
use Rattle.trie.proofs.ChainLaws.{find_miss}
use Rattle.trie.proofs.InsertCases.{InsertCase, in_chain, replaced, deeper, apart, new_child, in_child}
use Rattle.trie.proofs.KidsLaws.{child_hit, child_only, child-put}
use Rattle.trie.proofs.PathLaws.{find_none, chain-leaf, hop_found, hop_missing}
use Rattle.trie.proofs.PathNames.{along-leaf, along-found, along-missing, Fresh, Fresh-leaf, Fresh-found}
use Rattle.trie.proofs.Sums.{removed_cells, gone-absent, before-absent, gone_hit, before_hit, put_new, put_old}

module _ (seg : ℕ → ℕ → ℕ) (W : Entry → Type 0) {X : Type 0} (b : ℕ → X) (f : ℕ → X) (e : Entry) (w : X → ℕ) where
  single_entries : entry_sum w (single f e) ≡ w (f 0)
  unfolding total cells
  single_entries = omega arith

  single_branches : branch_sum w (single f e) ≡ 0
  unfolding total
  single_branches = refl

  -- THE ENTRY CELLS: gone are those up to the replaced one, new are f 0 and one for each before it, all others stay
  pub insert_entries : {n : ℕ} {path : List ℕ} {m m' : Node X} → InsertCase seg W b f e n path m m'
      → entry_sum w m' + gone w e.hash e.key (chain seg n (length path) e.hash m)
      ≡ entry_sum w m + (w (f 0) + news w f 1 (before e.hash e.key (chain seg n (length path) e.hash m)))
  unfolding push_front chain total cells news Asc Above
  insert_entries (in_chain xs) = omega (arith, removed_cells w e.hash e.key f 1 xs)
  insert_entries (replaced x p) = rw (gone_hit w e.hash e.key x [] p, before_hit w e.hash e.key x [] p) (omega arith)
  insert_entries (deeper {n = n} {path = path} x p q r) =
      omega (arith, rw (chain-leaf seg n (suc (length path)) e.hash (x ∷ [])) at (insert_entries r))
  insert_entries (apart {path = path} x p q) =
      let a : find e.hash e.key (x ∷ []) ≡ absent = find_miss e.hash e.key x [] p ∙ find_none X e.hash e.key in
      rw (gone-absent w e.hash e.key (x ∷ []) a, before-absent w e.hash e.key (x ∷ []) a)
      (omega (
        arith,
        put_new (λ c. 0) (cells w) (b (length path)) (b (length path)) (seg (length path) e.hash) (single f e)
            (kid (seg (length path) x.entry.hash) (leaf (x ∷ [])) none) tt
            (child_only (seg (length path) e.hash) (seg (length path) x.entry.hash) (leaf (x ∷ [])) q),
        single_entries,
      ))
  insert_entries (new_child {n = n} {path = path} c ks asc all r) =
      let a : find {X = X} e.hash e.key [] ≡ absent = find_none X e.hash e.key in
      rw (
        hop_missing seg n (length path) e.hash c ks r,
        gone-absent w e.hash e.key [] a,
        before-absent w e.hash
            e.key [] a,
      )
      (omega (
        arith,
        put_new (λ c. 0) (cells w) (b (length path)) c (seg (length path) e.hash) (single f e) ks asc r,
        single_entries,
      ))
  insert_entries (in_child {n = n} {path = path} {m = m} {m' = m'} c ks asc all r i) =
      rw (hop_found seg n (length path) e.hash c ks m r)
      (omega (
        arith,
        put_old (λ c. 0) (cells w) (b (length path)) c (seg (length path) e.hash) m' m ks asc r,
        insert_entries
            i,
      ))

  -- THE BRANCHES ON THE PATH in the result are b t, b (t + 1), ..
  pub insert_Fresh : {n : ℕ} {path : List ℕ} {m m' : Node X} → InsertCase seg W b f e n path m m'
      → Fresh seg b e.hash w n (length path) m'
  insert_Fresh {path = path} (in_chain xs) = Fresh-leaf seg b e.hash w 0 (length path) _
  insert_Fresh (replaced {n = n} {path = path} x p) = Fresh-leaf seg b e.hash w (suc n) (length path) _
  insert_Fresh (deeper {n = n} {path = path} {m = m} x p q r) =
      Fresh-found seg b e.hash w n (length path) _ m (child_hit _ _ m none refl) (insert_Fresh r)
  insert_Fresh (apart {n = n} {path = path} x p q) =
      Fresh-found seg b e.hash w n (length path) _ (single f e) (child-put (seg (length path) e.hash) (single f e) _)
      (Fresh-leaf seg b e.hash w n (suc (length path)) _)
  insert_Fresh (new_child {n = n} {path = path} c ks asc all r) =
      Fresh-found seg b e.hash w n (length path) _ (single f e) (child-put (seg (length path) e.hash) (single f e) ks)
      (Fresh-leaf seg b e.hash w n (suc (length path)) _)
  insert_Fresh (in_child {n = n} {path = path} {m' = m'} c ks asc all r i) =
      Fresh-found seg b e.hash w n (length path) _ m' (child-put (seg (length path) e.hash) m' ks) (insert_Fresh i)

  -- THE BRANCH CELLS: gone are those on the old path, new are those on the new path, all others stay
  pub insert_branches : {n : ℕ} {path : List ℕ} {m m' : Node X} → InsertCase seg W b f e n path m m'
      → branch_sum w m' + along seg w n (length path) e.hash m ≡ branch_sum w m + along seg w n (length path) e.hash m'
  unfolding total Asc Above
  insert_branches (in_chain xs) = unfold along in refl
  insert_branches (replaced x p) = unfold along in refl
  insert_branches (deeper {n = n} {path = path} {m = m} x p q r) =
      omega (
        arith,
        insert_branches r,
        along-leaf seg w (suc n) (length path) e.hash (x ∷ []),
        along-leaf seg w n (suc (length path)) e.hash (x ∷ []),
        along-found seg w n (length path) e.hash (b (length path)) _ m
            (child_hit (seg (length path) e.hash) (seg (length path) e.hash) m none refl),
      )
  insert_branches (apart {n = n} {path = path} x p q) =
      let ks : Kids X = kid (seg (length path) x.entry.hash) (leaf (x ∷ [])) none in
      omega (
        arith,
        put_new w (λ xs. 0) (b (length path)) (b (length path)) (seg (length path) e.hash) (single f e) ks tt
            (child_only (seg (length path) e.hash) (seg (length path) x.entry.hash) (leaf (x ∷ [])) q),
        along-leaf seg w (suc n) (length path) e.hash (x ∷ []),
        along-leaf seg w n (suc (length path)) e.hash (item (f 0) e ∷ []),
        single_branches,
        along-found seg w n (length path) e.hash (b (length path)) _ (single f e)
            (child-put (seg (length path) e.hash) (single f e) ks),
      )
  insert_branches (new_child {n = n} {path = path} c ks asc all r) =
      omega (
        arith,
        put_new w (λ xs. 0) (b (length path)) c (seg (length path) e.hash) (single f e) ks asc r,
        along-missing seg w n (length path) e.hash c ks r,
        along-found seg w n (length path) e.hash (b (length path)) _ (single f e)
            (child-put (seg (length path) e.hash) (single f e) ks),
        along-leaf seg w n (suc (length path)) e.hash (item (f 0) e ∷ []),
        single_branches,
      )
  insert_branches (in_child {n = n} {path = path} {m = m} {m' = m'} c ks asc all r i) =
      omega (
        arith,
        put_old w (λ xs. 0) (b (length path)) c (seg (length path) e.hash) m' m ks asc r,
        insert_branches i,
        along-found seg w n (length path) e.hash c ks m r,
        along-found seg w n (length path) e.hash (b (length path)) _ m' (child-put (seg (length path) e.hash) m' ks),
      )
