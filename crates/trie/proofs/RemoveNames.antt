-- Which names a removal takes and which it gives up, as sums of any weight.
use mathlib.Core.Path.{◌≡◌, refl, sym, ◌∙◌, ap}
use mathlib.Core.Logic.{⊎_elim}
use mathlib.Core.List.{List, [], ◌∷◌}
use Prim.Native.Nat.{ℕ, suc, ◌+◌}
use native.Mathlib.Omega.{arith}
use lib.ListN.{length}
use Rattle.cases.proofs.Cases.{eq?}
use Rattle.trie.specs.Canon.{Asc}
use Rattle.trie.specs.Cells.{before, along}
use Rattle.trie.specs.declared.Entry.{Entry}
use Rattle.trie.specs.Entry.{got}
use Rattle.trie.specs.Names.{cells, total, branch_sum, entry_sum, news, gone}
use Rattle.trie.specs.Trie.{branch, Item, leaf, chain, Node, Kids, none, kid, found, child, put, take_out, find, list_remove_first, get_node, settle}
use Rattle.trie.proofs.KidsLaws.{child_hit, child_miss, child-put, child_take, all_child}
use Rattle.trie.proofs.PathLaws.{find_none, chain-leaf, hop_found, hop_missing}
use Rattle.trie.proofs.PathNames.{along-leaf, along-found, along-missing, news_next, Fresh, Fresh-leaf}
use Rattle.trie.proofs.RemoveCanon.{Left, settle-Left, remove_Left}
use Rattle.trie.proofs.RemoveCases.{lone, Pressed, stays, pressed, RemoveCase, at_leaf, not_below, below}
use Rattle.trie.proofs.Sums.{removed_cells, gone-absent, before-absent, total_only, put_old, take_old}

module _ (seg : ℕ → ℕ → ℕ) (W : Entry → Type 0) {X : Type 0} where
  -- the sums over settled children
  module _ (u : X → ℕ) (v : List (Item X) → ℕ) (v0 : v [] ≡ 0) (n : ℕ) (path : List ℕ) where
    pub settle-total : (c d : X) (s : ℕ) (m' l : Node X) (ks : Kids X) → Asc ks → child s ks ≡ found l → Left seg W n path l m'
        → total u v (branch c (settle s ks m')) + u d + total u v l ≡ total u v (branch d ks) + u c + total u v m'
    settle-total c d s m' l ks asc r left =
        settle-Left seg W (λ is. total u v (branch c is) + u d + total u v l ≡ total u v (branch d ks) + u c + total u v m') n
        path s ks l m'
        (λ q small. let z : total u v m' ≡ 0 = ap (total u v) q ∙ unfold total in v0 in omega (arith, take_old u v c d s l ks r))
        (λ a. put_old u v c d s m' l ks asc r) left

  module _ (w : X → ℕ) (n t h : ℕ) (path : List ℕ) where
    pub settle-along : (c : X) (m' l : Node X) (ks : Kids X) → Asc ks → Left seg W n path l m'
        → along seg w (suc n) t h (branch c (settle (seg t h) ks m')) ≡ w c + along seg w n (suc t) h m'
    settle-along c m' l ks asc left =
        settle-Left seg W (λ is. along seg w (suc n) t h (branch c is) ≡ w c + along seg w n (suc t) h m') n path (seg t h) ks l
        m'
        (λ q small. let z : along seg w n (suc t) h m' ≡ 0 = ap (along seg w n (suc t) h) q ∙ along-leaf seg w n (suc t) h [] in
        omega (arith, along-missing seg w n t h c (take_out (seg t h) ks) (child_take (seg t h) ks asc)))
        (λ a. along-found seg w n t h c (put (seg t h) m' ks) m' (child-put (seg t h) m' ks)) left

module _ {X : Type 0} (v : List (Item X) → ℕ) where
  pub press_total : (c : X) (ks : Kids X) (m : Node X) → Pressed c ks m → total (λ d. 0) v m ≡ total (λ d. 0) v (branch c ks)
  press_total c ks m (lone s x) = omega (arith, total_only (λ d. 0) v c s (leaf (x ∷ [])))
  press_total c ks m (stays k) = refl

module _ (seg : ℕ → ℕ → ℕ) {X : Type 0} (w : X → ℕ) (n t h : ℕ) where
  only_along : (c : X) (s : ℕ) (x : Item X) → along seg w (suc n) t h (branch c (kid s (leaf (x ∷ [])) none)) ≡ w c
  only_along c s x =
      ⊎_elim (λ q. omega (
        arith,
        along-found seg w n t h c (kid s (leaf (x ∷ [])) none) (leaf (x ∷ []))
            (child_hit (seg t h) s (leaf (x ∷ [])) none q),
        along-leaf seg w n (suc t) h (x ∷ []),
      ))
      (λ q. along-missing seg w n t h c (kid s (leaf (x ∷ [])) none)
      (child_miss (seg t h) s (leaf (x ∷ [])) none q ∙ unfold child in refl)) (eq? s (seg t h))

  -- what compress gives up is on the path
  pub press_along : (c : X) (ks : Kids X) (m : Node X) → Pressed c ks m
      → branch_sum w m + along seg w (suc n) t h (branch c ks) ≡ branch_sum w (branch c ks) + along seg w (suc n) t h m
  press_along c ks m (lone s x) =
      let z : branch_sum w (leaf (x ∷ [])) ≡ 0 = unfold total in refl in
      omega (arith, only_along c s x, total_only w (λ xs. 0) c s (leaf (x ∷ [])), along-leaf seg w (suc n) t h (x ∷ []))
  press_along c ks m (stays k) = refl

module _ (seg : ℕ → ℕ → ℕ) (W : Entry → Type 0) {X : Type 0} (b : ℕ → X) (f : ℕ → X) (h k : ℕ) (w : X → ℕ) where
  -- THE ENTRY CELLS: gone are those up to the removed one, new is one for each before it, all others stay
  pub remove_entries : {n : ℕ} {path : List ℕ} {m m' : Node X} → RemoveCase seg W b f h k n path m m'
      → entry_sum w m' + gone w h k (chain seg n (length path) h m)
      ≡ entry_sum w m + news w f 0 (before h k (chain seg n (length path) h m))
  remove_entries {n = n} {path = path} (at_leaf xs)
      = unfold total in (rw (chain-leaf seg n (length path) h xs) (removed_cells w h k f 0 xs))
  remove_entries (not_below {n = n} {path = path} c ks asc all r) =
      rw (
        hop_missing seg n (length path) h c ks r,
        gone-absent w h k [] (find_none X h k),
        before-absent w h k []
            (find_none X h k),
      ) (unfold news in refl)
  remove_entries (below {n = n} {path = path} {m = m} {m' = m'} c ks asc all r i) =
      rw (hop_found seg n (length path) h c ks m r)
      (omega (
        arith,
        press_total (cells w) (b (length path)) (settle (seg (length path) h) ks m') _
            (pressed (b (length path)) (settle (seg (length path) h) ks m')),
        settle-total seg W (λ d. 0) (cells w) (unfold cells in refl) n (seg (length path) h ∷ path) (b (length path)) c
            (seg (length path) h) m' m ks asc r
            (remove_Left seg W b f h k i (all_child _ (seg (length path) h) ks m all r)),
        remove_entries i,
      ))

  -- THE BRANCH CELLS: gone are those on the old path, new are those left on it, all others stay
  pub remove_branches : {n : ℕ} {path : List ℕ} {m m' : Node X} → RemoveCase seg W b f h k n path m m'
      → branch_sum w m' + along seg w n (length path) h m ≡ branch_sum w m + along seg w n (length path) h m'
  remove_branches {n = n} {path = path} (at_leaf xs)
      = unfold total in (rw (
        along-leaf seg w n (length path) h xs,
        along-leaf seg w n (length path) h
            (list_remove_first f 0 h k xs),
      ))
  remove_branches (not_below c ks asc all r) = refl
  remove_branches (below {n = n} {path = path} {m = m} {m' = m'} c ks asc all r i) =
      let l : Left seg W n (seg (length path) h ∷ path) m m'
      = remove_Left seg W b f h k i (all_child _ (seg (length path) h) ks m all r) in
      omega (
        arith,
        press_along seg w n (length path) h (b (length path)) (settle (seg (length path) h) ks m') _
            (pressed (b (length path)) (settle (seg (length path) h) ks m')),
        settle-total seg W w (λ xs. 0) refl n (seg (length path) h ∷ path) (b (length path)) c (seg (length path) h) m' m ks asc r
            l,
        settle-along seg W w n (length path) h (seg (length path) h ∷ path) (b (length path)) m' m ks asc l,
        along-found seg w n (length path) h c ks m r,
        remove_branches i,
      )

  Fresh-press : (n t : ℕ) (ks : Kids X) (m : Node X) → Pressed (b t) ks m → Fresh seg b h w (suc n) t (branch (b t) ks)
      → Fresh seg b h w (suc n) t m
  Fresh-press n t ks m (lone s x) i = Fresh-leaf seg b h w (suc n) t (x ∷ [])
  Fresh-press n t ks m (stays l) i = i

  -- THE BRANCHES LEFT ON THE PATH are b t, b (t + 1), ..
  pub remove_Fresh : {n : ℕ} {path : List ℕ} {m m' : Node X} → RemoveCase seg W b f h k n path m m' → (v : ℕ)
      → get_node seg n (length path) h k m ≡ got v
      → Fresh seg b h w n (length path) m'
  remove_Fresh {n = n} {path = path} (at_leaf xs) v g = Fresh-leaf seg b h w n (length path) _
  remove_Fresh (not_below {n = n} {path = path} c ks asc all r) v g =
      let z : ◌≡◌ {A = ℕ} 0 1 = cc (find_none X h k, hop_missing seg n (length path) h c ks r) in absurd (omega arith)
  remove_Fresh (below {n = n} {path = path} {m = m} {m' = m'} c ks asc all r i) v g =
      let t : ℕ = length path in
      let l : Left seg W n (seg t h ∷ path) m m' = remove_Left seg W b f h k i (all_child _ (seg t h) ks m all r) in
      Fresh-press n t (settle (seg t h) ks m') _ (pressed (b t) (settle (seg t h) ks m'))
      (settle-along seg W w n t h (seg t h ∷ path) (b t) m' m ks asc l
      ∙ ap (λ (z : ℕ). w (b t) + z) (remove_Fresh i v (sym (ap (find h k) (hop_found seg n t h c ks m r)) ∙ g))
      ∙ sym (news_next seg w b t (along seg (λ c. 1) n (suc t) h m') _
      (settle-along seg W (λ (c : X). 1) n t h (seg t h ∷ path) (b t) m' m ks asc l)))
