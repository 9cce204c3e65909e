-- An update uses no other names than those that it counts: two supplies that agree on these make the same map. The branches on
-- the path in the result are named b t, b (t + 1), .., the entries before the key f 0, f 1, ..; nothing is asked of the map.
use mathlib.Core.Path.{◌≡◌, refl, sym, ◌∙◌, ap, ap₂}
use mathlib.Core.Logic.{⊎_elim}
use mathlib.Core.List.{List, [], ◌∷◌}
use Prim.Native.Nat.{ℕ, zero, suc, ◌+◌, ◌≤◌, ◌<◌}
use native.Mathlib.Omega.{arith}
use Rattle.cases.proofs.Cases.{split, eq?}
use Rattle.trie.specs.Cells.{ahead, before, along, branches_on, stand_before, insert_takes, left_takes, remove_takes}
use Rattle.trie.specs.declared.Entry.{Entry}
use Rattle.trie.specs.Entry.{matches, Got, absent, got, if_got}
use Rattle.trie.specs.Trie.{branch, Item, leaf, single, chain, Node, Kids, none, kid, empty, root, Map, Found, missing, found, child, put, item, copied, find, get_node, list_remove_first, push_front, insert_node, is_empty, is_single, settle, compress, remove_node, remove, updated, not_there, tidy, insert}
use Rattle.trie.proofs.ChainLaws.{copied_hit, copied_miss}
use Rattle.trie.proofs.CopyLaws.{ahead_miss}
use Rattle.trie.proofs.InsertCases.{insert_same, insert_deep, insert_apart, insert_new, insert_at}
use Rattle.trie.proofs.KidsLaws.{child_hit, child_only, child-put, found-missing, same_node}
use Rattle.trie.proofs.PathLaws.{chain-leaf, hop_found}
use Rattle.trie.proofs.PathNames.{along-leaf, along-found}
use Rattle.trie.proofs.RemoveCases.{remove_not, remove_at, remove_leaf, Pressed, lone, stays, pressed, settle_empty, settle_full}
use Rattle.trie.proofs.RenameNodes.{empty_rename, remove_rename}

-- two supplies agree from lo on, below hi
abbrev SameFrom : {X : Type 0} → (g g' : ℕ → X) → ℕ → ℕ → Type 0
SameFrom g g' lo hi = (i : ℕ) → lo ≤ i → i < hi → g i ≡ g' i

-- CHAINS
module _ {X : Type 0} (f f' : ℕ → X) (h k : ℕ) where
  copied_same : (j : ℕ) (xs : List (Item X)) → SameFrom f f' j (j + ahead h k xs) → copied f j h k xs ≡ copied f' j h k xs
  copied_same j [] a = unfold copied in refl
  copied_same j (x ∷ xs) a =
      split (matches h k x.entry) (λ p. copied_hit f j h k x xs p ∙ sym (copied_hit f' j h k x xs p))
      (λ p. let more : ahead h k (x ∷ xs) ≡ suc (ahead h k xs) = ahead_miss h k x xs p in
      copied_miss f j h k x xs p
      ∙ ap₂ (λ c l. item c x.entry ∷ l) (a j (omega arith) (omega (arith, more)))
      (copied_same (suc j) xs (λ i l u. a i (omega arith) (omega (arith, more))))
      ∙ sym (copied_miss f' j h k x xs p))

  removed_same : (j : ℕ) (xs : List (Item X)) → SameFrom f f' j (j + before h k xs)
      → list_remove_first f j h k xs ≡ list_remove_first f' j h k xs
  unfolding list_remove_first before
  removed_same j xs = go (find h k xs)
    where
      go : (o : Got) → SameFrom f f' j (j + if_got o (ahead h k xs) 0)
          → if_got o (copied f j h k xs) xs ≡ if_got o (copied f' j h k xs) xs
      go absent a = unfold if_got in refl
      go (got v) a = unfold if_got in (copied_same j xs (unfold if_got in a))

-- NODES
module _ (seg : ℕ → ℕ → ℕ) {X : Type 0} (b f b' f' : ℕ → X) where
  abbrev Counted : ℕ → ℕ → ℕ → Node X → Type 0
  Counted n t h m = SameFrom b b' t (t + along seg (λ c. 1) n t h m)

  abbrev Before : ℕ → ℕ → ℕ → ℕ → ℕ → Node X → Type 0
  Before j n t h k m = SameFrom f f' 0 (j + before h k (chain seg n t h m))

  -- a branch on the path counts, and then those below it
  one_down : (n t h : ℕ) (c : X) (ks : Kids X) (m : Node X) → child (seg t h) ks ≡ found m → Counted (suc n) t h (branch c ks)
      → (b t ≡ b' t) × Counted n (suc t) h m
  one_down n t h c ks m e a =
      let more : along seg (λ c. 1) (suc n) t h (branch c ks) ≡ 1 + along seg (λ c. 1) n (suc t) h m
      = along-found seg (λ c. 1) n t h c ks m e in
      (a t (omega arith) (omega (arith, more)), λ i l u. a i (omega arith) (omega (arith, more)))

  -- INSERT
  module _ (x : Entry) where
    single_same : (c : ℕ) → SameFrom f f' 0 (1 + c) → single f x ≡ single f' x
    single_same c a = ap (λ y. leaf (item y x ∷ [])) (a 0 (omega arith) (omega arith))

    insert_node_lem : (n t : ℕ) (m : Node X) → Counted n t x.hash (insert_node seg b f n t x m)
        → Before 1 n t x.hash x.key m → insert_node seg b f n t x m ≡ insert_node seg b' f' n t x m
    insert_node_lem zero t (leaf xs) a z = unfold insert_node push_front in
        (ap₂ (λ c l. leaf (item c x ∷ l)) (z 0 (omega arith) (omega arith))
        (removed_same f f' x.hash x.key 1 xs (λ i l u. z i (omega arith) (rw (chain-leaf seg 0 t x.hash xs) u))))
    insert_node_lem zero t (branch c ks) a z = unfold insert_node in refl
    insert_node_lem (suc n) t (leaf []) a z = unfold insert_node in (single_same _ z)
    insert_node_lem (suc n) t (leaf (y ∷ ys)) a z =
        let s : ℕ = seg t x.hash in
        let m : Node X = leaf (y ∷ ys) in
        split (matches x.hash x.key y.entry)
        (λ p. insert_same seg b f n t x y ys p ∙ single_same _ z ∙ sym (insert_same seg b' f' n t x y ys p))
        (λ p. ⊎_elim
        (λ q. let (e, r) = one_down n t x.hash (b t) (kid s (insert_node seg b f n (suc t) x m) none)
        (insert_node seg b f n (suc t) x m) (child_hit s s _ none refl) (rw (← insert_deep seg b f n t x y ys p q) a) in
        insert_deep seg b f n t x y ys p q
        ∙ ap₂ (λ c l. branch c (kid s l none)) e (insert_node_lem n (suc t) m r
        (rw (chain-leaf seg n (suc t) x.hash (y ∷ ys), ← chain-leaf seg (suc n) t x.hash (y ∷ ys)) z))
        ∙ sym (insert_deep seg b' f' n t x y ys p q))
        (λ q. let ks : Kids X = kid (seg t y.entry.hash) m none in
        let (e, r) = one_down n t x.hash (b t) (put s (single f x) ks) (single f x) (child-put s (single f x) ks)
        (rw (← insert_apart seg b f n t x y ys p q) a) in
        insert_apart seg b f n t x y ys p q
        ∙ ap₂ (λ c l. branch c (put s l ks)) e (single_same _ z)
        ∙ sym (insert_apart seg b' f' n t x y ys p q)) (eq? (seg t y.entry.hash) s))
    insert_node_lem (suc n) t (branch c ks) a z = go (λ m. insert_node_lem n (suc t) m) (child (seg t x.hash) ks) refl
      where
        go : ((m : Node X) → Counted n (suc t) x.hash (insert_node seg b f n (suc t) x m)
            → Before 1 n (suc t) x.hash x.key m → insert_node seg b f n (suc t) x m ≡ insert_node seg b' f' n (suc t) x m)
            → (o : Found X) → child (seg t x.hash) ks ≡ o
            → insert_node seg b f (suc n) t x (branch c ks) ≡ insert_node seg b' f' (suc n) t x (branch c ks)
        go ih missing q =
            let (e, r) = one_down n t x.hash (b t) _ (single f x) (child-put (seg t x.hash) (single f x) ks)
            (rw (← insert_new seg b f n t x c ks q) a) in
            insert_new seg b f n t x c ks q
            ∙ ap₂ (λ c l. branch c (put (seg t x.hash) l ks)) e (single_same _ z)
            ∙ sym (insert_new seg b' f' n t x c ks q)
        go ih (found m) q =
            let (e, r) = one_down n t x.hash (b t) _ (insert_node seg b f n (suc t) x m)
            (child-put (seg t x.hash) (insert_node seg b f n (suc t) x m) ks) (rw (← insert_at seg b f n t x c ks m q) a) in
            insert_at seg b f n t x c ks m q
            ∙ ap₂ (λ c l. branch c (put (seg t x.hash) l ks)) e (ih m r (rw (← hop_found seg n t x.hash c ks m q) z))
            ∙ sym (insert_at seg b' f' n t x c ks m q)

  -- REMOVE. Whether nothing is left does not depend on names.
  module _ (h k : ℕ) where
    empty_same : (n t : ℕ) (m : Node X) → is_empty (remove_node seg b f n t h k m) ≡ is_empty (remove_node seg b' f' n t h k m)
    empty_same n t m =
        sym (empty_rename {Y = Unit {0}} (λ c. tt) (remove_node seg b f n t h k m))
        ∙ ap is_empty (remove_rename (λ c. tt) seg b f n t h k m ∙ sym (remove_rename (λ c. tt) seg b' f' n t h k m))
        ∙ empty_rename {Y = Unit {0}} (λ c. tt) (remove_node seg b' f' n t h k m)

    -- a branch that is compressed uses no name: what stays counts
    compress_same : (n t : ℕ) (ks : Kids X) → Counted (suc n) t h (compress (b t) ks) → compress (b t) ks ≡ compress (b' t) ks
    compress_same n t ks a = go ks (compress (b t) ks) (pressed (b t) ks) a
      where
        go : (ks : Kids X) (m : Node X) → Pressed (b t) ks m → Counted (suc n) t h m → compress (b t) ks ≡ compress (b' t) ks
        go _ _ (lone s x) a = unfold compress is_single in refl
        go _ _ (stays ks) a = ap (λ c. compress c ks) (a t (omega arith) (unfold along in (omega arith)))

    compress_down : (n t : ℕ) (ks : Kids X) (m : Node X) → child (seg t h) ks ≡ found m
        → Counted (suc n) t h (compress (b t) ks) → Counted n (suc t) h m
    compress_down n t ks m e a = go ks (compress (b t) ks) (pressed (b t) ks) e a
      where
        go : (ks : Kids X) (r : Node X) → Pressed (b t) ks r → child (seg t h) ks ≡ found m → Counted (suc n) t h r
            → Counted n (suc t) h m
        go _ _ (lone s x) e a =
            let l : leaf (x ∷ []) ≡ m = ⊎_elim (λ q. same_node _ _ (sym (child_hit (seg t h) s _ none q) ∙ e))
            (λ q. absurd (found-missing m (sym (child_only (seg t h) s _ q) ∙ e))) (eq? s (seg t h)) in
            rw (← l) (λ i u v. absurd (omega (arith, along-leaf seg (λ (c : X). 1) n (suc t) h (x ∷ []))))
        go _ _ (stays ks) e a = (one_down n t h (b t) ks m e a).1

    leaf_same : (n t : ℕ) (xs : List (Item X)) → Before 0 n t h k (leaf xs)
        → remove_node seg b f n t h k (leaf xs) ≡ remove_node seg b' f' n t h k (leaf xs)
    leaf_same n t xs z =
        remove_leaf seg b f n t h k xs
        ∙ ap leaf (removed_same f f' h k 0 xs (rw (← chain-leaf seg n t h xs) z))
        ∙ sym (remove_leaf seg b' f' n t h k xs)

    remove_node_lem : (n t : ℕ) (m : Node X) → Counted n t h (remove_node seg b f n t h k m) → Before 0 n t h k m
        → remove_node seg b f n t h k m ≡ remove_node seg b' f' n t h k m
    remove_node_lem zero t (leaf xs) a z = leaf_same zero t xs z
    remove_node_lem zero t (branch c ks) a z = unfold remove_node in refl
    remove_node_lem (suc n) t (leaf xs) a z = leaf_same (suc n) t xs z
    remove_node_lem (suc n) t (branch c ks) a z = go (λ m. remove_node_lem n (suc t) m) (child (seg t h) ks) refl
      where
        go : ((m : Node X) → Counted n (suc t) h (remove_node seg b f n (suc t) h k m) → Before 0 n (suc t) h k m
            → remove_node seg b f n (suc t) h k m ≡ remove_node seg b' f' n (suc t) h k m)
            → (o : Found X) → child (seg t h) ks ≡ o
            → remove_node seg b f (suc n) t h k (branch c ks) ≡ remove_node seg b' f' (suc n) t h k (branch c ks)
        go ih missing q = remove_not seg b f n t h k c ks q ∙ sym (remove_not seg b' f' n t h k c ks q)
        go ih (found m) q =
            let s : ℕ = seg t h in
            let r : Node X = remove_node seg b f n (suc t) h k m in
            let r' : Node X = remove_node seg b' f' n (suc t) h k m in
            let a₁ : Counted (suc n) t h (compress (b t) (settle s ks r)) = rw (← remove_at seg b f n t h k c ks m q) a in
            remove_at seg b f n t h k c ks m q
            ∙ compress_same n t (settle s ks r) a₁
            ∙ ap (compress (b' t)) (split (is_empty r)
            (λ p. settle_empty s ks r p ∙ sym (settle_empty s ks r' (sym (empty_same n (suc t) m) ∙ p)))
            (λ p. ap (settle s ks) (ih m
            (compress_down n t (settle s ks r) r (ap (child s) (settle_full s ks r p) ∙ child-put s r ks) a₁)
            (rw (← hop_found seg n t h c ks m q) z))))
            ∙ sym (remove_at seg b' f' n t h k c ks m q)

-- MAPS. The first insert makes a branch, and it counts where there is a depth.
root_counts : (seg : ℕ → ℕ → ℕ) (d h : ℕ) {X : Type 0} (c : X) (ks : Kids X) → 0 < d
    → 0 < along seg (λ c. 1) d 0 h (branch c ks)
root_counts seg zero h c ks l = absurd (omega arith)
root_counts seg (suc d) h c ks l = unfold along in (omega arith)

module _ (seg : ℕ → ℕ → ℕ) (d : ℕ) {X : Type 0} (b f b' f' : ℕ → X) where
  pub insert_same_names : (x : Entry) (m : Map X) → 0 < d
      → ((i : ℕ) → i < (insert_takes seg d b f x m).branches → b i ≡ b' i)
      → ((i : ℕ) → i < (insert_takes seg d b f x m).entries → f i ≡ f' i) → insert seg d b f x m ≡ insert seg d b' f' x m
  unfolding insert_takes insert branches_on stand_before
  insert_same_names x empty l a z =
      ap₂ (λ c n. root (branch c (kid (seg 0 x.hash) (leaf (item n x ∷ [])) none)))
      (a 0 (root_counts seg d x.hash _ _ l)) (z 0 (omega arith))
  insert_same_names x (root m) l a z = ap root (insert_node_lem seg b f b' f' x d 0 m (λ i o u. a i (omega (arith, u))) (λ i o u. z i u))

  abbrev Below : (g g' : ℕ → X) → ℕ → Type 0
  Below g g' c = (i : ℕ) → i < c → g i ≡ g' i

  tidy_same : (h k : ℕ) (m : Node X) → Below b b' (branches_on seg d h (tidy (remove_node seg b f d 0 h k m)))
      → Below f f' (stand_before seg d h k (root m)) → tidy (remove_node seg b f d 0 h k m) ≡ tidy (remove_node seg b' f' d 0 h k m)
  unfolding tidy branches_on stand_before
  tidy_same h k m a z =
      split (is_empty (remove_node seg b f d 0 h k m)) (λ p. rw (← empty_same seg b f b' f' h k d 0 m, p) refl)
      (λ p. ap tidy (remove_node_lem seg b f b' f' h k d 0 m (λ i o u. a i (rw p (omega (arith, u)))) (λ i o u. z i (omega (arith, u)))))

  pub remove_same_names : (h k : ℕ) (m : Map X) → ((i : ℕ) → i < (remove_takes seg d b f h k m).branches → b i ≡ b' i)
      → ((i : ℕ) → i < (remove_takes seg d b f h k m).entries → f i ≡ f' i) → remove seg d b f h k m ≡ remove seg d b' f' h k m
  unfolding remove
  remove_same_names h k empty a z = refl
  remove_same_names h k (root m) a z = go (get_node seg d 0 h k m) _ _ (tidy_same h k m) a z
    where
      go : (o : Got) (l l' : Map X) → (Below b b' (branches_on seg d h l) → Below f f' (stand_before seg d h k (root m)) → l ≡ l')
          → Below b b' (left_takes seg d h k (root m) (if_got o (updated l) not_there)).branches
          → Below f f' (left_takes seg d h k (root m) (if_got o (updated l) not_there)).entries
          → if_got o (updated l) not_there ≡ if_got o (updated l') not_there
      go absent l l' same a z = unfold if_got in refl
      go (got v) l l' same a z = unfold if_got left_takes in (ap updated (same a z))
