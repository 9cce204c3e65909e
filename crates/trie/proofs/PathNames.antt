-- The branches on a hash's path: their names, at most as many as depths, and within the trie's.
use mathlib.Core.Path.{◌≡◌, refl, sym, ◌∙◌, ap}
use mathlib.Core.List.{List}
use Prim.Native.Nat.{ℕ, zero, suc, ◌+◌, ◌≤◌}
use native.Mathlib.Omega.{arith}
use Rattle.trie.specs.Cells.{along}
use Rattle.trie.specs.Names.{cells, total, branch_sum, entry_sum, news}
use Rattle.trie.specs.Trie.{branch, Item, leaf, chain, Node, Kids, Found, missing, found, on_found, child}
use Rattle.trie.proofs.PathLaws.{hop_found, hop_missing}
use Rattle.trie.proofs.Sums.{within}

module _ (seg : ℕ → ℕ → ℕ) {X : Type 0} (w : X → ℕ) where
  pub along-leaf : (n t h : ℕ) (xs : List (Item X)) → along seg w n t h (leaf xs) ≡ 0
  unfolding along
  along-leaf zero t h xs = refl
  along-leaf (suc n) t h xs = refl

  pub along-found : (n t h : ℕ) (c : X) (ks : Kids X) (m : Node X) → child (seg t h) ks ≡ found m
      → along seg w (suc n) t h (branch c ks) ≡ w c + along seg w n (suc t) h m
  unfolding along on_found
  along-found n t h c ks m r = rw r

  pub along-missing : (n t h : ℕ) (c : X) (ks : Kids X) → child (seg t h) ks ≡ missing → along seg w (suc n) t h (branch c ks)
      ≡ w c
  unfolding along on_found
  along-missing n t h c ks r = rw r (omega arith)

  pub news_next : (b : ℕ → X) (j c d : ℕ) → d ≡ 1 + c → news w b j d ≡ w (b j) + news w b (suc j) c
  unfolding news
  news_next b j c d q = let z : d ≡ suc c = omega arith in rw z

module _ (seg : ℕ → ℕ → ℕ) {X : Type 0} (b : ℕ → X) (h : ℕ) (w : X → ℕ) where
  -- the branches on the path are named b t, b (t + 1), ..
  abbrev pub Fresh : ℕ → ℕ → Node X → Type 0
  Fresh n t m = along seg w n t h m ≡ news w b t (along seg (λ c. 1) n t h m)

  pub Fresh-leaf : (n t : ℕ) (xs : List (Item X)) → Fresh n t (leaf xs)
  Fresh-leaf n t xs = rw (along-leaf seg w n t h xs, along-leaf seg (λ (c : X). 1) n t h xs) (unfold news in refl)

  pub Fresh-found : (n t : ℕ) (ks : Kids X) (m : Node X) → child (seg t h) ks ≡ found m → Fresh n (suc t) m
      → Fresh (suc n) t (branch (b t) ks)
  Fresh-found n t ks m r i =
      along-found seg w n t h (b t) ks m r ∙ ap (λ (z : ℕ). w (b t) + z) i
      ∙ sym (news_next seg w b t (along seg (λ c. 1) n (suc t) h m) _ (along-found seg (λ (c : X). 1) n t h (b t) ks m r))

module _ (seg : ℕ → ℕ → ℕ) {X : Type 0} (w : X → ℕ) where
  pub along_within : (n t h : ℕ) (m : Node X) → along seg w n t h m ≤ branch_sum w m
  along_within zero t h m = unfold along in (omega arith)
  along_within (suc n) t h (leaf xs) = unfold along in (omega arith)
  along_within (suc n) t h (branch c ks) = go (λ m. along_within n (suc t) h m) (child (seg t h) ks) refl
    where
      go : ((m : Node X) → along seg w n (suc t) h m ≤ branch_sum w m) → (o : Found X) → child (seg t h) ks ≡ o
          → along seg w (suc n) t h (branch c ks) ≤ branch_sum w (branch c ks)
      go ih missing r = rw (along-missing seg w n t h c ks r) (unfold total in (omega arith))
      go ih (found m) r = rw (along-found seg w n t h c ks m r)
          (unfold total in (omega (arith, ih m, within w (λ xs. 0) (seg t h) ks m r)))

  pub chain_within : (n t h : ℕ) (m : Node X) → cells w (chain seg n t h m) ≤ entry_sum w m
  chain_within zero t h (leaf xs) = unfold chain total in (omega arith)
  chain_within zero t h (branch c ks) = unfold chain cells in (omega arith)
  chain_within (suc n) t h (leaf xs) = unfold chain total in (omega arith)
  chain_within (suc n) t h (branch c ks) = go (λ m. chain_within n (suc t) h m) (child (seg t h) ks) refl
    where
      go : ((m : Node X) → cells w (chain seg n (suc t) h m) ≤ entry_sum w m) → (o : Found X) → child (seg t h) ks ≡ o
          → cells w (chain seg (suc n) t h (branch c ks)) ≤ entry_sum w (branch c ks)
      go ih missing r = rw (hop_missing seg n t h c ks r) (unfold cells in (omega arith))
      go ih (found m) r = rw (hop_found seg n t h c ks m r)
          (unfold total in (omega (arith, ih m, within (λ c. 0) (cells w) (seg t h) ks m r)))

-- NEVER MORE BRANCHES ON A PATH THAN DEPTHS
pub along_most : (seg : ℕ → ℕ → ℕ) {X : Type 0} (n t h : ℕ) (m : Node X) → along seg (λ c. 1) n t h m ≤ n
unfolding along
along_most seg {X = X} zero t h m = omega arith
along_most seg {X = X} (suc n) t h (leaf xs) = omega arith
along_most seg {X = X} (suc n) t h (branch c ks) = go (λ m. along_most seg n (suc t) h m) (child (seg t h) ks)
  where
    go : ((m : Node X) → along seg (λ c. 1) n (suc t) h m ≤ n) → (o : Found X)
        → 1 + on_found 0 (along seg (λ c. 1) n (suc t) h) o ≤ suc n
    go ih missing = unfold on_found in (omega arith)
    go ih (found m) = unfold on_found in (omega (arith, ih m))
