-- Sums of a weight over the names of chains and of children: what a removal from a chain, put and take_out do to them. With the
-- weight 1 the sum over the entries is the size.
use mathlib.Core.Path.{◌≡◌, refl, sym, ◌∙◌, ap}
use mathlib.Core.Bool.{true}
use mathlib.Core.Logic.{◌⊎◌, inl, inr}
use mathlib.Core.List.{List, [], ◌∷◌}
use Prim.Native.Nat.{ℕ, zero, suc, ◌+◌, ◌≤◌}
use native.Mathlib.Omega.{arith}
use lib.ListN.{length, length-append}
use Rattle.cases.proofs.Cases.{split, eq?, Tri, is_less, is_equal, is_more, tri}
use Rattle.trie.specs.Canon.{Asc}
use Rattle.trie.specs.Cells.{before, ahead}
use Rattle.trie.specs.Entry.{matches, Got, absent, got, if_got}
use Rattle.trie.specs.Names.{cells, total, totals, entry_sum, on_map, news, upto, gone}
use Rattle.trie.specs.Trie.{branch, leaf, Item, Node, Kids, none, kid, Map, empty, root, listing_chain, listing_node, listing_kids, listing, size, missing, found, on_found, child, put, take_out, find, copied, list_remove_first}
use Rattle.trie.proofs.ChainLaws.{find_hit, copied_hit, copied_miss}
use Rattle.trie.proofs.KidsLaws.{child_hit, child_miss, put_hit, put_less, put_more, take_hit, take_miss, child-Above, Above-Asc}

module _ {X : Type 0} (w : X → ℕ) (h k : ℕ) where
  -- chains
  copied-cells : (f : ℕ → X) (j : ℕ) (xs : List (Item X)) → cells w (copied f j h k xs) + upto w h k xs
      ≡ cells w xs + news w f j (ahead h k xs)
  unfolding cells upto news ahead
  copied-cells f j [] = unfold copied in refl
  copied-cells f j (x ∷ xs) =
      split (matches h k x.entry)
      (λ p. rw (copied_hit f j h k x xs p, p) (omega arith))
      (λ p. let ih : cells w (copied f (suc j) h k xs) + upto w h k xs ≡ cells w xs + news w f (suc j) (ahead h k xs)
      = copied-cells f (suc j) xs in
      rw (copied_miss f j h k x xs p, p) (omega arith))

  pub removed_cells : (f : ℕ → X) (j : ℕ) (xs : List (Item X)) → cells w (list_remove_first f j h k xs) + gone w h k xs
      ≡ cells w xs + news w f j (before h k xs)
  unfolding list_remove_first gone before if_got
  removed_cells f j xs = go (find h k xs)
    where
      go : (o : Got) → cells w (if_got o (copied f j h k xs) xs) + if_got o (upto w h k xs) 0
          ≡ cells w xs + news w f j (if_got o (ahead h k xs) 0)
      go absent = unfold news in refl
      go (got v) = copied-cells f j xs

  pub gone-absent : (xs : List (Item X)) → find h k xs ≡ absent → gone w h k xs ≡ 0
  unfolding gone if_got
  gone-absent xs q = rw q

  pub before-absent : (xs : List (Item X)) → find h k xs ≡ absent → before h k xs ≡ 0
  unfolding before if_got
  before-absent xs q = rw q

  pub gone_hit : (x : Item X) (xs : List (Item X)) → matches h k x.entry ≡ true → gone w h k (x ∷ xs) ≡ w x.cell
  unfolding gone if_got upto
  gone_hit x xs p = rw (find_hit h k x xs p, p)

  pub before_hit : (x : Item X) (xs : List (Item X)) → matches h k x.entry ≡ true → before h k (x ∷ xs) ≡ 0
  unfolding before if_got ahead
  before_hit x xs p = rw (find_hit h k x xs p, p)

-- sums over a branch's children, after put and take_out
module _ {X : Type 0} (u : X → ℕ) (v : List (Item X) → ℕ) where
  pub total_only : (c : X) (s : ℕ) (m : Node X) → total u v (branch c (kid s m none)) ≡ u c + total u v m
  unfolding total
  total_only c s m = omega arith

  totals-put : (s : ℕ) (n : Node X) (ks : Kids X) → Asc ks → totals u v (put s n ks) + on_found 0 (total u v) (child s ks)
      ≡ totals u v ks + total u v n
  unfolding total put child on_found Asc
  totals-put s n none a = omega arith
  totals-put s n (kid i m ks) a = go (totals-put s n ks (Above-Asc i ks a)) (tri s i)
    where
      go : totals u v (put s n ks) + on_found 0 (total u v) (child s ks) ≡ totals u v ks + total u v n → Tri s i
          → totals u v (put s n (kid i m ks)) + on_found 0 (total u v) (child s (kid i m ks))
          ≡ totals u v (kid i m ks) + total u v n
      go ih (is_less q) = rw (put_less s i n m ks q, child_miss s i m ks (λ e. omega arith), child-Above s i ks a (omega arith))
          (omega arith)
      go ih (is_equal e) = rw (put_hit s i n m ks (sym e), child_hit s i m ks (sym e)) (omega arith)
      go ih (is_more q) = rw (put_more s i n m ks q, child_miss s i m ks (λ e. omega arith)) (omega arith)

  totals_take : (s : ℕ) (ks : Kids X) → totals u v (take_out s ks) + on_found 0 (total u v) (child s ks) ≡ totals u v ks
  unfolding total take_out child on_found
  totals_take s none = refl
  totals_take s (kid i m ks) = go (totals_take s ks) (eq? i s)
    where
      go : totals u v (take_out s ks) + on_found 0 (total u v) (child s ks) ≡ totals u v ks → (i ≡ s) ⊎ (i ≡ s → ⊥)
          → totals u v (take_out s (kid i m ks)) + on_found 0 (total u v) (child s (kid i m ks)) ≡ totals u v (kid i m ks)
      go ih (inl e) = rw (take_hit s i m ks e, child_hit s i m ks e) (omega arith)
      go ih (inr e) = rw (take_miss s i m ks e, child_miss s i m ks e) (omega arith)

  -- put at a missing child, and at one that is there
  pub put_new : (c d : X) (s : ℕ) (m : Node X) (ks : Kids X) → Asc ks → child s ks ≡ missing
      → total u v (branch c (put s m ks)) + u d ≡ total u v (branch d ks) + u c + total u v m
  unfolding total on_found
  put_new c d s m ks a r = let z : totals u v (put s m ks) + 0 ≡ totals u v ks + total u v m
      = rw r at (totals-put s m ks a) in omega arith

  pub put_old : (c d : X) (s : ℕ) (m l : Node X) (ks : Kids X) → Asc ks → child s ks ≡ found l
      → total u v (branch c (put s m ks)) + u d + total u v l ≡ total u v (branch d ks) + u c + total u v m
  unfolding total on_found
  put_old c d s m l ks a r = let z : totals u v (put s m ks) + total u v l ≡ totals u v ks + total u v m
      = rw r at (totals-put s m ks a) in omega arith

  pub take_old : (c d : X) (s : ℕ) (l : Node X) (ks : Kids X) → child s ks ≡ found l
      → total u v (branch c (take_out s ks)) + u d + total u v l ≡ total u v (branch d ks) + u c
  unfolding total on_found
  take_old c d s l ks r = let z : totals u v (take_out s ks) + total u v l ≡ totals u v ks
      = rw r at (totals_take s ks) in omega arith

module _ {X : Type 0} (w : X → ℕ) (h k : ℕ) where
  upto_within : (xs : List (Item X)) → upto w h k xs ≤ cells w xs
  unfolding upto cells
  upto_within [] = omega arith
  upto_within (x ∷ xs) = split (matches h k x.entry) (λ p. rw p (omega arith)) (λ p. rw p (omega (arith, upto_within xs)))

  pub gone_within : (xs : List (Item X)) → gone w h k xs ≤ cells w xs
  unfolding gone if_got
  gone_within xs = go (find h k xs)
    where
      go : (o : Got) → if_got o (upto w h k xs) 0 ≤ cells w xs
      go absent = omega arith
      go (got v) = upto_within xs

pub news_ones : {X : Type 0} (w : X → ℕ) (f : ℕ → X) → ((j : ℕ) → w (f j) ≡ 1) → (j c : ℕ) → news w f j c ≡ c
unfolding news
news_ones w f o j zero = refl
news_ones w f o j (suc c) = omega (arith, o j, news_ones w f o (suc j) c)

module _ {X : Type 0} (u : X → ℕ) (v : List (Item X) → ℕ) where
  -- a child's sum is within its branch's
  pub within : (s : ℕ) (ks : Kids X) (m : Node X) → child s ks ≡ found m → total u v m ≤ totals u v ks
  unfolding total child
  within s none m r = let z : ◌≡◌ {A = ℕ} 0 1 = cc in absurd (omega arith)
  within s (kid i l ks) m r =
      split_eq (λ q. let e : found l ≡ found m = sym (child_hit s i l ks q) ∙ r in let e' : l ≡ m
      = cc in omega (arith, ap (total u v) e'))
      (λ q. omega (arith, within s ks m (sym (child_miss s i l ks q) ∙ r)))
    where
      split_eq : {A : Type 0} → (i ≡ s → A) → ((i ≡ s → ⊥) → A) → A
      split_eq f g = mathlib.Core.Logic.⊎_elim f g (eq? i s)

-- HOW MANY ENTRIES: each of them counts once, in the listing as in the sum over the entry cells
module _ {X : Type 0} where
  chain_count : (xs : List (Item X)) → length (listing_chain xs) ≡ cells (λ c. 1) xs
  unfolding listing_chain cells
  chain_count [] = refl
  chain_count (x ∷ xs) = omega (arith, chain_count xs)

  mutual
    unfolding listing_node total

    node_count : (m : Node X) → length (listing_node m) ≡ entry_sum (λ c. 1) m
    node_count (leaf xs) = chain_count xs
    node_count (branch c ks) = omega (arith, kids_count ks)

    kids_count : (ks : Kids X) → length (listing_kids ks) ≡ totals (λ c. 0) (cells (λ c. 1)) ks
    kids_count none = refl
    kids_count (kid s m ks) =
        omega (arith, length-append (listing_node m) (listing_kids ks), node_count m, kids_count ks)

  pub size_count : (m : Map X) → size m ≡ on_map (entry_sum (λ c. 1)) m
  unfolding size listing on_map
  size_count empty = refl
  size_count (root m) = node_count m
