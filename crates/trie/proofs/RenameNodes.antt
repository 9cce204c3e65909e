-- Names play no part: renaming commutes with insert and remove, and leaves get and the listing as they are.
use mathlib.Core.Path.{◌≡◌, refl, sym, ◌∙◌, ap}
use mathlib.Core.Bool.{Bool, true, false, cond}
use mathlib.Core.List.{List, [], ◌∷◌}
use Prim.Native.Nat.{ℕ, zero, suc, ◌+◌}
use lib.Dec.{eqb, ltb}
use Rattle.trie.specs.Cells.{before, ahead, along}
use Rattle.trie.specs.declared.Entry.{Entry}
use Rattle.trie.specs.Entry.{matches, Got, absent, got, if_got}
use Rattle.trie.specs.Names.{rename_items, rename_node, rename_kids, rename_found}
use Rattle.trie.specs.Trie.{branch, Item, leaf, single, chain, Node, Kids, none, kid, Found, missing, found, on_found, child, put, take_out, find, copied, list_remove_first, push_front, get_node, insert_node, is_empty, is_single, settle, compress, remove_node, listing_chain, listing_node, listing_kids}
use Rattle.trie.proofs.InsertCases.{insert_new, insert_at}
use Rattle.trie.proofs.RemoveCases.{remove_not, remove_at}

module _ {X Y : Type 0} (g : X → Y) where
  -- a test under a function
  cond_ap : {A B : Type 0} (q : A → B) (t : Bool) (x y : A) → q (cond t x y) ≡ cond t (q x) (q y)
  cond_ap q true x y = refl
  cond_ap q false x y = refl

  pub find_rename : (h k : ℕ) (xs : List (Item X)) → find h k (rename_items g xs) ≡ find h k xs
  unfolding find rename_items
  find_rename h k [] = refl
  find_rename h k (x ∷ xs) = rw (find_rename h k xs)

  copied_rename : (f : ℕ → X) (j h k : ℕ) (xs : List (Item X)) → rename_items g (copied f j h k xs)
      ≡ copied (λ i. g (f i)) j h k (rename_items g xs)
  unfolding copied rename_items
  copied_rename f j h k [] = refl
  copied_rename f j h k (x ∷ xs) = cond_ap (rename_items g) (matches h k x.entry) xs _ ∙ rw (copied_rename f (suc j) h k xs)

  removed_rename : (f : ℕ → X) (j h k : ℕ) (xs : List (Item X)) → rename_items g (list_remove_first f j h k xs)
      ≡ list_remove_first (λ i. g (f i)) j h k (rename_items g xs)
  unfolding list_remove_first if_got
  removed_rename f j h k xs = rw (find_rename h k xs) (go (find h k xs))
    where
      go : (o : Got) → rename_items g (if_got o (copied f j h k xs) xs)
          ≡ if_got o (copied (λ i. g (f i)) j h k (rename_items g xs)) (rename_items g xs)
      go absent = refl
      go (got v) = copied_rename f j h k xs

  child_rename : (s : ℕ) (ks : Kids X) → child s (rename_kids g ks) ≡ rename_found g (child s ks)
  unfolding child rename_node rename_found
  child_rename s none = refl
  child_rename s (kid i m ks) = rw (child_rename s ks) (sym (cond_ap (rename_found g) (eqb i s) (found m) (child s ks)))

  put_rename : (s : ℕ) (m : Node X) (ks : Kids X) → rename_kids g (put s m ks) ≡ put s (rename_node g m) (rename_kids g ks)
  unfolding put rename_node
  put_rename s m none = refl
  put_rename s m (kid i l ks) =
      cond_ap (rename_kids g) (eqb i s) (kid s m ks) _
      ∙ ap (λ (z : Kids Y). cond (eqb i s) (kid s (rename_node g m) (rename_kids g ks)) z)
      (cond_ap (rename_kids g) (ltb s i) (kid s m (kid i l ks)) (kid i l (put s m ks)) ∙ rw (put_rename s m ks))

  take_rename : (s : ℕ) (ks : Kids X) → rename_kids g (take_out s ks) ≡ take_out s (rename_kids g ks)
  unfolding take_out rename_node
  take_rename s none = refl
  take_rename s (kid i l ks) = cond_ap (rename_kids g) (eqb i s) ks _ ∙ rw (take_rename s ks)

  pub empty_rename : (m : Node X) → is_empty (rename_node g m) ≡ is_empty m
  unfolding is_empty rename_node rename_items
  empty_rename (leaf []) = refl
  empty_rename (leaf (x ∷ xs)) = refl
  empty_rename (branch c none) = refl
  empty_rename (branch c (kid i m ks)) = refl

  single_rename : (m : Node X) → is_single (rename_node g m) ≡ is_single m
  unfolding is_single rename_node rename_items
  single_rename (leaf []) = refl
  single_rename (leaf (x ∷ [])) = refl
  single_rename (leaf (x ∷ (y ∷ xs))) = refl
  single_rename (branch c ks) = refl

  settle_rename : (s : ℕ) (ks : Kids X) (m : Node X) → rename_kids g (settle s ks m) ≡ settle s (rename_kids g ks) (rename_node g m)
  unfolding settle
  settle_rename s ks m = cond_ap (rename_kids g) (is_empty m) (take_out s ks) (put s m ks)
      ∙ rw (take_rename s ks, put_rename s m ks, empty_rename m)

  compress_rename : (c : X) (ks : Kids X) → rename_node g (compress c ks) ≡ compress (g c) (rename_kids g ks)
  unfolding compress rename_node
  compress_rename c none = refl
  compress_rename c (kid s m none) = cond_ap (rename_node g) (is_single m) m (branch c (kid s m none)) ∙ rw (single_rename m)
  compress_rename c (kid s n (kid i m ks)) = refl

  module _ (seg : ℕ → ℕ → ℕ) (b : ℕ → X) (f : ℕ → X) where
    insert_rename_branch : (n t : ℕ) (e : Entry) (c : X) (ks : Kids X)
        → ((m : Node X) → rename_node g (insert_node seg b f n (suc t) e m)
        ≡ insert_node seg (λ i. g (b i)) (λ i. g (f i)) n (suc t) e (rename_node g m))
        → (o : Found X) → child (seg t e.hash) ks ≡ o
        → rename_node g (insert_node seg b f (suc n) t e (branch c ks))
        ≡ insert_node seg (λ i. g (b i)) (λ i. g (f i)) (suc n) t e (branch (g c) (rename_kids g ks))
    unfolding rename_node rename_items rename_found
    insert_rename_branch n t e c ks ih missing r =
        ap (rename_node g) (insert_new seg b f n t e c ks r) ∙ ap (branch (g (b t))) (put_rename (seg t e.hash) (single f e) ks)
        ∙ sym (insert_new seg (λ i. g (b i)) (λ i. g (f i)) n t e (g c) (rename_kids g ks)
        (child_rename (seg t e.hash) ks ∙ ap (rename_found g) r))
    insert_rename_branch n t e c ks ih (found m) r =
        ap (rename_node g) (insert_at seg b f n t e c ks m r)
        ∙ ap (branch (g (b t))) (put_rename (seg t e.hash) (insert_node seg b f n (suc t) e m) ks
        ∙ ap (λ (z : Node Y). put (seg t e.hash) z (rename_kids g ks)) (ih m))
        ∙ sym (insert_at seg (λ i. g (b i)) (λ i. g (f i)) n t e (g c) (rename_kids g ks) (rename_node g m)
        (child_rename (seg t e.hash) ks ∙ ap (rename_found g) r))

    pub insert_rename : (n t : ℕ) (e : Entry) (m : Node X) → rename_node g (insert_node seg b f n t e m)
        ≡ insert_node seg (λ i. g (b i)) (λ i. g (f i)) n t e (rename_node g m)
    unfolding insert_node push_front rename_node rename_items
    insert_rename zero t e (leaf xs) = rw (removed_rename f 1 e.hash e.key xs)
    insert_rename zero t e (branch c ks) = refl
    insert_rename (suc n) t e (leaf []) = refl
    insert_rename (suc n) t e (leaf (x ∷ xs)) =
        cond_ap (rename_node g) (matches e.hash e.key x.entry) _ _
        ∙ ap (λ (z : Node Y). cond (matches e.hash e.key x.entry) (single (λ i. g (f i)) e) z)
        (cond_ap (rename_node g) (eqb (seg t x.entry.hash) (seg t e.hash)) _ _
        ∙ rw (
          insert_rename n (suc t) e (leaf (x ∷ xs)),
          put_rename (seg t e.hash) (single f e)
              (kid (seg t x.entry.hash) (leaf (x ∷ xs)) none),
        ))
    insert_rename (suc n) t e (branch c ks) = insert_rename_branch n t e c ks (λ m. insert_rename n (suc t) e m)
        (child (seg t e.hash) ks) refl

    remove_rename_branch : (n t h k : ℕ) (c : X) (ks : Kids X)
        → ((m : Node X) → rename_node g (remove_node seg b f n (suc t) h k m)
        ≡ remove_node seg (λ i. g (b i)) (λ i. g (f i)) n (suc t) h k (rename_node g m))
        → (o : Found X) → child (seg t h) ks ≡ o
        → rename_node g (remove_node seg b f (suc n) t h k (branch c ks))
        ≡ remove_node seg (λ i. g (b i)) (λ i. g (f i)) (suc n) t h k (branch (g c) (rename_kids g ks))
    unfolding rename_node rename_found
    remove_rename_branch n t h k c ks ih missing r =
        ap (rename_node g) (remove_not seg b f n t h k c ks r)
        ∙ sym (remove_not seg (λ i. g (b i)) (λ i. g (f i)) n t h k (g c) (rename_kids g ks)
        (child_rename (seg t h) ks ∙ ap (rename_found g) r))
    remove_rename_branch n t h k c ks ih (found m) r =
        ap (rename_node g) (remove_at seg b f n t h k c ks m r)
        ∙ compress_rename (b t) (settle (seg t h) ks (remove_node seg b f n (suc t) h k m))
        ∙ ap (compress (g (b t))) (settle_rename (seg t h) ks (remove_node seg b f n (suc t) h k m)
        ∙ ap (settle (seg t h) (rename_kids g ks)) (ih m))
        ∙ sym (remove_at seg (λ i. g (b i)) (λ i. g (f i)) n t h k (g c) (rename_kids g ks) (rename_node g m)
        (child_rename (seg t h) ks ∙ ap (rename_found g) r))

    pub remove_rename : (n t h k : ℕ) (m : Node X) → rename_node g (remove_node seg b f n t h k m)
        ≡ remove_node seg (λ i. g (b i)) (λ i. g (f i)) n t h k (rename_node g m)
    unfolding remove_node rename_node
    remove_rename zero t h k (leaf xs) = ap leaf (removed_rename f 0 h k xs)
    remove_rename zero t h k (branch c ks) = refl
    remove_rename (suc n) t h k (leaf xs) = ap leaf (removed_rename f 0 h k xs)
    remove_rename (suc n) t h k (branch c ks)
        = remove_rename_branch n t h k c ks (λ m. remove_rename n (suc t) h k m) (child (seg t h) ks) refl

  -- what a path shows
  ahead_rename : (h k : ℕ) (xs : List (Item X)) → ahead h k (rename_items g xs) ≡ ahead h k xs
  unfolding ahead rename_items
  ahead_rename h k [] = refl
  ahead_rename h k (x ∷ xs) = rw (ahead_rename h k xs)

  pub before_rename : (h k : ℕ) (xs : List (Item X)) → before h k (rename_items g xs) ≡ before h k xs
  unfolding before
  before_rename h k xs = rw (find_rename h k xs, ahead_rename h k xs)

  module _ (seg : ℕ → ℕ → ℕ) where
    pub chain_rename : (n t h : ℕ) (m : Node X) → chain seg n t h (rename_node g m) ≡ rename_items g (chain seg n t h m)
    unfolding chain rename_node
    chain_rename zero t h (leaf xs) = refl
    chain_rename zero t h (branch c ks) = unfold rename_items in refl
    chain_rename (suc n) t h (leaf xs) = refl
    chain_rename (suc n) t h (branch c ks) = rw (child_rename (seg t h) ks)
        (go (λ m. chain_rename n (suc t) h m) (child (seg t h) ks))
      where
        go : ((m : Node X) → chain seg n (suc t) h (rename_node g m) ≡ rename_items g (chain seg n (suc t) h m)) → (o : Found X)
            → on_found [] (chain seg n (suc t) h) (rename_found g o) ≡ rename_items g (on_found [] (chain seg n (suc t) h) o)
        go ih missing = unfold on_found rename_found rename_items in refl
        go ih (found m) = unfold on_found rename_found in (ih m)

    pub get_rename : (n t h k : ℕ) (m : Node X) → get_node seg n t h k (rename_node g m) ≡ get_node seg n t h k m
    get_rename n t h k m = ap (find h k) (chain_rename n t h m) ∙ find_rename h k (chain seg n t h m)

    pub along_rename : (n t h : ℕ) (m : Node X) → along seg (λ c. 1) n t h (rename_node g m) ≡ along seg (λ c. 1) n t h m
    unfolding along rename_node
    along_rename zero t h m = refl
    along_rename (suc n) t h (leaf xs) = refl
    along_rename (suc n) t h (branch c ks) = rw (child_rename (seg t h) ks)
        (go (λ m. along_rename n (suc t) h m) (child (seg t h) ks))
      where
        go : ((m : Node X) → along seg (λ c. 1) n (suc t) h (rename_node g m) ≡ along seg (λ c. 1) n (suc t) h m) → (o : Found X)
            → 1 + on_found 0 (along seg (λ c. 1) n (suc t) h) (rename_found g o) ≡ 1 + on_found 0 (along seg (λ c. 1) n (suc t) h) o
        go ih missing = unfold on_found rename_found in refl
        go ih (found m) = unfold on_found rename_found in (ap (λ (z : ℕ). 1 + z) (ih m))

  entries_rename : (xs : List (Item X)) → listing_chain (rename_items g xs) ≡ listing_chain xs
  unfolding listing_chain rename_items
  entries_rename [] = refl
  entries_rename (x ∷ xs) = rw (entries_rename xs)

  mutual
    unfolding listing_node rename_node

    pub listing_rename : (m : Node X) → listing_node (rename_node g m) ≡ listing_node m
    listing_rename (leaf xs) = entries_rename xs
    listing_rename (branch c ks) = listings_rename ks

    listings_rename : (ks : Kids X) → listing_kids (rename_kids g ks) ≡ listing_kids ks
    listings_rename none = refl
    listings_rename (kid s m ks) = rw (listing_rename m, listings_rename ks)
