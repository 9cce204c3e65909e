-- Listing order: hashes compared one depth at a time, and what place makes of a list.
use mathlib.Core.Path.{◌≡◌, refl, sym, ◌∙◌, ap}
use mathlib.Core.Bool.{true, false}
use mathlib.Core.List.{List, [], ◌∷◌, ◌++◌}
use Prim.Native.Nat.{ℕ, zero, suc, ◌+◌, ◌<◌}
use native.Mathlib.Omega.{arith}
use lib.ListN.{length}
use borrow.Author.Tests.{eq-eqb, ne_eqb, lt-ltb, le-ltb}
use Rattle.cases.proofs.Cases.{split}
use Rattle.trie.specs.declared.Entry.{Entry}
use Rattle.trie.specs.Entry.{matches, got, if_got}
use Rattle.trie.specs.Listing.{All, lookup, Pairwise, cut, earlier, place, Ordered}
use Rattle.trie.proofs.ListLaws.{lookup_hit, lookup_miss, cut_hit, cut_miss, Unmatched, cut_none, cut_left, Pairwise-weak, cut_other, cut-length}
use Rattle.trie.proofs.Matches.{matches-true, matches_self, matches_apart}

module _ (seg : ℕ → ℕ → ℕ) where
  -- ONE DEPTH: where the segments agree the next depth decides, else the lower one is earlier
  pub earlier_level : (n t h h' : ℕ) → seg t h ≡ seg t h' → earlier seg (suc n) t h h' ≡ earlier seg n (suc t) h h'
  unfolding earlier
  earlier_level n t h h' q = rw (eq-eqb (seg t h) (seg t h') q)

  pub earlier_low : (n t h h' : ℕ) → seg t h < seg t h' → earlier seg (suc n) t h h' ≡ true
  unfolding earlier
  earlier_low n t h h' l = rw (ne_eqb (seg t h) (seg t h') (λ q. omega arith), lt-ltb (seg t h) (seg t h') l)

  pub earlier_high : (n t h h' : ℕ) → seg t h' < seg t h → earlier seg (suc n) t h h' ≡ false
  unfolding earlier
  earlier_high n t h h' l = rw (ne_eqb (seg t h) (seg t h') (λ q. omega arith), le-ltb (seg t h) (seg t h') (omega arith))

  pub earlier_self : (n t h : ℕ) → earlier seg n t h h ≡ false
  earlier_self zero t h = unfold earlier in refl
  earlier_self (suc n) t h = earlier_level n t h h refl ∙ earlier_self n (suc t) h

  -- an entry that matches is not earlier
  pub matched_late : (n t : ℕ) (e x : Entry) → matches e.hash e.key x ≡ true → earlier seg n t x.hash e.hash ≡ false
  matched_late n t e x p = rw (matches-true e.hash e.key x p).0 (earlier_self n t e.hash)

  early_unmatched : (n t : ℕ) (e x : Entry) → earlier seg n t x.hash e.hash ≡ true → matches e.hash e.key x ≡ false
  early_unmatched n t e x q =
      split (matches e.hash e.key x) (λ p. let z : ◌≡◌ {A = ℕ} 0 1 = cc (matched_late n t e x p) in absurd (omega arith))
      (λ p. p)

  -- PLACE
  module _ (n t : ℕ) (e : Entry) where
    place_on : (x : Entry) (xs : List Entry) → earlier seg n t x.hash e.hash ≡ true → place seg n t e (x ∷ xs)
        ≡ x ∷ place seg n t e xs
    unfolding place
    place_on x xs p = rw p

    pub place_stop : (x : Entry) (xs : List Entry) → earlier seg n t x.hash e.hash ≡ false → place seg n t e (x ∷ xs)
        ≡ e ∷ cut e.hash e.key (x ∷ xs)
    unfolding place
    place_stop x xs p = rw p

    pub place_none : place seg n t e [] ≡ e ∷ []
    unfolding place
    place_none = refl

    -- past the earlier ones
    pub place_skip : (xs ys : List Entry) → All (λ x. earlier seg n t x.hash e.hash ≡ true) xs → place seg n t e (xs ++ ys)
        ≡ xs ++ place seg n t e ys
    unfolding All
    place_skip [] ys a = refl
    place_skip (x ∷ xs) ys (p, a) = place_on x (xs ++ ys) p ∙ ap (λ (l : List Entry). x ∷ l) (place_skip xs ys a)

    -- what is later and does not match stays behind
    pub place_left : (xs ys : List Entry) → All (λ x. earlier seg n t x.hash e.hash ≡ false) ys
        → Unmatched e.hash e.key ys
        → place seg n t e (xs ++ ys) ≡ place seg n t e xs ++ ys
    unfolding All
    place_left [] [] a u = rw place_none
    place_left [] (y ∷ ys) (q, a) u = place_stop y ys q ∙ ap (λ (l : List Entry). e ∷ l) (cut_none e.hash e.key (y ∷ ys) u)
        ∙ sym (ap (λ (l : List Entry). l ++ (y ∷ ys)) place_none)
    place_left (x ∷ xs) ys a u =
        split (earlier seg n t x.hash e.hash)
        (λ p. place_on x (xs ++ ys) p ∙ ap (λ (l : List Entry). x ∷ l) (place_left xs ys a u)
        ∙ sym (ap (λ (l : List Entry). l ++ ys) (place_on x xs p)))
        (λ p. place_stop x (xs ++ ys) p ∙ ap (λ (l : List Entry). e ∷ l) (cut_left e.hash e.key (x ∷ xs) ys u)
        ∙ sym (ap (λ (l : List Entry). l ++ ys) (place_stop x xs p)))

    pub place_same : (xs : List Entry) → lookup e.hash e.key (place seg n t e xs) ≡ got e.value
    place_same [] = rw place_none (lookup_hit e.hash e.key e [] (matches_self e))
    place_same (x ∷ xs) =
        split (earlier seg n t x.hash e.hash)
        (λ p. rw (place_on x xs p) (lookup_miss e.hash e.key x (place seg n t e xs) (early_unmatched n t e x p)
        ∙ place_same xs))
        (λ p. rw (place_stop x xs p) (lookup_hit e.hash e.key e (cut e.hash e.key (x ∷ xs)) (matches_self e)))

    pub place_other : (h k : ℕ) → matches h k e ≡ false → (xs : List Entry) → lookup h k (place seg n t e xs) ≡ lookup h k xs
    place_other h k ne [] = rw place_none (lookup_miss h k e [] ne)
    place_other h k ne (x ∷ xs) =
        split (earlier seg n t x.hash e.hash) (λ p. rw (place_on x xs p) (kept (place_other h k ne xs)))
        (λ p. rw (place_stop x xs p)
        (lookup_miss h k e (cut e.hash e.key (x ∷ xs)) ne
        ∙ cut_other e.hash e.key h k (x ∷ xs) (matches_apart e h k ne)))
      where
        kept : lookup h k (place seg n t e xs) ≡ lookup h k xs → lookup h k (x ∷ place seg n t e xs) ≡ lookup h k (x ∷ xs)
        kept ih = unfold lookup in (rw ih)

    pub place-length : (xs : List Entry) → length (place seg n t e xs) + if_got (lookup e.hash e.key xs) 1 0 ≡ length xs + 1
    unfolding if_got
    place-length [] = rw place_none (unfold lookup in refl)
    place-length (x ∷ xs) =
        split (earlier seg n t x.hash e.hash)
        (λ p. rw (place_on x xs p, lookup_miss e.hash e.key x xs (early_unmatched n t e x p))
        (omega (arith, place-length xs)))
        (λ p. rw (place_stop x xs p) (omega (arith, cut-length e.hash e.key (x ∷ xs))))

    -- a new entry, cut again
    pub place-cut : (xs : List Entry) → Unmatched e.hash e.key xs → cut e.hash e.key (place seg n t e xs) ≡ xs
    unfolding All
    place-cut [] u = rw place_none (cut_hit e.hash e.key e [] (matches_self e))
    place-cut (x ∷ xs) (p, u) =
        split (earlier seg n t x.hash e.hash)
        (λ q. rw (place_on x xs q) (cut_miss e.hash e.key x (place seg n t e xs) p
        ∙ ap (λ (l : List Entry). x ∷ l) (place-cut xs u)))
        (λ q. rw (place_stop x xs q) (cut_hit e.hash e.key e (cut e.hash e.key (x ∷ xs)) (matches_self e)
        ∙ cut_none e.hash e.key (x ∷ xs) (p, u)))

  -- with no depth left, the front
  pub place_last : (t : ℕ) (e : Entry) (xs : List Entry) → place seg zero t e xs ≡ e ∷ cut e.hash e.key xs
  place_last t e [] = unfold place cut in refl
  place_last t e (x ∷ xs) = place_stop zero t e x xs (unfold earlier in refl)

  -- where all segments agree the next depth decides
  pub place_down : (n t : ℕ) (e : Entry) (xs : List Entry) → All (λ x. seg t x.hash ≡ seg t e.hash) xs
      → place seg (suc n) t e xs ≡ place seg n (suc t) e xs
  unfolding All place
  place_down n t e [] a = place_none (suc n) t e ∙ sym (place_none n (suc t) e)
  place_down n t e (x ∷ xs) (q, a) = rw (earlier_level n t x.hash e.hash q, place_down n t e xs a)

  -- ORDERED: where all segments agree the next depth decides, and with no depth left any order will do
  pub Ordered-down : (n t s : ℕ) (xs : List Entry) → All (λ x. seg t x.hash ≡ s) xs → Ordered seg n (suc t) xs
      → Ordered seg (suc n) t xs
  Ordered-down n t s xs a o =
      Pairwise-weak (λ x y. earlier seg n (suc t) y.hash x.hash ≡ false)
      (λ x y. earlier seg (suc n) t y.hash x.hash ≡ false) (λ x. seg t x.hash ≡ s)
      (λ x y p q r. earlier_level n t y.hash x.hash (q ∙ sym p) ∙ r) xs a o

  none_last : (t h : ℕ) (ys : List Entry) → All (λ y. earlier seg zero t y.hash h ≡ false) ys
  unfolding All earlier
  none_last t h [] = tt
  none_last t h (y ∷ ys) = (refl, none_last t h ys)

  pub Ordered-last : (t : ℕ) (xs : List Entry) → Ordered seg zero t xs
  unfolding Pairwise
  Ordered-last t [] = tt
  Ordered-last t (x ∷ xs) = (none_last t x.hash xs, Ordered-last t xs)
