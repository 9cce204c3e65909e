-- Chains: what is found, what is kept and that no key stands twice, after a removal of one key.
use mathlib.Core.Path.{◌≡◌, refl, sym, ◌∙◌}
use mathlib.Core.Bool.{true, false}
use mathlib.Core.List.{List, [], ◌∷◌}
use Prim.Native.Nat.{ℕ, suc}
use native.Mathlib.Omega.{arith}
use Rattle.cases.proofs.Cases.{split}
use Rattle.trie.specs.Canon.{AllItems, Distinct}
use Rattle.trie.specs.declared.Entry.{Entry}
use Rattle.trie.specs.Entry.{matches, Got, absent, got, if_got}
use Rattle.trie.specs.Trie.{Item, item, find, copied, list_remove_first}
use Rattle.trie.proofs.Matches.{matches-true}

by_got : {A : Type 0} (o : Got) (a b : A) (P : A → Type 0) → P a → P b → P (if_got o a b)
unfolding if_got
by_got absent a b P p q = q
by_got (got v) a b P p q = p

module _ {X : Type 0} where
  pub find_hit : (h k : ℕ) (x : Item X) (xs : List (Item X)) → matches h k x.entry ≡ true → find h k (x ∷ xs)
      ≡ got x.entry.value
  unfolding find
  find_hit h k x xs e = rw e

  pub find_miss : (h k : ℕ) (x : Item X) (xs : List (Item X)) → matches h k x.entry ≡ false → find h k (x ∷ xs) ≡ find h k xs
  unfolding find
  find_miss h k x xs e = rw e

  pub copied_hit : (f : ℕ → X) (j h k : ℕ) (x : Item X) (xs : List (Item X)) → matches h k x.entry ≡ true
      → copied f j h k (x ∷ xs) ≡ xs
  unfolding copied
  copied_hit f j h k x xs e = rw e

  pub copied_miss : (f : ℕ → X) (j h k : ℕ) (x : Item X) (xs : List (Item X)) → matches h k x.entry ≡ false
      → copied f j h k (x ∷ xs) ≡ item (f j) x.entry ∷ copied f (suc j) h k xs
  unfolding copied
  copied_miss f j h k x xs e = rw e

  -- the key itself is gone
  pub find-copied_same : (f : ℕ → X) (j h k : ℕ) (xs : List (Item X)) → Distinct xs → find h k (copied f j h k xs) ≡ absent
  unfolding Distinct
  find-copied_same f j h k [] d = unfold copied find in refl
  find-copied_same f j h k (x ∷ xs) (d, ds) =
      split (matches h k x.entry)
      (λ p. let e : (x.entry.hash ≡ h) × (x.entry.key ≡ k) = matches-true h k x.entry p in
      rw (copied_hit f j h k x xs p, ← e.0, ← e.1) d)
      (λ p. rw (copied_miss f j h k x xs p) (find_miss h k (item (f j) x.entry) _ p ∙ find-copied_same f (suc j) h k xs ds))

  pub all_copied : (P : Entry → Type 0) (f : ℕ → X) (j h k : ℕ) (xs : List (Item X)) → AllItems P xs
      → AllItems P (copied f j h k xs)
  unfolding AllItems
  all_copied P f j h k [] a = unfold copied in tt
  all_copied P f j h k (x ∷ xs) (a, more_a) =
      split (matches h k x.entry) (λ p. rw (copied_hit f j h k x xs p) more_a)
      (λ p. rw (copied_miss f j h k x xs p) (a, all_copied P f (suc j) h k xs more_a))

  -- an absent key stays absent
  find-copied-absent : (f : ℕ → X) (j h k h' k' : ℕ) (xs : List (Item X)) → find h' k' xs ≡ absent
      → find h' k' (copied f j h k xs) ≡ absent
  find-copied-absent f j h k h' k' [] a = unfold copied in a
  find-copied-absent f j h k h' k' (x ∷ xs) a =
      split (matches h' k' x.entry) (λ q. let z : ◌≡◌ {A = ℕ} 0 1 = cc (find_hit h' k' x xs q) in absurd (omega arith))
      (λ q. let a' : find h' k' xs ≡ absent = sym (find_miss h' k' x xs q) ∙ a in
      split (matches h k x.entry) (λ p. rw (copied_hit f j h k x xs p) a')
      (λ p. rw (copied_miss f j h k x xs p) (find_miss h' k' (item (f j) x.entry) _ q
      ∙ find-copied-absent f (suc j) h k h' k' xs a')))

  pub Distinct-copied : (f : ℕ → X) (j h k : ℕ) (xs : List (Item X)) → Distinct xs → Distinct (copied f j h k xs)
  unfolding Distinct
  Distinct-copied f j h k [] d = unfold copied in tt
  Distinct-copied f j h k (x ∷ xs) (d, ds) =
      split (matches h k x.entry) (λ p. rw (copied_hit f j h k x xs p) ds)
      (λ p. rw (copied_miss f j h k x xs p)
      (find-copied-absent f (suc j) h k x.entry.hash x.entry.key xs d, Distinct-copied f (suc j) h k xs ds))

  pub find_removed_same : (f : ℕ → X) (j h k : ℕ) (xs : List (Item X)) → Distinct xs → find h k (list_remove_first f j h k xs)
      ≡ absent
  unfolding list_remove_first if_got
  find_removed_same f j h k xs d = go (find h k xs) refl
    where
      go : (o : Got) → find h k xs ≡ o → find h k (if_got o (copied f j h k xs) xs) ≡ absent
      go absent e = e
      go (got v) e = find-copied_same f j h k xs d

  pub all_removed : (P : Entry → Type 0) (f : ℕ → X) (j h k : ℕ) (xs : List (Item X)) → AllItems P xs
      → AllItems P (list_remove_first f j h k xs)
  unfolding list_remove_first
  all_removed P f j h k xs a = by_got (find h k xs) _ _ (λ (l : List (Item X)). AllItems P l) (all_copied P f j h k xs a) a

  pub Distinct-removed : (f : ℕ → X) (j h k : ℕ) (xs : List (Item X)) → Distinct xs → Distinct (list_remove_first f j h k xs)
  unfolding list_remove_first
  Distinct-removed f j h k xs a = by_got (find h k xs) _ _ (λ (l : List (Item X)). Distinct l) (Distinct-copied f j h k xs a) a
