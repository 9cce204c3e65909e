-- Equality of maps as document 01 puts it: it holds exactly where both have the same entries, so it is reflexive, symmetric
-- and transitive, whatever the names of the cells.
use mathlib.Core.Path.{◌≡◌, refl, sym, ◌∙◌, ap}
use mathlib.Core.Bool.{Bool, true, false}
use mathlib.Core.Logic.{◌↔◌}
use mathlib.Core.List.{List, [], ◌∷◌}
use Prim.Native.Nat.{ℕ, suc}
use native.Mathlib.Omega.{arith}
use lib.Dec.{eqb}
use lib.ListN.{length}
use borrow.Author.Tests.{eqb-true, eq-eqb}
use Rattle.cases.proofs.Cases.{split}
use Rattle.trie.specs.Canon.{Canonical}
use Rattle.trie.specs.declared.Entry.{Entry}
use Rattle.trie.specs.Entry.{Got, absent, got}
use Rattle.trie.specs.Listing.{All, lookup, Once, SameSet}
use Rattle.trie.specs.Trie.{Map, listing, size, answers, every, get, equal}
use Rattle.trie.proofs.MapLaws.{map_listing-get, map_listing-Once}
use Rattle.trie.proofs.SetLaws.{Agree, Agree-SameSet, Agree-length, Agree-Inside, Inside-Agree}

every-All : (p : Entry → Bool) (P : Entry → Type 0) → ((e : Entry) → p e ≡ true → P e) → (xs : List Entry) → every p xs ≡ true
    → All P xs
unfolding every All
every-All p P f [] q = tt
every-All p P f (x ∷ xs) q =
    split (p x) (λ r. (f x r, every-All p P f xs (rw r at q)))
    (λ r. let z : false ≡ true = rw r at q in let y : ◌≡◌ {A = ℕ} 0 1 = cc in absurd (omega arith))

All-every : (p : Entry → Bool) (P : Entry → Type 0) → ((e : Entry) → P e → p e ≡ true) → (xs : List Entry) → All P xs → every p xs
    ≡ true
unfolding every All
All-every p P f [] a = refl
All-every p P f (x ∷ xs) (r, a) = rw (f x r) (All-every p P f xs a)

answers-true : (o : Got) (v : ℕ) → answers o v ≡ true → o ≡ got v
unfolding answers
answers-true absent v q = let y : ◌≡◌ {A = ℕ} 0 1 = cc in absurd (omega arith)
answers-true (got w) v q = ap got (eqb-true w v q)

true-answers : (o : Got) (v : ℕ) → o ≡ got v → answers o v ≡ true
unfolding answers
true-answers o v q = rw q (eq-eqb v v refl)

module _ (seg : ℕ → ℕ → ℕ) (d : ℕ) (W : Entry → Type 0) {X Y : Type 0} (m : Map X) (n : Map Y) (cm : Canonical seg W (suc d) m)
    (cn : Canonical seg W (suc d) n) where
  equal-Agree : equal seg (suc d) m n ≡ true → Agree (listing m) (listing n)
  unfolding equal size
  equal-Agree q =
      split (eqb (length (listing m)) (length (listing n)))
      (λ p. Inside-Agree (listing m) (listing n) (map_listing-Once seg d W m cm) (map_listing-Once seg d W n cn)
      (eqb-true (length (listing m)) (length (listing n)) p)
      (every-All _ (λ e. lookup e.hash e.key (listing n) ≡ got e.value)
      (λ e r. map_listing-get seg d W n cn e.hash e.key ∙ answers-true (get seg (suc d) e.hash e.key n) e.value r)
      (listing m) (rw p at q)))
      (λ p. let z : false ≡ true = rw p at q in let y : ◌≡◌ {A = ℕ} 0 1 = cc in absurd (omega arith))

  Agree-equal : Agree (listing m) (listing n) → equal seg (suc d) m n ≡ true
  unfolding equal size
  Agree-equal a =
      let om : Once (listing m) = map_listing-Once seg d W m cm in
      rw (eq-eqb (length (listing m)) (length (listing n))
      (Agree-length (listing m) (listing n) om (map_listing-Once seg d W n cn) a))
      (All-every _ (λ e. lookup e.hash e.key (listing n) ≡ got e.value)
      (λ e r. true-answers (get seg (suc d) e.hash e.key n) e.value
      (sym (map_listing-get seg d W n cn e.hash e.key) ∙ r)) (listing m)
      (Agree-Inside (listing m) (listing n) (listing m) (λ e r. r) om a))

  -- EQUAL IS HAVING THE SAME (HASH, KEY, VALUE)
  pub equal-SameSet : (equal seg (suc d) m n ≡ true) ↔ SameSet (listing m) (listing n)
  equal-SameSet =
      let s : Agree (listing m) (listing n) ↔ SameSet (listing m) (listing n)
      = Agree-SameSet (listing m) (listing n) (map_listing-Once seg d W m cm) (map_listing-Once seg d W n cn) in
      (λ q. s.0 (equal-Agree q), λ t. Agree-equal (s.1 t))

-- REFLEXIVE, SYMMETRIC AND TRANSITIVE
module _ (seg : ℕ → ℕ → ℕ) (d : ℕ) (W : Entry → Type 0) {X : Type 0} (m : Map X) (cm : Canonical seg W (suc d) m) where
  pub equal_reflexive : equal seg (suc d) m m ≡ true
  equal_reflexive = Agree-equal seg d W m m cm cm (λ h k. refl)

  module _ {Y : Type 0} (n : Map Y) (cn : Canonical seg W (suc d) n) where
    pub equal_symmetric : equal seg (suc d) m n ≡ true → equal seg (suc d) n m ≡ true
    equal_symmetric q = Agree-equal seg d W n m cn cm (λ h k. sym (equal-Agree seg d W m n cm cn q h k))

    pub equal_transitive : {Z : Type 0} (o : Map Z) → Canonical seg W (suc d) o → equal seg (suc d) m n ≡ true
        → equal seg (suc d) n o ≡ true → equal seg (suc d) m o ≡ true
    equal_transitive o co q r =
        Agree-equal seg d W m o cm co (λ h k. equal-Agree seg d W m n cm cn q h k ∙ equal-Agree seg d W n o cn co r h k)
