-- Whether an entry matches a hash and a key: what the test says, and that no entry matches two keys.
use mathlib.Core.Path.{◌≡◌, refl, sym, ◌∙◌}
use mathlib.Core.Bool.{Bool, true, false, cond}
use Prim.Native.Nat.{ℕ}
use native.Mathlib.Omega.{arith}
use lib.Dec.{eqb}
use borrow.Author.Tests.{eqb-true, eq-eqb, ne_eqb}
use Rattle.cases.proofs.Cases.{split}
use Rattle.trie.specs.declared.Entry.{Entry}
use Rattle.trie.specs.Entry.{matches}

-- the test on keys
pub matches-true : (h k : ℕ) (e : Entry) → matches h k e ≡ true → (e.hash ≡ h) × (e.key ≡ k)
unfolding matches
matches-true h k e q = go (eqb e.hash h) refl q
  where
    go : (b : Bool) → eqb e.hash h ≡ b → cond b (eqb e.key k) false ≡ true → (e.hash ≡ h) × (e.key ≡ k)
    go true p q = (eqb-true e.hash h p, eqb-true e.key k q)
    go false p q = let z : ◌≡◌ {A = ℕ} 0 1 = cc in omega arith

pub matches_self : (e : Entry) → matches e.hash e.key e ≡ true
unfolding matches
matches_self e = rw (eq-eqb e.hash e.hash refl, eq-eqb e.key e.key refl)

-- two entries with the same key meet the same tests
pub matches_alike : (h k : ℕ) (e : Entry) → matches h k e ≡ true → (h' k' : ℕ) (d : Entry) → matches h k d ≡ true
    → matches h' k' d ≡ matches h' k' e
unfolding matches
matches_alike h k e p h' k' d q =
    let a : (e.hash ≡ h) × (e.key ≡ k) = matches-true h k e p in
    let b : (d.hash ≡ h) × (d.key ≡ k) = matches-true h k d q in
    rw (a.0, a.1, b.0, b.1)

-- another hash is another key
pub matches-hash : (h k : ℕ) (e : Entry) → (e.hash ≡ h → ⊥) → matches h k e ≡ false
unfolding matches
matches-hash h k e ne = rw (ne_eqb e.hash h ne)

pub not_both : (h k : ℕ) (e : Entry) → matches h k e ≡ true → matches h k e ≡ false → ⊥
not_both h k e p q = let z : ◌≡◌ {A = ℕ} 0 1 = cc in omega arith

-- another hash or another key does not match, and no entry matches two
pub matches_other : (h k : ℕ) (e : Entry) → ((e.hash ≡ h) × (e.key ≡ k) → ⊥) → matches h k e ≡ false
matches_other h k e ne = split (matches h k e) (λ p. absurd (ne (matches-true h k e p))) (λ p. p)

pub matches_one : (h k h' k' : ℕ) → ((h ≡ h') × (k ≡ k') → ⊥) → (e : Entry) → matches h k e ≡ true → matches h' k' e ≡ true → ⊥
matches_one h k h' k' ne e p q =
    let a : (e.hash ≡ h) × (e.key ≡ k) = matches-true h k e p in
    let b : (e.hash ≡ h') × (e.key ≡ k') = matches-true h' k' e q in
    ne (sym a.0 ∙ b.0, sym a.1 ∙ b.1)

pub matches_apart : (x : Entry) (h k : ℕ) → matches h k x ≡ false → (e : Entry) → matches x.hash x.key e ≡ true
    → matches h k e ≡ true → ⊥
matches_apart x h k ne e p q = not_both h k x (sym (matches_alike x.hash x.key x (matches_self x) h k e p) ∙ q) ne
