-- Listings by themselves, as plain lists of entries: what a list answers for a key, and what insert and remove make of it.
use Rattle.std.specs.Prelude.{◌≡◌, Bool, false, cond, ◌↔◌, ℕ, zero, suc, eqb, ltb}
use mathlib.Core.List.{List, [], ◌∷◌, Memᴰ}
use Rattle.trie.specs.declared.Entry.{Entry}
use Rattle.trie.specs.Entry.{matches, Got, absent, got}

unfoldable pub All : (Entry → Type 0) → List Entry → Type 0
All P [] = Unit {0}
All P (e ∷ es) = P e × All P es

-- the value of the first entry with this hash and key
unfoldable pub lookup : ℕ → ℕ → List Entry → Got
lookup h k [] = absent
lookup h k (e ∷ es) = cond (matches h k e) (got e.value) (lookup h k es)

unfoldable pub Pairwise : (Entry → Entry → Type 0) → List Entry → Type 0
Pairwise R [] = Unit {0}
Pairwise R (e ∷ es) = All (R e) es × Pairwise R es

-- no (hash, key) twice
abbrev pub Once : List Entry → Type 0
Once es = Pairwise (λ x y. matches x.hash x.key y ≡ false) es

-- the list without the first entry of this hash and key; the others keep their order
unfoldable pub cut : ℕ → ℕ → List Entry → List Entry
cut h k [] = []
cut h k (e ∷ es) = cond (matches h k e) es (e ∷ cut h k es)

-- the same entries, whatever their order
abbrev pub SameSet : List Entry → List Entry → Type 0
SameSet xs ys = (e : Entry) → Memᴰ e xs ↔ Memᴰ e ys

-- LISTING ORDER. A hash is earlier than another if its segment is the lower one at the first depth at which the two differ; n
-- depths are left, from depth t on.
module _ (seg : ℕ → ℕ → ℕ) where
  unfoldable pub earlier : ℕ → ℕ → ℕ → ℕ → Bool
  earlier zero t h h' = false
  earlier (suc n) t h h' = cond (eqb (seg t h) (seg t h')) (earlier n (suc t) h h') (ltb (seg t h) (seg t h'))

  -- e in front of the first entry that is not earlier, and the entry with its hash and key, if there is one, taken out
  unfoldable pub place : ℕ → ℕ → Entry → List Entry → List Entry
  place n t e [] = e ∷ []
  place n t e (x ∷ xs) = cond (earlier n t x.hash e.hash) (x ∷ place n t e xs) (e ∷ cut e.hash e.key (x ∷ xs))

  -- no entry is earlier than one that stands before it
  abbrev pub Ordered : ℕ → ℕ → List Entry → Type 0
  Ordered n t es = Pairwise (λ x y. earlier n t y.hash x.hash ≡ false) es
