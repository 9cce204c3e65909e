-- Plain lists of entries: what is found and how many there are after cut, and how all this passes over an append.
use mathlib.Core.Path.{◌≡◌, refl, sym, ◌∙◌, ap}
use mathlib.Core.Bool.{true, false}
use mathlib.Core.List.{List, [], ◌∷◌, ◌++◌}
use Prim.Native.Nat.{ℕ, ◌+◌}
use native.Mathlib.Omega.{arith}
use lib.ListN.{length}
use Rattle.cases.proofs.Cases.{split}
use Rattle.trie.specs.declared.Entry.{Entry}
use Rattle.trie.specs.Entry.{matches, Got, absent, got, if_got}
use Rattle.trie.specs.Listing.{All, lookup, Pairwise, Once, cut}
use Rattle.trie.proofs.Matches.{matches-true}

-- THE HEAD
pub lookup_hit : (h k : ℕ) (e : Entry) (es : List Entry) → matches h k e ≡ true → lookup h k (e ∷ es) ≡ got e.value
unfolding lookup
lookup_hit h k e es p = rw p

pub lookup_miss : (h k : ℕ) (e : Entry) (es : List Entry) → matches h k e ≡ false → lookup h k (e ∷ es) ≡ lookup h k es
unfolding lookup
lookup_miss h k e es p = rw p

pub cut_hit : (h k : ℕ) (e : Entry) (es : List Entry) → matches h k e ≡ true → cut h k (e ∷ es) ≡ es
unfolding cut
cut_hit h k e es p = rw p

pub cut_miss : (h k : ℕ) (e : Entry) (es : List Entry) → matches h k e ≡ false → cut h k (e ∷ es) ≡ e ∷ cut h k es
unfolding cut
cut_miss h k e es p = rw p

-- ALL
pub all_append : (P : Entry → Type 0) (xs ys : List Entry) → All P xs → All P ys → All P (xs ++ ys)
unfolding All
all_append P [] ys a b = b
all_append P (e ∷ es) ys (p, a) b = (p, all_append P es ys a b)

pub All-weak : (P R : Entry → Type 0) → ((e : Entry) → P e → R e) → (xs : List Entry) → All P xs → All R xs
unfolding All
All-weak P R w [] a = tt
All-weak P R w (e ∷ es) (p, a) = (w e p, All-weak P R w es a)

abbrev pub Unmatched : ℕ → ℕ → List Entry → Type 0
Unmatched h k xs = All (λ e. matches h k e ≡ false) xs

pub Unmatched-absent : (h k : ℕ) (xs : List Entry) → Unmatched h k xs → lookup h k xs ≡ absent
unfolding All
Unmatched-absent h k [] a = unfold lookup in refl
Unmatched-absent h k (e ∷ es) (p, a) = lookup_miss h k e es p ∙ Unmatched-absent h k es a

pub absent-Unmatched : (h k : ℕ) (xs : List Entry) → lookup h k xs ≡ absent → Unmatched h k xs
unfolding All
absent-Unmatched h k [] q = tt
absent-Unmatched h k (e ∷ es) q =
    split (matches h k e) (λ p. let z : ◌≡◌ {A = ℕ} 0 1 = cc (lookup_hit h k e es p) in absurd (omega arith))
    (λ p. (p, absent-Unmatched h k es (sym (lookup_miss h k e es p) ∙ q)))

-- OVER AN APPEND
module _ (h k : ℕ) where
  pub lookup_skip : (xs ys : List Entry) → Unmatched h k xs → lookup h k (xs ++ ys) ≡ lookup h k ys
  unfolding All
  lookup_skip [] ys a = refl
  lookup_skip (e ∷ es) ys (p, a) = lookup_miss h k e (es ++ ys) p ∙ lookup_skip es ys a

  pub lookup_left : (xs ys : List Entry) → Unmatched h k ys → lookup h k (xs ++ ys) ≡ lookup h k xs
  lookup_left [] ys a = Unmatched-absent h k ys a ∙ unfold lookup in refl
  lookup_left (e ∷ es) ys a =
      split (matches h k e) (λ p. lookup_hit h k e (es ++ ys) p ∙ sym (lookup_hit h k e es p))
      (λ p. lookup_miss h k e (es ++ ys) p ∙ lookup_left es ys a ∙ sym (lookup_miss h k e es p))

  pub cut_skip : (xs ys : List Entry) → Unmatched h k xs → cut h k (xs ++ ys) ≡ xs ++ cut h k ys
  unfolding All
  cut_skip [] ys a = refl
  cut_skip (e ∷ es) ys (p, a) = cut_miss h k e (es ++ ys) p ∙ ap (λ (l : List Entry). e ∷ l) (cut_skip es ys a)

  pub cut_none : (xs : List Entry) → Unmatched h k xs → cut h k xs ≡ xs
  unfolding All
  cut_none [] a = unfold cut in refl
  cut_none (e ∷ es) (p, a) = cut_miss h k e es p ∙ ap (λ (l : List Entry). e ∷ l) (cut_none es a)

  pub cut_left : (xs ys : List Entry) → Unmatched h k ys → cut h k (xs ++ ys) ≡ cut h k xs ++ ys
  cut_left [] ys a = cut_none ys a ∙ unfold cut in refl
  cut_left (e ∷ es) ys a =
      split (matches h k e) (λ p. cut_hit h k e (es ++ ys) p ∙ sym (ap (λ (l : List Entry). l ++ ys) (cut_hit h k e es p)))
      (λ p. cut_miss h k e (es ++ ys) p ∙ ap (λ (l : List Entry). e ∷ l) (cut_left es ys a)
      ∙ sym (ap (λ (l : List Entry). l ++ ys) (cut_miss h k e es p)))

pub pairwise_append : (R : Entry → Entry → Type 0) (xs ys : List Entry) → Pairwise R xs → Pairwise R ys
    → All (λ x. All (R x) ys) xs → Pairwise R (xs ++ ys)
unfolding Pairwise All
pairwise_append R [] ys a b c = b
pairwise_append R (x ∷ xs) ys (p, a) b (q, c) = (all_append (R x) xs ys p q, pairwise_append R xs ys a b c)

pub Pairwise-of_All : (R : Entry → Entry → Type 0) (P : Entry → Type 0) → ((x y : Entry) → P x → P y → R x y) → (xs : List Entry)
    → All P xs → Pairwise R xs
unfolding Pairwise All
Pairwise-of_All R P f [] a = tt
Pairwise-of_All R P f (x ∷ xs) (p, a) = (All-weak P (R x) (λ y q. f x y p q) xs a, Pairwise-of_All R P f xs a)

pub Pairwise-weak : (R S : Entry → Entry → Type 0) (P : Entry → Type 0) → ((x y : Entry) → P x → P y → R x y → S x y)
    → (xs : List Entry) → All P xs → Pairwise R xs → Pairwise S xs
unfolding Pairwise All
Pairwise-weak R S P w [] a r = tt
Pairwise-weak R S P w (x ∷ xs) (p, a) (q, r) = (both w x p xs a q, Pairwise-weak R S P w xs a r)
  where
    both : ((x y : Entry) → P x → P y → R x y → S x y) → (x : Entry) → P x → (ys : List Entry) → All P ys → All (R x) ys
        → All (S x) ys
    both w x p [] a q = tt
    both w x p (y ∷ ys) (b, a) (c, q) = (w x y p b c, both w x p ys a q)

-- AFTER CUT
pub cut_other : (h k h' k' : ℕ) (es : List Entry) → ((e : Entry) → matches h k e ≡ true → matches h' k' e ≡ true → ⊥)
    → lookup h' k' (cut h k es) ≡ lookup h' k' es
cut_other h k h' k' [] ne = unfold cut in refl
cut_other h k h' k' (e ∷ es) ne =
    split (matches h k e)
    (λ p. split (matches h' k' e) (λ q. absurd (ne e p q)) (λ q. rw (cut_hit h k e es p) (sym (lookup_miss h' k' e es q))))
    (λ p. split (matches h' k' e)
    (λ q. rw (cut_miss h k e es p) (lookup_hit h' k' e (cut h k es) q ∙ sym (lookup_hit h' k' e es q)))
    (λ q. rw (cut_miss h k e es p) (lookup_miss h' k' e (cut h k es) q ∙ cut_other h k h' k' es ne
    ∙ sym (lookup_miss h' k' e es q))))

pub cut_same : (h k : ℕ) (es : List Entry) → Once es → lookup h k (cut h k es) ≡ absent
unfolding Pairwise
cut_same h k [] o = unfold cut lookup in refl
cut_same h k (e ∷ es) (a, o) =
    split (matches h k e)
    (λ p. let q : (e.hash ≡ h) × (e.key ≡ k) = matches-true h k e p in
    rw (cut_hit h k e es p, ← q.0, ← q.1) (Unmatched-absent e.hash e.key es a))
    (λ p. rw (cut_miss h k e es p) (lookup_miss h k e (cut h k es) p ∙ cut_same h k es o))

All-cut : (P : Entry → Type 0) (h k : ℕ) (es : List Entry) → All P es → All P (cut h k es)
unfolding All
All-cut P h k [] a = unfold cut in tt
All-cut P h k (e ∷ es) (p, a) = split (matches h k e) (λ q. rw (cut_hit h k e es q) a)
    (λ q. rw (cut_miss h k e es q) (p, All-cut P h k es a))

pub cut-Pairwise : (R : Entry → Entry → Type 0) (h k : ℕ) (es : List Entry) → Pairwise R es → Pairwise R (cut h k es)
unfolding Pairwise
cut-Pairwise R h k [] o = unfold cut in tt
cut-Pairwise R h k (e ∷ es) (a, o) =
    split (matches h k e) (λ p. rw (cut_hit h k e es p) o)
    (λ p. rw (cut_miss h k e es p) (All-cut (R e) h k es a, cut-Pairwise R h k es o))

pub cut-length : (h k : ℕ) (es : List Entry) → length (cut h k es) + if_got (lookup h k es) 1 0 ≡ length es
unfolding if_got
cut-length h k [] = unfold cut lookup in refl
cut-length h k (e ∷ es) =
    split (matches h k e) (λ p. rw (cut_hit h k e es p, lookup_hit h k e es p) (omega arith))
    (λ p. rw (cut_miss h k e es p, lookup_miss h k e es p) (omega (arith, cut-length h k es)))

pub cut_found : (h k v : ℕ) (es : List Entry) → lookup h k es ≡ got v → length (cut h k es) + 1 ≡ length es
unfolding if_got
cut_found h k v es q = ap (λ (o : Got). length (cut h k es) + if_got o 1 0) (sym q) ∙ cut-length h k es
