-- Lists with no key twice, as sets: the entries are what lookup answers, and equality as document 01 puts it is equality of
-- all answers. To compare, take the first entry out of both.
use mathlib.Core.Path.{◌≡◌, refl, sym, ◌∙◌}
use mathlib.Core.Logic.{◌⊎◌, inl, inr, ◌↔◌}
use mathlib.Core.List.Memᴰ
use mathlib.Core.List.{List, [], ◌∷◌, Memᴰ}
use Prim.Native.Nat.{ℕ}
use native.Mathlib.Omega.{arith}
use lib.ListN.{length}
use Rattle.cases.proofs.Cases.{split}
use Rattle.trie.specs.declared.Entry.{Entry}
use Rattle.trie.specs.Entry.{matches, Got, absent, got}
use Rattle.trie.specs.Listing.{All, lookup, Pairwise, Once, cut, SameSet}
use Rattle.trie.proofs.ListLaws.{lookup_hit, lookup_miss, Unmatched, Unmatched-absent, cut_other, cut_same, cut-Pairwise, cut_found}
use Rattle.trie.proofs.Matches.{matches-true, matches_self, matches_apart}

-- a member, and its answer
pub mem_lookup : (e : Entry) (xs : List Entry) → Once xs → Memᴰ e xs → lookup e.hash e.key xs ≡ got e.value
unfolding Pairwise
mem_lookup e [] o m = absurd (Memᴰ.not-nil m)
mem_lookup e (x ∷ xs) (u, o) m = go (mem_lookup e xs o) (Memᴰ.cases_cons m)
  where
    go : (Memᴰ e xs → lookup e.hash e.key xs ≡ got e.value) → (e ≡ x) ⊎ Memᴰ e xs
        → lookup e.hash e.key (x ∷ xs) ≡ got e.value
    go ih (inl q) = rw q (lookup_hit x.hash x.key x xs (matches_self x))
    go ih (inr r) =
        split (matches e.hash e.key x)
        (λ p. let z : (x.hash ≡ e.hash) × (x.key ≡ e.key) = matches-true e.hash e.key x p in
        let a : lookup e.hash e.key xs ≡ absent = rw (z.0, z.1) at (Unmatched-absent x.hash x.key xs u) in
        let y : ◌≡◌ {A = ℕ} 0 1 = cc (ih r) in absurd (omega arith))
        (λ p. lookup_miss e.hash e.key x xs p ∙ ih r)

pub lookup_mem : (h k v : ℕ) (xs : List Entry) → lookup h k xs ≡ got v → Memᴰ (record { hash = h; key = k; value = v }) xs
lookup_mem h k v [] q = let z : ◌≡◌ {A = Got} absent (got v) = unfold lookup in q in let y : ◌≡◌ {A = ℕ} 0 1
    = cc in absurd (omega arith)
lookup_mem h k v (x ∷ xs) q =
    split (matches h k x)
    (λ p. let z : (x.hash ≡ h) × (x.key ≡ k) = matches-true h k x p in
    let y : x.value ≡ v = let r : got x.value ≡ got v = sym (lookup_hit h k x xs p) ∙ q in cc in
    Memᴰ.head (rw (z.0, z.1, y)))
    (λ p. Memᴰ.tail (lookup_mem h k v xs (sym (lookup_miss h k x xs p) ∙ q)))

-- all answers are the same
abbrev pub Agree : List Entry → List Entry → Type 0
Agree xs ys = (h k : ℕ) → lookup h k xs ≡ lookup h k ys

Agree-from : (xs ys : List Entry) → ((h k v : ℕ) → lookup h k xs ≡ got v → lookup h k ys ≡ got v)
    → ((h k v : ℕ) → lookup h k ys ≡ got v → lookup h k xs ≡ got v) → Agree xs ys
Agree-from xs ys f g h k = go (lookup h k xs) (lookup h k ys) refl refl
  where
    go : (o p : Got) → lookup h k xs ≡ o → lookup h k ys ≡ p → lookup h k xs ≡ lookup h k ys
    go absent absent q r = q ∙ sym r
    go absent (got v) q r = g h k v r ∙ sym r
    go (got v) p q r = q ∙ sym (f h k v q)

-- AGREEING IS HAVING THE SAME ENTRIES
pub Agree-SameSet : (xs ys : List Entry) → Once xs → Once ys → Agree xs ys ↔ SameSet xs ys
Agree-SameSet xs ys ox oy = (to, from)
  where
    to : Agree xs ys → SameSet xs ys
    to a e = (
      λ m. lookup_mem e.hash e.key e.value ys (sym (a e.hash e.key) ∙ mem_lookup e xs ox m),
      λ m.
          lookup_mem e.hash e.key e.value xs (a e.hash e.key ∙ mem_lookup e ys oy m),
    )

    from : SameSet xs ys → Agree xs ys
    from s =
        Agree-from xs ys (λ h k v q. mem_lookup (record { hash = h; key = k; value = v }) ys oy
        ((s (record { hash = h; key = k; value = v })).0 (lookup_mem h k v xs q)))
        (λ h k v q. mem_lookup (record { hash = h; key = k; value = v }) xs ox
        ((s (record { hash = h; key = k; value = v })).1 (lookup_mem h k v ys q)))

-- the first entry taken out of both
Agree-cut : (x : Entry) (xs ys : List Entry) → Once (x ∷ xs) → Once ys → Agree (x ∷ xs) ys → Agree xs (cut x.hash x.key ys)
Agree-cut x xs ys o oy a h k =
    split (matches h k x)
    (λ p. let z : (x.hash ≡ h) × (x.key ≡ k) = matches-true h k x p in
    rw (← z.0, ← z.1) (Unmatched-absent x.hash x.key xs (unfold Pairwise in o.0)
    ∙ sym (cut_same x.hash x.key ys oy)))
    (λ p. sym (lookup_miss h k x xs p) ∙ a h k ∙ sym (cut_other x.hash x.key h k ys (matches_apart x h k p)))

-- AGREEING LISTS ARE OF ONE LENGTH
pub Agree-length : (xs ys : List Entry) → Once xs → Once ys → Agree xs ys → length xs ≡ length ys
Agree-length [] [] ox oy a = refl
Agree-length [] (y ∷ ys) ox oy a =
    let z : absent ≡ got y.value = unfold lookup in (a y.hash y.key)
    ∙ lookup_hit y.hash y.key y ys (matches_self y) in
    let w : ◌≡◌ {A = ℕ} 0 1 = cc in absurd (omega arith)
Agree-length (x ∷ xs) ys ox oy a =
    let ih : length xs ≡ length (cut x.hash x.key ys)
    = Agree-length xs (cut x.hash x.key ys) (unfold Pairwise in ox.1) (cut-Pairwise _ x.hash x.key ys oy)
    (Agree-cut x xs ys ox oy a) in
    let here : lookup x.hash x.key ys ≡ got x.value = sym (a x.hash x.key)
    ∙ lookup_hit x.hash x.key x xs (matches_self x) in
    omega (arith, cut_found x.hash x.key x.value ys here)

abbrev pub Inside : List Entry → List Entry → Type 0
Inside xs ys = All (λ e. lookup e.hash e.key ys ≡ got e.value) xs

pub Agree-Inside : (xs ys zs : List Entry) → ((e : Entry) → Memᴰ e zs → Memᴰ e xs) → Once xs → Agree xs ys
    → Inside zs ys
unfolding All
Agree-Inside xs ys [] sub o a = tt
Agree-Inside xs ys (z ∷ zs) sub o a = (
  sym (a z.hash z.key) ∙ mem_lookup z xs o (sub z (Memᴰ.head refl)),
  Agree-Inside xs ys zs
      (λ e m. sub e (Memᴰ.tail m)) o a,
)

Inside-cut : (x : Entry) (ys xs : List Entry) → Unmatched x.hash x.key xs → Inside xs ys
    → Inside xs (cut x.hash x.key ys)
unfolding All
Inside-cut x ys [] u a = tt
Inside-cut x ys (e ∷ es) (n, u) (p, a) = (
  cut_other x.hash x.key e.hash e.key ys (λ d r s. matches_apart e x.hash x.key n d s r)
      ∙ p,
  Inside-cut x ys es u a,
)

-- DOCUMENT 01'S EQUALITY IS AGREEMENT: one list inside another of its length
pub Inside-Agree : (xs ys : List Entry) → Once xs → Once ys → length xs ≡ length ys → Inside xs ys → Agree xs ys
unfolding Pairwise
Inside-Agree [] [] ox oy q i h k = refl
Inside-Agree [] (y ∷ ys) ox oy q i h k = absurd (omega (arith, q))
Inside-Agree (x ∷ xs) ys (u, ox) oy q i h k =
    let all : (lookup x.hash x.key ys ≡ got x.value) × Inside xs ys = unfold All in i in
    let ih : lookup h k xs ≡ lookup h k (cut x.hash x.key ys)
    = Inside-Agree xs (cut x.hash x.key ys) ox (cut-Pairwise _ x.hash x.key ys oy)
    (omega (arith, cut_found x.hash x.key x.value ys all.0)) (Inside-cut x ys xs u all.1) h k in
    split (matches h k x)
    (λ p. let z : (x.hash ≡ h) × (x.key ≡ k) = matches-true h k x p in lookup_hit h k x xs p
    ∙ sym (rw (z.0, z.1) at all.0))
    (λ p. lookup_miss h k x xs p ∙ ih ∙ cut_other x.hash x.key h k ys (matches_apart x h k p))
