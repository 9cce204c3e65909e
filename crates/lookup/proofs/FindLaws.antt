-- A lookup on any words, step by step: what a reference names, where a path goes on, and where a search of a chain goes on.
use Prim.Native.Nat.{ℕ, zero, suc, ◌+◌, ◌-◌, ◌≤◌, ◌<◌}
use mathlib.Core.Path.{ap, ◌≡◌, refl, sym, ◌∙◌}
use mathlib.Core.Bool.{cond, true, false}
use lib.Dec.{eqb}
use borrow.Author.Tests.{le-ltb, eq-eqb, ne_eqb, eqb-true}
use native.Mathlib.Omega.{arith}
use Rattle.sparse_array.specs.Places.{Place, place_of}
use Rattle.layout.specs.Layout.{has, kind_of, names}
use Rattle.layout.specs.Columns.{columns, word_of_slot, word, plain_place, refs, State}
use Rattle.layout.proofs.ColumnLaws.{plain_in, has_entry}
use Rattle.lookup.specs.Lookup.{hop, longest, value_at, get_below, child_in, kid_at, names_kind, entry_at, path_end, hit_from}
use mathlib.Core.List.{List}
use Rattle.cases.proofs.Cases.{split, both}
use Rattle.layout.specs.declared.Shape.{Shape}
use Rattle.layout.proofs.OffsetLaws.{names_low}
use Rattle.trie.specs.Entry.{matches}
use Rattle.std.specs.Prelude.{Option, Some, None}

-- KINDS. A reference names a branch, or an entry, exactly if it names a cell of that kind.
module _ (z : Shape) (k r : ℕ) where
  pub kind_says : names_kind z k r ≡ true → (names z r ≡ true) × (kind_of r ≡ k)
  unfolding names_kind
  kind_says e = let w = both _ (names z r) e in (w.1, eqb-true _ _ w.0)

  pub kind_is : names z r ≡ true → kind_of r ≡ k → names_kind z k r ≡ true
  unfolding names_kind
  kind_is n e = rw (eq-eqb (kind_of r) k e, n)

  pub kind_none : names z r ≡ false → names_kind z k r ≡ false
  unfolding names_kind
  kind_none e = split (eqb (kind_of r) k) (λ t. rw (t, e)) (λ f. rw f)

  pub kind_other : (kind_of r ≡ k → ⊥) → names_kind z k r ≡ false
  unfolding names_kind
  kind_other ne = rw (ne_eqb (kind_of r) k ne)

-- none is no branch
pub none_branch : (z : Shape) → names_kind z 0 0 ≡ false
unfolding names_kind
none_branch z = names_low z 0 (omega arith)

-- ONE STEP. A path stays where there is no branch, and else enters the child at the hash's segment.
module _ (z : Shape) (σ : State) (h : ℕ) where
  pub path_stays : (n t r : ℕ) → names_kind z 0 r ≡ false → path_end z σ h n t r ≡ r
  unfolding path_end
  path_stays zero t r e = refl
  path_stays (suc n) t r e = rw e

  pub path_enters : (n t r c : ℕ) → names_kind z 0 r ≡ true → hop z σ h t r ≡ c
      → path_end z σ h (suc n) t r ≡ path_end z σ h n (suc t) c
  unfolding path_end
  path_enters n t r c e q = rw (e, q)

-- A search ends where there is no entry, and where the entry has the hash and the key; else it goes on with the next.
module _ (z : Shape) (σ : State) (h k : ℕ) where
  pub hit_ends : (n r : ℕ) → names_kind z 1 r ≡ false → hit_from z σ h k n r ≡ None
  unfolding hit_from
  hit_ends zero r e = refl
  hit_ends (suc n) r e = rw e

  pub hit_here : (n r : ℕ) → names_kind z 1 r ≡ true → matches h k (entry_at σ r) ≡ true → hit_from z σ h k (suc n) r ≡ Some r
  unfolding hit_from
  hit_here n r e q = rw (e, q)

  pub hit_later : (n r : ℕ) → names_kind z 1 r ≡ true → matches h k (entry_at σ r) ≡ false
      → hit_from z σ h k (suc n) r ≡ hit_from z σ h k n (σ.kid r 0)
  unfolding hit_from
  hit_later n r e q = rw (e, q)

-- a hit is an entry
At-Nowhere : (q : ℕ) → None ≡ Some q → ⊥
At-Nowhere q e = let n : ◌≡◌ {A = ℕ} 0 1 = cc in omega arith

same_hit : (r q : ℕ) → Some r ≡ Some q → r ≡ q
same_hit r q e = cc

pub hit_names : (z : Shape) (σ : State) (h k n r q : ℕ) → hit_from z σ h k n r ≡ Some q → names_kind z 1 q ≡ true
hit_names z σ h k zero r q e = absurd (At-Nowhere q (unfold hit_from in e))
hit_names z σ h k (suc n) r q e =
    split (names_kind z 1 r)
    (λ y.
    split (matches h k (entry_at σ r))
    (λ m. rw (← same_hit r q (sym (hit_here z σ h k n r y m) ∙ e)) y)
    (λ m. hit_names z σ h k n (σ.kid r 0) q (sym (hit_later z σ h k n r y m) ∙ e)))
    (λ y. absurd (At-Nowhere q (sym (hit_ends z σ h k (suc n) r y) ∙ e)))

-- WORDS. What the code reads is what the columns say.
pub kid_out : (z : Shape) (a : List ℕ) (r k : ℕ) → refs z r ≤ k → (columns z a).kid r k ≡ 0
kid_out z a r k l = rw (le-ltb k (refs z r) l)

pub entry_word : (z : Shape) (a : List ℕ) (r j : ℕ) → names_kind z 1 r ≡ true → j < 3 → (columns z a).plain r j ≡ word z a r (3 + j)
entry_word z a r j e l =
    let k = (kind_says z 1 r e).1 in
    plain_in z a r j (rw k (omega arith)) ∙ ap (λ (i : ℕ). word z a r (plain_place i + j)) k

pub has_part : (z : Shape) (r p : ℕ) → names_kind z 1 r ≡ true → p < 6 → has z r p ≡ true
has_part z r p e l = let w = kind_says z 1 r e in has_entry z r p w.0 (λ k. omega (arith, w.1)) l

-- the words of an entry cell as the entry that it holds
pub entry_is : (z : Shape) (a : List ℕ) (r h k v : ℕ) → names_kind z 1 r ≡ true → h ≡ word z a r 3 → k ≡ word z a r 4
    → v ≡ word z a r 5 → record { hash = h; key = k; value = v } ≡ entry_at (columns z a) r
entry_is z a r h k v e eh ek ev =
    rw (
      eh ∙ sym (entry_word z a r 0 e (omega arith)),
      ek ∙ sym (entry_word z a r 1 e (omega arith)),
      ev ∙ sym (entry_word z a r 2 e (omega arith)),
    )

-- the test of a key: first the hash
module _ (z : Shape) (a : List ℕ) (r h k : ℕ) (e : names_kind z 1 r ≡ true) where
  key_test : matches h k (entry_at (columns z a) r) ≡ cond (eqb (word z a r 3) h) (eqb (word z a r 4) k) false
  unfolding matches
  key_test =
      let eh = entry_word z a r 0 e (omega arith) in
      let ek = entry_word z a r 1 e (omega arith) in
      λ i. cond (eqb (eh i) h) (eqb (ek i) k) false

  pub hash_same : (w v : ℕ) → w ≡ word z a r 3 → w ≡ h → v ≡ word z a r 4 → eqb v k ≡ matches h k (entry_at (columns z a) r)
  hash_same w v ew eh ev = ap (λ (x : ℕ). eqb x k) ev ∙ sym (rw (eq-eqb (word z a r 3) h (sym ew ∙ eh)) at key_test)

  pub hash_other : (w : ℕ) → w ≡ word z a r 3 → (w ≡ h → ⊥) → eqb w h ≡ matches h k (entry_at (columns z a) r)
  hash_other w ew ne = ne_eqb w h ne ∙ sym (rw (ne_eqb (word z a r 3) h (λ q. ne (ew ∙ q))) at key_test)

-- the child at the place that the bitmap tells
pub child_by : (z : Shape) (a : List ℕ) (r s b : ℕ) (p : Place) → names_kind z 0 r ≡ true → b ≡ word z a r 2 → place_of b s ≡ p
    → child_in (columns z a) r p ≡ kid_at (columns z a) r s
child_by z a r s b p e eb ep =
    let k = (kind_says z 0 r e).1 in
    let eq : (columns z a).plain r 0 ≡ word z a r 2
    = plain_in z a r 0 (rw k (omega arith)) ∙ ap (λ (i : ℕ). word z a r (plain_place i + 0)) k in
    ap (child_in (columns z a) r) (sym ep ∙ ap (λ (i : ℕ). place_of i s) (eb ∙ sym eq))

-- LOOPS. What is left of a path, and of a search.
module _ (z : Shape) (σ : State) (h : ℕ) where
  pub path_on : (d t r c : ℕ) → t < d → names_kind z 0 r ≡ true → c ≡ hop z σ h t r
      → path_end z σ h (d - t) t r ≡ path_end z σ h (d - (t + 1)) (t + 1) c
  path_on d t r c l e q =
      let n : d - t ≡ suc (d - (t + 1)) = omega arith in
      let m : suc t ≡ t + 1 = omega arith in
      ap (λ (i : ℕ). path_end z σ h i t r) n ∙ path_enters z σ h (d - (t + 1)) t r c e (sym q)
      ∙ ap (λ (i : ℕ). path_end z σ h (d - (t + 1)) i c) m

  pub path_first : (d r : ℕ) → path_end z σ h d 0 r ≡ path_end z σ h (d - 0) 0 r
  path_first d r = let n : d ≡ d - 0 = omega arith in ap (λ (i : ℕ). path_end z σ h i 0 r) n

  pub path_over : (d t r : ℕ) → d ≤ t → path_end z σ h (d - t) t r ≡ r
  unfolding path_end
  path_over d t r l = let n : d - t ≡ 0 = omega arith in rw n

module _ (z : Shape) (σ : State) (h k : ℕ) where
  pub search_here : (n r : ℕ) → 0 < n → names_kind z 1 r ≡ true → matches h k (entry_at σ r) ≡ true → hit_from z σ h k n r ≡ Some r
  search_here zero r l e q = absurd (omega arith)
  search_here (suc n) r l e q = hit_here z σ h k n r e q

  pub search_on : (d t r c : ℕ) → t < d → names_kind z 1 r ≡ true → matches h k (entry_at σ r) ≡ false → c ≡ σ.kid r 0
      → hit_from z σ h k (d - t) r ≡ hit_from z σ h k (d - (t + 1)) c
  search_on d t r c l e q y =
      let n : d - t ≡ suc (d - (t + 1)) = omega arith in
      rw (n, y) (hit_later z σ h k (d - (t + 1)) r e q)

  pub search_over : (n r : ℕ) → n ≡ 0 → hit_from z σ h k n r ≡ None
  unfolding hit_from
  search_over n r e = rw e

-- what is planned by the search below an edition's root, by what was read on the way
pub survey_is : {A : Type 0} (plan : Shape → State → ℕ → ℕ → ℕ → ℕ → Option ℕ → A) (z : Shape) (a : List ℕ) (e h k root size front : ℕ)
    (hit : Option ℕ) (p : A) → root ≡ word_of_slot z a e 1 → size ≡ word_of_slot z a e 2
    → front ≡ path_end z (columns z a) h z.depths 0 root → hit_from z (columns z a) h k (longest z) front ≡ hit
    → p ≡ plan z (columns z a) root size h front hit
    → p ≡ plan z (columns z a) ((columns z a).root e) ((columns z a).size e) h
    (path_end z (columns z a) h z.depths 0 ((columns z a).root e))
    (hit_from z (columns z a) h k (longest z) (path_end z (columns z a) h z.depths 0 ((columns z a).root e)))
survey_is plan z a e h k root size front hit p er es ef eh ep = rw (← er, ← es, ← ef, eh) ep

-- the value below a root, by where the path ends
pub value_below : (z : Shape) (a : List ℕ) (r h k front : ℕ) (v : Option ℕ) → front ≡ path_end z (columns z a) h z.depths 0 r
    → hit_from z (columns z a) h k (longest z) front ≡ v → get_below z a r h k ≡ value_at (columns z a) v
value_below z a r h k front v ef ev =
    ap (value_at (columns z a)) (ap (λ (x : ℕ). hit_from z (columns z a) h k (longest z) x) (sym ef) ∙ ev)
