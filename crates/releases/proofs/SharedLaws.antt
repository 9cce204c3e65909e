-- A shared cell: what the code tests, what a release of it comes to, and the turns of a row that meet one or none.
use Prim.Native.Nat.{ℕ, ◌+◌, ◌≤◌, ◌<◌}
use mathlib.Core.Path.{◌≡◌, refl, sym, ap, ◌∙◌}
use mathlib.Core.Bool.{Bool, true, false, cond}
use mathlib.Core.List.{List}
use mathlib.Core.Logic.{◌⊎◌, ⊎_elim}
use native.Mathlib.Omega.{arith}
use lib.Dec.{eqb, ltb}
use lib.ListN.{set}
use lib.Seq.{set-get_or}
use borrow.Author.Tests.{ltb-true, lt-ltb, le-ltb}
use Rattle.cases.proofs.Cases.{split, both}
use Rattle.layout.specs.declared.Shape.{Shape}
use Rattle.layout.specs.Layout.{kind_of, word_at, names, has, Lent}
use Rattle.layout.specs.Columns.{State, word, kid_place, columns, word_set}
use Rattle.layout.proofs.StoreLaws.{word_in}
use Rattle.layout.proofs.ColumnLaws.{has_branch, kid_in}
use Rattle.lookup.specs.Lookup.{names_kind}
use Rattle.lookup.proofs.FindLaws.{kind_says, kind_is, kind_other, kind_none}
use Rattle.cells.specs.Mirrors.{unshare_words, take_out_words}
use Rattle.cells.proofs.StepColumns.{take_out_columns}
use Rattle.releases.specs.Releases.{RowGoesOn, at_place, release_from, comes_to, is_shared}
use Rattle.releases.proofs.CaseLaws.{none_kind, branch_place, last_not, less_shared, place_says, place_none, release_entry, release_none}
use Rattle.releases.proofs.StepLaws.{chain_shared, row_next, release_shared}

-- THE TEST
none_of : (b : Bool) → false ≡ cond b false false
none_of true = refl
none_of false = refl

all_of : (b : Bool) → b ≡ cond b true false
all_of true = refl
all_of false = refl

module _ (z : Shape) (σ : State) (n t r : ℕ) where
  pub unnamed_not_shared : names z r ≡ false → false ≡ is_shared z σ n t r
  unfolding is_shared at_place
  unnamed_not_shared e = rw (kind_none z 1 r e, kind_none z 0 r e, ← none_of (ltb 0 n))

  pub once_not_shared : σ.count r ≤ 1 → false ≡ is_shared z σ n t r
  unfolding is_shared
  once_not_shared l = rw (le-ltb 1 (σ.count r) l) (none_of (comes_to z σ n t r))

  pub entry_shared : names z r ≡ true → kind_of r ≡ 1 → 1 < σ.count r → true ≡ is_shared z σ n t r
  unfolding is_shared
  entry_shared e o l = rw (kind_is z 1 r e o, lt-ltb 1 (σ.count r) l)

  -- a branch is entered where depths are left and its depth is its place
  pub branch_shared : (here : Bool) → names z r ≡ true → (kind_of r ≡ 1 → ⊥) → 1 < σ.count r
      → ((0 < n) × (here ≡ eqb (σ.mark r) t)) ⊎ ((n ≤ 0) × (here ≡ false)) → here ≡ is_shared z σ n t r
  unfolding is_shared at_place
  branch_shared here e o l w =
      rw (kind_other z 1 r o, lt-ltb 1 (σ.count r) l, kind_is z 0 r e (omega arith))
      (⊎_elim (λ p. rw (lt-ltb 0 n p.0) (p.1 ∙ all_of (eqb (σ.mark r) t))) (λ p. rw (le-ltb 0 n p.0) p.1) w)

  shared_both : is_shared z σ n t r ≡ true → (comes_to z σ n t r ≡ true) × (1 < σ.count r)
  unfolding is_shared
  shared_both e = let w = both (comes_to z σ n t r) (ltb 1 (σ.count r)) e in (w.0, ltb-true 1 (σ.count r) w.1)

  -- it is an entry, or a branch at its place with depths left
  shared_cell : is_shared z σ n t r ≡ true → names_kind z 1 r ≡ false → (0 < n) × (at_place z σ t r ≡ true)
  shared_cell e o =
      let w = both (ltb 0 n) (at_place z σ t r) (rw o at (shared_both e).0) in (ltb-true 0 n w.0, w.1)

  shared_says : is_shared z σ n t r ≡ true → (names z r ≡ true) × (1 < σ.count r)
  shared_says e = (
    split (names_kind z 1 r)
        (λ o. (kind_says z 1 r o).0)
        (λ o. (kind_says z 0 r (place_says z σ t r (shared_cell e o).1).0).0),
    (shared_both e).1,
  )

-- THE RELEASE of a shared cell is one word fewer, and of none nothing
shared_release : (z : Shape) (n t r : ℕ) (a : List ℕ) → 0 < z.entries → is_shared z (columns z a) n t r ≡ true
    → unshare_words z a r ≡ release_from z n t r a
shared_release z n t r a some e =
    let two : 1 < word z a r 0 = (shared_says z (columns z a) n t r e).1 in
    let more = last_not z a r (λ q. omega arith) in
    let less = sym (less_shared z a r two) in
    split (names_kind z 1 r)
    (λ o. sym (release_entry z t r a n o ∙ chain_shared z r a z.entries _ some o more less))
    (λ o.
    let w = shared_cell z (columns z a) n t r e o in
    release_shared z t r a o w.1 n _ (λ q. omega (arith, w.0)) more less)

none_release : (z : Shape) (n t : ℕ) (a : List ℕ) → a ≡ release_from z n t 0 a
none_release z n t a =
    sym (release_none z t 0 a n (none_kind z 1 0 refl) (place_none z (columns z a) t 0 (none_kind z 0 0 refl)))

-- a store of what stands there changes nothing
store_same : (z : Shape) (a : List ℕ) (r p : ℕ) → has z r p ≡ true → word_set z a r p (word z a r p) ≡ a
store_same z a r p h = ap (set a (word_at z r p)) (word_in z a r p h) ∙ set-get_or a (word_at z r p) 0

-- ROWS. The children of a branch stand from word 3 on, and what is taken out is neither a count nor a depth.
pub child_place : (z : Shape) (r k : ℕ) → names_kind z 0 r ≡ true → k < z.degree → has z r (3 + k) ≡ true
child_place z r k e l = let w = kind_says z 0 r e in has_branch z r (3 + k) w.0 w.1 (omega arith)

module _ (z : Shape) (a : List ℕ) (r k : ℕ) (l : Lent z a) (e : names_kind z 0 r ≡ true) (lk : k < z.degree) where
  at : 3 + k ≡ kid_place (kind_of r) + k
  at = omega (arith, (kind_says z 0 r e).1)

  child_is : word z a r (3 + k) ≡ (columns z a).kid r k
  child_is = ap (word z a r) at ∙ sym (kid_in z a r k (branch_place z r k e lk))

  out_is : word_set z a r (3 + k) 0 ≡ take_out_words z a r k
  out_is = ap (λ (p : ℕ). word_set z a r p 0) at

  -- where there is none, taking it out changes nothing
  out_same : word z a r (3 + k) ≡ 0 → a ≡ take_out_words z a r k
  out_same q = sym (store_same z a r (3 + k) (child_place z r k e lk)) ∙ ap (word_set z a r (3 + k)) q ∙ out_is

  shared_out : (n t c : ℕ) (v : List ℕ) → is_shared z (columns z a) n t c ≡ true → v ≡ word_set z a r (3 + k) 0
      → is_shared z (columns z v) n t c ≡ true
  unfolding is_shared at_place
  shared_out n t c v s ev =
      ap (λ (x : List ℕ). is_shared z (columns z x) n t c) (ev ∙ out_is)
      ∙ ap (λ (σ : State). is_shared z σ n t c) (take_out_columns z a r k l (branch_place z r k e lk))
      ∙ s

  pub out_names : (n t c : ℕ) (v : List ℕ) → is_shared z (columns z a) n t c ≡ true → v ≡ word_set z a r (3 + k) 0
      → (names z c ≡ true) × (0 < word z v c 0)
  out_names n t c v s ev =
      let w = shared_says z (columns z v) n t c (shared_out n t c v s ev) in (w.0, omega (arith, w.1))

  module _ (n t m child : ℕ) (b : List ℕ) (G : RowGoesOn (release_from z n t) z r m k b a) (q : child ≡ word z a r (3 + k)) where
    pub none_turn : child ≡ 0 → RowGoesOn (release_from z n t) z r m (k + 1) b a
    none_turn o w g =
        row_next z (release_from z n t) r k 0 w a a a (G w g) (sym o ∙ q ∙ child_is) (out_same (sym q ∙ o)) (none_release z n t a)

    pub shared_turn : (v u : List ℕ) → is_shared z (columns z a) n t child ≡ true → v ≡ word_set z a r (3 + k) 0
        → u ≡ unshare_words z v child → RowGoesOn (release_from z n t) z r m (k + 1) b u
    shared_turn v u s ev eu w g =
        row_next z (release_from z n t) r k child w a v u (G w g) (q ∙ child_is) (ev ∙ out_is)
        (eu ∙ shared_release z n t child v l.allowed.some_entries (shared_out n t child v s ev))
