-- The steps of the code of a release, turn by turn, as its mirrors have them.
use Prim.Native.Nat.{ℕ, zero, suc, ◌+◌, ◌-◌, ◌≤◌, ◌<◌}
use mathlib.Core.Path.{◌≡◌, refl, sym, ap, ◌∙◌, ap₂}
use mathlib.Core.Bool.{true, false}
use mathlib.Core.List.{List}
use native.Mathlib.Omega.{arith}
use native.Mathlib.Numerals.{add-one}
use lib.Dec.{eqb}
use Rattle.layout.specs.declared.Shape.{Shape}
use Rattle.layout.specs.Columns.{word, columns}
use Rattle.lookup.specs.Lookup.{names_kind}
use Rattle.cells.specs.Mirrors.{unshare_words, take_out_words, give_back_words}
use Rattle.releases.specs.Releases.{is_last, less_words, chain_from, row_from, at_place, release_from}
use Rattle.releases.proofs.CaseLaws.{last_says, last_not, less_shared, less_none, chain_less, chain_last, release_low, release_less, release_last}

-- ONE WORD FEWER
module _ (z : Shape) (a : List ℕ) (r n : ℕ) (e : n ≡ word z a r 0) where
  pub more_names : (b : List ℕ) → 1 < n → b ≡ unshare_words z a r → (false ≡ is_last z a r) × (b ≡ less_words z a r)
  more_names b l eb = (sym (last_not z a r (λ q. omega arith)), eb ∙ sym (less_shared z a r (omega arith)))

  pub few_names : n ≤ 1 → (eqb n 1 ≡ is_last z a r) × (a ≡ less_words z a r)
  unfolding is_last
  few_names l = (rw e, sym (less_none z a r (omega arith)))

-- where it was the last, nothing is written
last_same : (z : Shape) (a : List ℕ) (r : ℕ) → is_last z a r ≡ true → less_words z a r ≡ a
last_same z a r e = less_none z a r (omega (arith, last_says z a r e))

-- CHAINS, with n turns left
pub chain_over : (z : Shape) (n r : ℕ) (a : List ℕ) → n ≡ 0 → chain_from z n r a ≡ a
unfolding chain_from
chain_over z n r a e = rw e

module _ (z : Shape) (r : ℕ) (a : List ℕ) where
  pub chain_shared : (n : ℕ) (w : List ℕ) → 0 < n → names_kind z 1 r ≡ true → is_last z a r ≡ false → w ≡ less_words z a r
      → chain_from z n r a ≡ w
  chain_shared zero w l e o ew = absurd (omega arith)
  chain_shared (suc n) w l e o ew = chain_less z r a n e o ∙ sym ew

  pub chain_next : (n next : ℕ) (w v u : List ℕ) → 0 < n → names_kind z 1 r ≡ true → is_last z a r ≡ true → w ≡ less_words z a r
      → next ≡ (columns z w).kid r 0 → v ≡ take_out_words z w r 0 → u ≡ give_back_words z v r
      → chain_from z n r a ≡ chain_from z (n - 1) next u
  chain_next zero next w v u l e o ew en ev eu = absurd (omega arith)
  chain_next (suc n) next w v u l e o ew en ev eu =
      let q : w ≡ a = ew ∙ last_same z a r o in
      let m : suc n - 1 ≡ n = omega arith in
      chain_last z r a n e o
      ∙ sym
      (ap₂ (λ (x : ℕ) (y : List ℕ). chain_from z n x y) (en ∙ ap (λ (x : List ℕ). (columns z x).kid r 0) q)
      (eu ∙ ap (λ (x : List ℕ). give_back_words z x r) (ev ∙ ap (λ (x : List ℕ). take_out_words z x r 0) q)))
      ∙ ap (λ (x : ℕ). chain_from z x next u) (sym m)

  -- in a loop of e turns, at turn t
  pub chain_turn : (e t next : ℕ) (w v u : List ℕ) → t < e → names_kind z 1 r ≡ true → is_last z a r ≡ true → w ≡ less_words z a r
      → next ≡ (columns z w).kid r 0 → v ≡ take_out_words z w r 0 → u ≡ give_back_words z v r
      → chain_from z (e - t) r a ≡ chain_from z (e - (t + 1)) next u
  chain_turn e t next w v u l named o ew en ev eu =
      let m : e - t - 1 ≡ e - (t + 1) = omega arith in
      chain_next (e - t) next w v u (omega arith) named o ew en ev eu ∙ ap (λ (n : ℕ). chain_from z n next u) m

-- PLACES
pub place_by : (z : Shape) (a : List ℕ) (t r n : ℕ) → names_kind z 0 r ≡ true → n ≡ word z a r 1
    → eqb n t ≡ at_place z (columns z a) t r
unfolding at_place
place_by z a t r n e q = rw (e, q)

-- ROWS
pub row_next : (z : Shape) (f : ℕ → List ℕ → List ℕ) (r k child : ℕ) (a w v u : List ℕ) → w ≡ row_from f z r k a
    → child ≡ (columns z w).kid r k → v ≡ take_out_words z w r k → u ≡ f child v → u ≡ row_from f z r (k + 1) a
unfolding row_from
row_next z f r k child a w v u ew ec ev eu = rw (add-one, eu, ev, ec, ew)

pub row_none : (z : Shape) (f : ℕ → List ℕ → List ℕ) (r : ℕ) (a : List ℕ) → a ≡ row_from f z r 0 a
unfolding row_from
row_none z f r a = refl

-- THE RELEASE, with d depths in all and n left
module _ (z : Shape) (t r : ℕ) (a : List ℕ) (e : names_kind z 1 r ≡ false) where
  pub release_over : (n : ℕ) → n ≡ 0 → a ≡ release_from z n t r a
  release_over n q = sym (ap (λ (x : ℕ). release_from z x t r a) q ∙ release_low z t r a e)

  module _ (o : at_place z (columns z a) t r ≡ true) where
    pub release_shared : (n : ℕ) (w : List ℕ) → (n ≡ 0 → ⊥) → is_last z a r ≡ false → w ≡ less_words z a r
        → w ≡ release_from z n t r a
    release_shared zero w nz f ew = absurd (nz refl)
    release_shared (suc n) w nz f ew = ew ∙ sym (release_less z t r a n e o f)

    pub release_done : (n d k : ℕ) (w v u : List ℕ) → (n ≡ 0 → ⊥) → n ≤ d → t ≡ d - n → is_last z a r ≡ true → w ≡ less_words z a r
        → v ≡ row_from (release_from z (n - 1) (d - (n - 1))) z r k w → k ≡ z.degree → u ≡ give_back_words z v r
        → u ≡ release_from z n t r a
    release_done zero d k w v u nz l et f ew ev ek eu = absurd (nz refl)
    release_done (suc n) d k w v u nz l et f ew ev ek eu =
        let m : suc n - 1 ≡ n = omega arith in
        let s : d - n ≡ suc t = omega arith in
        let q : w ≡ a = ew ∙ last_same z a r f in
        eu
        ∙ ap (λ (x : List ℕ). give_back_words z x r)
        (ev
        ∙ ap (λ (x : ℕ). row_from (release_from z x (d - x)) z r k w) m
        ∙ ap (λ (x : ℕ). row_from (release_from z n x) z r k w) s
        ∙ ap₂ (λ (x : ℕ) (y : List ℕ). row_from (release_from z n (suc t)) z r x y) ek q)
        ∙ sym (release_last z t r a n e o f)
