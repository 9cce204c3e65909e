-- When a call is granted and when it is refused, as facts: it is the conjunction of two tests. Assumes nothing.
use Prim.Native.Nat.{ℕ, ◌≤◌, ◌<◌}
use mathlib.Core.Path.{◌≡◌, sym, ap, ap₂, ◌∙◌}
use mathlib.Core.Logic.{◌⊎◌, inl, inr, ⊎_elim}
use mathlib.Core.Bool.{true, false, ◌&&◌, and-false, true≢false}
use mathlib.Core.List.{List}
use borrow.Author.Tests.{lt-ltb, le-ltb, le-leb, lt-leb}
use lib.Dec.{ltb, leb}
use lib.ListN.{length}
use Rattle.sparse_array.specs.Room.{granted}
use Rattle.cases.proofs.Cases.{lt?}

module _ (i need : ℕ) (w : List ℕ) where
  pub granted_both : i < 64 → need ≤ length w → granted i need w ≡ true
  granted_both h r = ap₂ ◌&&◌ (lt-ltb i 64 h) (le-leb need (length w) r)

  pub refused_index : 64 ≤ i → granted i need w ≡ false
  refused_index h = ap (λ t. t && leb need (length w)) (le-ltb i 64 h)

  pub refused_room : length w < need → granted i need w ≡ false
  refused_room h = ap (λ t. ltb i 64 && t) (lt-leb need (length w) h) ∙ and-false (ltb i 64)

  pub granted_says : granted i need w ≡ true → (i < 64) × (need ≤ length w)
  granted_says g =
      ⊎_elim
      (λ (h : i < 64).
      ⊎_elim
      (λ (l : length w < need). absurd (true≢false (sym g ∙ refused_room l)))
      (λ (r : need ≤ length w). (h, r))
      (lt? (length w) need))
      (λ (h : 64 ≤ i). absurd (true≢false (sym g ∙ refused_index h)))
      (lt? i 64)

  pub refused_says : granted i need w ≡ false → (64 ≤ i) ⊎ (length w < need)
  refused_says g =
      ⊎_elim
      (λ (h : i < 64).
      ⊎_elim
      (λ (l : length w < need). inr l)
      (λ (r : need ≤ length w). absurd (true≢false (sym (granted_both h r) ∙ g)))
      (lt? (length w) need))
      (λ (h : 64 ≤ i). inl h)
      (lt? i 64)
