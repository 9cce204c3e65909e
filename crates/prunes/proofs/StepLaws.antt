-- The steps of a removal's path, as their mirrors have them.
use Rattle.std.proofs.Common.{◌≡◌, ℕ, zero, suc, ◌-◌, ◌*◌, ◌^◌, ◌≤◌, Bool, true, false, List, bit_and, Some, None, sym, refl, ap, ◌∙◌, ap₂, arith, ne_eqb}
use Rattle.sparse_array.specs.Bitmap.{bit, below}
use Rattle.sparse_array.proofs.Bitmap.{and_bit}
use Rattle.layout.specs.declared.Shape.{Shape}
use Rattle.layout.specs.Columns.{State, columns}
use Rattle.lookup.specs.Lookup.{names_kind}
use Rattle.cells.specs.Mirrors.{Wrote, wrote, listed}
use Rattle.grafts.specs.Grafts.{kid_bits, onward_in, on_onward, IsRow, row_shared, branch_made, child_put}
use Rattle.grafts.proofs.StepLaws.{share_same, branch_same}
use Rattle.prunes.specs.declared.Left.{Left}
use Rattle.prunes.specs.declared.Left.TheVariants.{More}
use Rattle.prunes.specs.Prunes.{out_at, left_of_chain, left_of_settled, left_from, is_coming_up, child_settled, below_settled, cut_at, child_cut, is_emptied, prune_from}

-- WHAT IS LEFT
module _ (z : Shape) (σ : State) (h l t r : ℕ) where
  pub left_over : (n : ℕ) (v : Left) → n ≡ 0 → v ≡ left_of_chain l → v ≡ left_from z σ h l n t r
  unfolding left_from
  left_over n v e q = rw e q

  pub left_entry : (n : ℕ) (v : Left) → names_kind z 1 r ≡ true → v ≡ left_of_chain l → v ≡ left_from z σ h l n t r
  unfolding left_from
  left_entry zero v e q = q
  left_entry (suc n) v e q = rw e q

  pub left_Missing : (n : ℕ) → (n ≡ 0 → ⊥) → names_kind z 1 r ≡ false → onward_in z σ h t r ≡ None → More 0 ≡ left_from z σ h l n t r
  unfolding left_from on_onward
  left_Missing zero nz e o = absurd (nz refl)
  left_Missing (suc n) nz e o = rw (e, o)

  pub left_Child : (d n c : ℕ) (below v : Left) → (n ≡ 0 → ⊥) → n ≤ d → t ≡ d - n → names_kind z 1 r ≡ false
      → onward_in z σ h t r ≡ Some c → below ≡ left_from z σ h l (n - 1) (d - (n - 1)) c → v ≡ left_of_settled z σ h t r below
      → v ≡ left_from z σ h l n t r
  unfolding left_from on_onward
  left_Child d zero c below v nz le et e o eb ev = absurd (nz refl)
  left_Child d (suc n) c below v nz le et e o eb ev =
      let m : suc n - 1 ≡ n = omega arith in
      let s : d - n ≡ suc t = omega arith in
      rw (e, o)
      (ev
      ∙ ap (left_of_settled z σ h t r)
      (eb ∙ ap (λ (x : ℕ). left_from z σ h l x (d - x) c) m ∙ ap (λ (x : ℕ). left_from z σ h l n x c) s))

-- ONE STEP UP
module _ (z : Shape) (h t r x : ℕ) (a : List ℕ) where
  pub settle_put : (s : Wrote) → is_coming_up z (columns z a) r x ≡ false → s ≡ child_put z h t r x a → s ≡ child_settled z h t r x a
  unfolding child_settled
  settle_put s e q = rw e q

pub without_is : (b s m : ℕ) → m ≡ 2 ^ s → b - bit_and b m ≡ b - bit b s * 2 ^ s
without_is b s m e = ap (λ (x : ℕ). b - bit_and b x) e ∙ ap (λ (x : ℕ). b - x) (and_bit b s)

pub cut_at_is : (z : Shape) (s t r p : ℕ) (a : List ℕ) (b b' c : ℕ) (row w v : List ℕ) → b ≡ kid_bits z (columns z a) t r
    → b' ≡ b - bit b s * 2 ^ s → IsRow z.degree (out_at z (columns z a) r p) row → w ≡ row_shared z (listed row) z.degree a
    → wrote c v ≡ branch_made z w t b' (listed row) → wrote c v ≡ cut_at z s t r p a
unfolding cut_at
cut_at_is z s t r p a b b' c row w v eb eb' is ew ev =
    let q : b' ≡ kid_bits z (columns z a) t r - bit (kid_bits z (columns z a) t r) s * 2 ^ s
    = eb' ∙ ap (λ (x : ℕ). x - bit x s * 2 ^ s) eb in
    ev
    ∙ branch_same z w t b' (listed row) (out_at z (columns z a) r p) is
    ∙ ap₂ (λ (x : List ℕ) (y : ℕ). branch_made z x t y (out_at z (columns z a) r p)) (ew ∙ share_same z a (listed row) (out_at z (columns z a) r p) z.degree is) q

-- THE NEW PATH
module _ (z : Shape) (x : ℕ) where
  pub emptied_not : (n c : ℕ) → (x ≡ 0 → ⊥) → false ≡ is_emptied z x n c
  unfolding is_emptied
  emptied_not n c ne = rw (ne_eqb x 0 ne)

module _ (z : Shape) (h x t r : ℕ) (a : List ℕ) where
  pub prune_over : (n : ℕ) → n ≡ 0 → wrote x a ≡ prune_from z h x n t r a
  unfolding prune_from
  prune_over n e = rw e

  pub prune_entry : (n : ℕ) → names_kind z 1 r ≡ true → wrote x a ≡ prune_from z h x n t r a
  unfolding prune_from
  prune_entry zero e = refl
  prune_entry (suc n) e = rw e

  pub prune_Missing : (n : ℕ) → (n ≡ 0 → ⊥) → names_kind z 1 r ≡ false → onward_in z (columns z a) h t r ≡ None
      → wrote 0 a ≡ prune_from z h x n t r a
  unfolding prune_from on_onward
  prune_Missing zero nz e o = absurd (nz refl)
  prune_Missing (suc n) nz e o = rw (e, o)

  pub prune_cut : (n c : ℕ) (s : Wrote) → (n ≡ 0 → ⊥) → names_kind z 1 r ≡ false → onward_in z (columns z a) h t r ≡ Some c
      → is_emptied z x (n - 1) c ≡ true → s ≡ child_cut z h t r a → s ≡ prune_from z h x n t r a
  unfolding prune_from on_onward
  prune_cut zero c s nz e o y q = absurd (nz refl)
  prune_cut (suc n) c s nz e o y q =
      let m : suc n - 1 ≡ n = omega arith in rw (e, o, ap (λ (i : ℕ). is_emptied z x i c) (sym m) ∙ y) q

  pub prune_Child : (d n c below : ℕ) (w : List ℕ) (s : Wrote) → (n ≡ 0 → ⊥) → n ≤ d → t ≡ d - n → names_kind z 1 r ≡ false
      → onward_in z (columns z a) h t r ≡ Some c → is_emptied z x (n - 1) c ≡ false
      → wrote below w ≡ prune_from z h x (n - 1) (d - (n - 1)) c a → s ≡ below_settled z h t r (wrote below w)
      → s ≡ prune_from z h x n t r a
  unfolding prune_from on_onward
  prune_Child d zero c below w s nz le et e o y eb q = absurd (nz refl)
  prune_Child d (suc n) c below w s nz le et e o y eb q =
      let m : suc n - 1 ≡ n = omega arith in
      let u : d - n ≡ suc t = omega arith in
      rw (e, o, ap (λ (i : ℕ). is_emptied z x i c) (sym m) ∙ y)
      (q
      ∙ ap (below_settled z h t r)
      (eb ∙ ap (λ (i : ℕ). prune_from z h x i (d - i) c a) m ∙ ap (λ (i : ℕ). prune_from z h x n i c a) u))
