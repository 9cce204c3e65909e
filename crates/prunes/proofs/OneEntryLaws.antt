-- Whether a reference is a single, by the node that it shows: it is where the node is a leaf with one entry. A branch is none,
-- and a longer chain is none.
use Rattle.std.proofs.Common.{◌≡◌, ℕ, Bool, true, false, cond, [], ◌∷◌, refl, arith, eq-eqb, ne_eqb}
use Rattle.layout.specs.declared.Shape.{Shape}
use Rattle.layout.specs.Columns.{State}
use Rattle.trie.specs.Trie.{Node, leaf, branch, is_single}
use Rattle.arena.specs.Shows.{ShowsChain, Shows}
use Rattle.lookup.specs.Lookup.{names_kind}
use Rattle.grafts.proofs.SeenLaws.{Celled, branch_named, single_named}
use Rattle.prunes.specs.Prunes.{is_a_single}

module _ {z : Shape} {σ : State} (C : Celled z σ) where
  no_single : (r : ℕ) → (σ.mark r ≡ 1 → ⊥) → is_a_single z σ r ≡ false
  unfolding is_a_single
  no_single r ne = rw (ne_eqb (σ.mark r) 1 ne) (never (names_kind z 1 r))
    where
      never : (b : Bool) → cond b false false ≡ false
      never true = refl
      never false = refl

  pub single_is : (n : Node ℕ) (t r : ℕ) → Shows σ n t r → is_a_single z σ r ≡ is_single n
  unfolding is_single
  single_is (leaf []) t r h = absurd (unfold Shows in h)
  single_is (leaf (x ∷ [])) t r h =
      unfold is_a_single in (rw (single_named C x t r h).1 (eq-eqb (σ.mark r) 1 (unfold Shows ShowsChain in h.2)))
  single_is (leaf (x ∷ (y ∷ xs))) t r h = no_single r (λ e. unfold Shows ShowsChain in (omega (arith, h.2)))
  single_is (branch c ks) t r h = unfold is_a_single in (rw (branch_named C c ks t r h).1)
