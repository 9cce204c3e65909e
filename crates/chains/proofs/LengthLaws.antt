-- The length that is read off a chain's front is that of the chain that is shown there, and two of them tell how many entries
-- stand before a key.
use Prim.Native.Nat.{ℕ, suc, ◌-◌, ◌<◌}
use mathlib.Core.Path.{◌≡◌}
use mathlib.Core.Bool.{true}
use mathlib.Core.List.{[], List, ◌∷◌}
use native.Mathlib.Omega.{arith}
use lib.ListN.{length}
use Rattle.layout.specs.declared.Shape.{Shape}
use Rattle.layout.specs.Layout.{names}
use Rattle.layout.specs.Columns.{State}
use Rattle.trie.specs.Trie.{Item}
use Rattle.trie.proofs.CopyLaws.{parts_length}
use Rattle.arena.specs.Shows.{ShowsChain}
use Rattle.lookup.proofs.FindLaws.{kind_other}
use Rattle.lookup.proofs.Meaning.{chain_named}
use Rattle.lookup.proofs.SplitLaws.{Split, chain_mark}
use Rattle.chains.specs.Chains.{length_at}

module _ (z : Shape) (σ : State) (live : (r : ℕ) → 0 < σ.count r → names z r ≡ true) where
  pub length_shown : (xs : List (Item ℕ)) (r : ℕ) → ShowsChain σ xs r → length_at z σ r ≡ length xs
  unfolding length_at
  length_shown [] r c = let none : r ≡ 0 = unfold ShowsChain in c in rw (kind_other z 1 r (λ e. omega arith))
  length_shown (x ∷ xs) r c =
      rw (chain_named z σ live (x ∷ xs) r c (omega arith)) (chain_mark σ (x ∷ xs) r c (omega arith))

  module _ {h k : ℕ} {xs : List (Item ℕ)} {r q : ℕ} (s : Split σ h k xs r q) where
    pub length_there : length_at z σ q ≡ suc (length s.parts.rest)
    length_there = length_shown (s.parts.at ∷ s.parts.rest) q s.rest_shown

    pub length_before : length_at z σ r - length_at z σ q ≡ length s.parts.front
    length_before =
        omega (
          arith,
          length_shown xs r s.all_shown,
          length_there,
          parts_length h k xs s.parts,
        )
