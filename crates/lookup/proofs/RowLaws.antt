-- A branch's bitmap says which children it has and where they stand: since the segments ascend, the bit of a segment is set
-- exactly if there is a child at it, and the child's place among the packed ones is how many bits are set below.
use Prim.Native.Nat.{ℕ, zero, suc, ◌+◌, ◌*◌, ◌^◌, ◌≤◌, ◌<◌}
use mathlib.Core.Path.{◌≡◌, sym, ap, ◌∙◌}
use mathlib.Core.Logic.{⊎_elim}
use native.Mathlib.Nat.{add_comm, zero-mul}
use native.Mathlib.Omega.{arith}
use lib.Bits.{bit_or, or_disjoint}
use Rattle.cases.proofs.Cases.{eq?, Tri, is_less, is_equal, is_more, tri}
use Rattle.sparse_array.specs.Bitmap.{bit, below}
use Rattle.sparse_array.proofs.Bitmap.{bit_out, and_bit, OnlyAt, or_only, or_there, rank_first, below_next, below_only_upto, below_only_behind}
use Rattle.layout.specs.Columns.{State}
use Rattle.trie.specs.Trie.{Node, Kids, none, kid, missing, found, on_found, child}
use Rattle.trie.specs.Canon.{Asc}
use Rattle.trie.proofs.KidsLaws.{found-missing, same_node, child_hit, child_miss, child-Above, Above-Asc}
use Rattle.arena.specs.Shows.{bitmap, behind, Shows, ShowsRow}

-- a power of two added to a bitmap that lacks its bit sets that bit alone
module _ (b i : ℕ) (clear : bit b i ≡ 0) where
  pub added : bit_or b (2 ^ i) ≡ 2 ^ i + b
  added =
      or_disjoint b (2 ^ i) (and_bit b i ∙ ap (λ (x : ℕ). x * 2 ^ i) clear ∙ zero-mul (2 ^ i)) ∙ add_comm b (2 ^ i)

  add_only : OnlyAt i b (2 ^ i + b)
  add_only j ne = ap (λ (x : ℕ). bit x j) (sym added) ∙ or_only b i j ne

  add_there : bit (2 ^ i + b) i ≡ 1
  add_there = ap (λ (x : ℕ). bit x i) (sym added) ∙ or_there b i

-- where no bit is set below a place, none is counted
below_none : (b i : ℕ) → ((j : ℕ) → j < i → bit b j ≡ 0) → below b i ≡ 0
below_none b zero no_bit = rank_first b
below_none b (suc i) no_bit =
    omega (arith, below_next b i, no_bit i (omega arith), below_none b i (λ j l. no_bit j (omega arith)))

module _ {X : Type 0} where
  -- the bit of a segment is 1 where a child stands, and else 0
  pub bits_of : (ks : Kids X) → Asc ks → (s : ℕ) → bit (bitmap ks) s ≡ on_found 0 (λ m. 1) (child s ks)
  unfolding Asc bitmap child on_found
  bits_of none a s = bit_out 0 {k = 0} {j = s} (omega arith) (omega arith)
  bits_of (kid i m ks) a s =
      let asc = Above-Asc i ks a in
      let clear : bit (bitmap ks) i ≡ 0
      = bits_of ks asc i ∙ ap (on_found 0 (λ m. 1)) (child-Above i i ks a (omega arith)) in
      ⊎_elim
      (λ e. rw (child_hit s i m ks e, ← e) (add_there (bitmap ks) i clear))
      (λ ne. rw (child_miss s i m ks ne) (add_only (bitmap ks) i clear s (λ e. ne (sym e)) ∙ bits_of ks asc s))
      (eq? i s)

  pub bit-missing : (ks : Kids X) → Asc ks → (s : ℕ) → child s ks ≡ missing → bit (bitmap ks) s ≡ 0
  unfolding on_found
  bit-missing ks a s e = bits_of ks a s ∙ ap (on_found 0 (λ m. 1)) e

  pub bit_found : (ks : Kids X) → Asc ks → (s : ℕ) (m : Node X) → child s ks ≡ found m → bit (bitmap ks) s ≡ 1
  unfolding on_found
  bit_found ks a s m e = bits_of ks a s ∙ ap (on_found 0 (λ m. 1)) e

-- CHILDREN BY BITMAP. A child that is there is shown at its place among the packed ones.
module _ (σ : State) where
  row_found : (ks : Kids ℕ) (t : ℕ) (f : ℕ → ℕ) → Asc ks → ShowsRow σ ks t f → (s : ℕ) (n : Node ℕ) → child s ks ≡ found n
      → Shows σ n (suc t) (f (below (bitmap ks) s))
  unfolding Asc bitmap child Shows
  row_found none t f a h s n e = absurd (found-missing n e)
  row_found (kid i m ks) t f a (first, rest) s n e =
      by (row_found ks t (behind f) (Above-Asc i ks a) rest s n) (tri i s)
    where
      clear : (j : ℕ) → j ≤ i → bit (bitmap ks) j ≡ 0
      clear j l = bit-missing ks (Above-Asc i ks a) j (child-Above j i ks a l)

      only : OnlyAt i (bitmap ks) (2 ^ i + bitmap ks)
      only = add_only (bitmap ks) i (clear i (omega arith))

      there : bit (2 ^ i + bitmap ks) i ≡ 1
      there = add_there (bitmap ks) i (clear i (omega arith))

      by : (child s ks ≡ found n → Shows σ n (suc t) (f (suc (below (bitmap ks) s)))) → Tri i s
          → Shows σ n (suc t) (f (below (2 ^ i + bitmap ks) s))
      by later (is_less l) =
          let one_more : below (2 ^ i + bitmap ks) s ≡ suc (below (bitmap ks) s)
          = omega (arith, below_only_behind i _ _ only s l, clear i (omega arith), there) in
          rw one_more (later (sym (child_miss s i m ks (λ q. omega arith)) ∙ e))
      by later (is_equal q) =
          let no_less : below (2 ^ i + bitmap ks) s ≡ 0
          = below_only_upto i _ _ only s (omega arith) ∙ below_none (bitmap ks) s (λ j l. clear j (omega arith)) in
          rw (no_less, ← same_node m n (sym (child_hit s i m ks q) ∙ e)) first
      by later (is_more l) =
          absurd
          (found-missing n (sym (child-Above s i ks a (omega arith)) ∙ sym (child_miss s i m ks (λ q. omega arith)) ∙ e))

  pub child_by_bit : (ks : Kids ℕ) (t : ℕ) (f : ℕ → ℕ) → Asc ks → ShowsRow σ ks t f → (s : ℕ) (n : Node ℕ) → child s ks ≡ found n
      → (bit (bitmap ks) s ≡ 1) × Shows σ n (suc t) (f (below (bitmap ks) s))
  child_by_bit ks t f a h s n e = (bit_found ks a s n e, row_found ks t f a h s n e)
