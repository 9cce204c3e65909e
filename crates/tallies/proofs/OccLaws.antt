-- How often a cell is named, cell by cell: the sum over all references is one over the branches and one over the entries,
-- since a reference that names no cell holds nothing.
use Prim.Native.Nat.{ℕ, zero, suc, ◌+◌, ◌*◌, ◌^◌, ◌≤◌, ◌<◌}
use mathlib.Core.Path.{◌≡◌, refl, ap, ◌∙◌}
use mathlib.Core.Bool.{false}
use mathlib.Core.List.{List}
use native.Mathlib.Omega.{arith}
use Rattle.counts.specs.Counts.{sum_to, times}
use Rattle.counts.proofs.CountLaws.{sum_ext, sum_head}
use Rattle.layout.specs.declared.Shape.{Shape}
use Rattle.layout.specs.Layout.{reference, kind_of, cells_of, names, Allowed}
use Rattle.layout.proofs.SizeLaws.{small}
use Rattle.layout.proofs.OffsetLaws.{names_low, names_not, cells_few, cells_branch, cells_entry}
use Rattle.layout.specs.Columns.{State, refs}
use Rattle.arena.specs.Sound.{top}
use Rattle.arena.specs.Local.{occ}
use Rattle.arena.proofs.RefLaws.{refs_out, refs_of, refs_branch, refs_entry}
use Rattle.tallies.specs.Tallies.{Works, Low, Adds}
use Rattle.tallies.proofs.WorkLaws.{times-Low, cells_low, Works-Low, Works-Adds}

-- SUMS. Nothing but zeros behind a place; the even numbers and the odd ones
sum_cut : (a d : ℕ) (f : ℕ → ℕ) → ((j : ℕ) → a ≤ j → f j ≡ 0) → sum_to (d + a) f ≡ sum_to a f
unfolding sum_to
sum_cut a zero f h = ap (λ (k : ℕ). sum_to k f) {x = 0 + a} {y = a} (omega arith)
sum_cut a (suc d) f h =
    ap (λ (k : ℕ). sum_to k f) {x = suc d + a} {y = suc (d + a)} (omega arith)
    ∙ omega (arith, sum_cut a d f h, h (d + a) (omega arith))

sum_halves : (n : ℕ) (f : ℕ → ℕ) → sum_to (2 * n) f ≡ sum_to n (λ i. f (2 * i + 0)) + sum_to n (λ i. f (2 * i + 1))
unfolding sum_to
sum_halves zero f = refl
sum_halves (suc n) f =
    let even = ap f {x = 2 * n} {y = 2 * n + 0} (omega arith) in
    let odd = ap f {x = suc (2 * n)} {y = 2 * n + 1} (omega arith) in
    ap (λ (k : ℕ). sum_to k f) {x = 2 * suc n} {y = suc (suc (2 * n))} (omega arith) ∙ omega (arith, sum_halves n f, even, odd)

-- A SUM OVER ALL REFERENCES, of what is 0 where no cell is named
module _ (z : Shape) (g : ℕ → ℕ) (h : (q : ℕ) → names z q ≡ false → g q ≡ 0) where
  kind_sum : (k d : ℕ) → k < 2
      → sum_to (suc (d + cells_of z k)) (λ i. g (2 * i + k)) ≡ sum_to (cells_of z k) (λ i. g (reference k i))
  kind_sum k d l =
      let n = cells_of z k in
      let none = h (2 * 0 + k) (names_low z (2 * 0 + k) (omega arith)) in
      let next =
      sum_ext (d + n) (λ i. g (2 * suc i + k)) (λ i. g (reference k i))
      (λ i m. ap g {x = 2 * suc i + k} {y = reference k i} (omega arith))
      in
      sum_head (d + n) (λ i. g (2 * i + k)) ∙ omega (arith, none, next, sum_cut n d (λ i. g (reference k i)) behind)
    where
      behind : (j : ℕ) → cells_of z k ≤ j → g (reference k j) ≡ 0
      behind j m =
          let e : kind_of (reference k j) ≡ k = omega arith in
          h (reference k j) (names_not z (reference k j) (omega (arith, ap (cells_of z) e)))

  pub sum_cells : sum_to (top z) g ≡ sum_to (cells_of z 0) (λ i. g (reference 0 i)) + sum_to (cells_of z 1) (λ i. g (reference 1 i))
  sum_cells =
      let m = z.branches + z.entries + 2 in
      let b = cells_branch z 0 refl in
      let n = cells_entry z 1 (λ y. omega arith) in
      let even =
      ap (λ (k : ℕ). sum_to k (λ i. g (2 * i + 0))) {x = m} {y = suc (z.entries + 1 + cells_of z 0)} (omega arith)
      ∙ kind_sum 0 (z.entries + 1) (omega arith)
      in
      let odd =
      ap (λ (k : ℕ). sum_to k (λ i. g (2 * i + 1))) {x = m} {y = suc (z.branches + 1 + cells_of z 1)} (omega arith)
      ∙ kind_sum 1 (z.branches + 1) (omega arith)
      in
      ap (λ (k : ℕ). sum_to k g) {x = top z} {y = 2 * m} (omega arith) ∙ sum_halves m g ∙ omega (arith, even, odd)

-- HOW OFTEN r IS NAMED
none : (f : ℕ → ℕ) (r n : ℕ) → n ≡ 0 → times n f r ≡ 0
unfolding sum_to
none f r n e = rw e

pub occ_cells : (z : Shape) (σ : State) (r : ℕ) → 0 < z.degree
    → occ z σ r
    ≡ times z.slots σ.root r
    + sum_to (cells_of z 0) (λ i. times z.degree (σ.kid (reference 0 i)) r)
    + sum_to (cells_of z 1) (λ i. times 1 (σ.kid (reference 1 i)) r)
occ_cells z σ r d =
    let f : ℕ → ℕ = λ q. times (refs z q) (σ.kid q) r in
    let all = sum_cells z f (λ q n. none (σ.kid q) r (refs z q) (refs_out z q n)) in
    let b = sum_ext (cells_of z 0) (λ i. f (reference 0 i)) (λ i. times z.degree (σ.kid (reference 0 i)) r) branch in
    let n = sum_ext (cells_of z 1) (λ i. f (reference 1 i)) (λ i. times 1 (σ.kid (reference 1 i)) r) entry in
    omega (arith, all, b, n)
  where
    branch : (i : ℕ) → i < cells_of z 0
        → times (refs z (reference 0 i)) (σ.kid (reference 0 i)) r ≡ times z.degree (σ.kid (reference 0 i)) r
    branch i l =
        ap (λ (n : ℕ). times n (σ.kid (reference 0 i)) r)
        (refs_branch z (reference 0 i) (refs_of z 0 i (omega arith) l d) (omega arith))

    entry : (i : ℕ) → i < cells_of z 1
        → times (refs z (reference 1 i)) (σ.kid (reference 1 i)) r ≡ times 1 (σ.kid (reference 1 i)) r
    entry i l =
        ap (λ (n : ℕ). times n (σ.kid (reference 1 i)) r)
        (refs_entry z (reference 1 i) (refs_of z 1 i (omega arith) l d) (omega arith))

-- WHAT IS TALLIED: zeros, the roots, the children and the nexts are how often each cell is named
pub Works-all : (z : Shape) (σ : State) (u v w x y : List ℕ) → 0 < z.degree → Works z (λ r. 0) u v
    → Adds z (times z.slots σ.root) v w
    → Adds z (λ q. sum_to (cells_of z 0) (λ i. times z.degree (σ.kid (reference 0 i)) q)) w x
    → Adds z (λ q. sum_to (cells_of z 1) (λ i. times 1 (σ.kid (reference 1 i)) q)) x y
    → Works z (occ z σ) u y
Works-all z σ u v w x y d a b c e =
    let f : ℕ → ℕ = times z.slots σ.root in
    let g : ℕ → ℕ = λ q. sum_to (cells_of z 0) (λ i. times z.degree (σ.kid (reference 0 i)) q) in
    let h : ℕ → ℕ = λ q. sum_to (cells_of z 1) (λ i. times 1 (σ.kid (reference 1 i)) q) in
    Works-Adds z (λ q. f q + g q) h (occ z σ) u x y
    (Works-Adds z f g (λ q. f q + g q) u w x (Works-Adds z (λ q. 0) f f u v w a b (λ q. omega arith)) c (λ q. refl)) e
    (λ q. occ_cells z σ q d)

-- on the way nothing grows large
pub Low-roots : (z : Shape) (σ : State) (u v w : List ℕ) → Allowed z → (m : ℕ) → 4096 ≤ m → Works z (λ r. 0) u v
    → Adds z (times z.slots σ.root) v w → Low z m w
Low-roots z σ u v w k m l a b =
    times-Low z σ.root z.slots 0 4096 m v w (Works-Low z (λ r. 0) 0 u v a (λ q. omega arith)) b k.few_slots
    (omega arith)

pub Low-branches : (z : Shape) (σ : State) (u v w x : List ℕ) → Allowed z → Works z (λ r. 0) u v
    → Adds z (times z.slots σ.root) v w
    → Adds z (λ q. sum_to (cells_of z 0) (λ i. times z.degree (σ.kid (reference 0 i)) q)) w x → Low z (2 ^ 40) x
Low-branches z σ u v w x k a b c =
    cells_low z (λ i. σ.kid (reference 0 i)) (cells_of z 0) z.degree 4096 (2 ^ 40) w x
    (Low-roots z σ u v w k 4096 (omega arith) a b) c (cells_few z 0 k) (small z k).degree_high (omega arith)
