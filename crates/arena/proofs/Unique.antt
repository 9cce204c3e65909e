-- A reference shows at most one node, whatever the words are: its last bit tells an entry from a branch, the words of an entry
-- are its item and lead to the next, and the bitmap of a branch tells the segments of its children, since these ascend.
use Prim.Native.Nat.{ℕ, suc, ◌+◌, ◌-◌, ◌*◌, ◌/◌, ◌^◌, ◌≤◌, ◌<◌}
use mathlib.Core.Path.{◌≡◌, refl, sym, ap, ap₂, ◌∙◌}
use mathlib.Core.List.{[], List, ◌∷◌}
use native.Mathlib.Omega.{arith}
use native.Mathlib.Nat.{pow-succ'}
use lib.Pow.{pow-add, shl-shr}
use Rattle.cases.proofs.Cases.{Tri, is_less, is_equal, is_more, tri}
use Rattle.layout.specs.declared.Shape.{Shape}
use Rattle.layout.specs.Columns.{State}
use Rattle.trie.specs.Trie.{Node, leaf, branch, Kids, none, kid, Item, Map, empty, root}
use Rattle.trie.specs.Canon.{Above, Asc}
use Rattle.trie.proofs.KidsLaws.{Above-Asc}
use Rattle.arena.specs.Shows.{bitmap, behind, ShowsChain, Shows, ShowsRow, ShowsMap, Edition}
use Rattle.arena.proofs.Frames.{shown_some}

-- BITMAPS. That of children above lo is a multiple of the bit behind lo's, so the lowest bit of a bitmap is its first child's.
power_split : (lo j : ℕ) → lo ≤ j → 2 ^ j ≡ 2 ^ (j - lo) * 2 ^ lo
power_split lo j l = ap (λ (x : ℕ). 2 ^ x) (omega arith) ∙ pow-add 2 (j - lo) lo

Above-multiple : (lo : ℕ) (ks : Kids ℕ) → Above lo ks → (m : ℕ) × (bitmap ks ≡ m * 2 ^ suc lo)
unfolding bitmap Above
Above-multiple lo none a = (0, omega arith)
Above-multiple lo (kid i n ks) (l, up) =
    let w = Above-multiple i ks up in (
      2 ^ (i - suc lo) + w.0 * 2 ^ (suc i - suc lo),
      omega
          (arith, w.1, power_split (suc lo) i l, ap (λ (a : ℕ). w.0 * a) (power_split (suc lo) (suc i) (omega arith))),
    )

first_odd : (i : ℕ) (n : Node ℕ) (ks : Kids ℕ) → Above i ks → (m : ℕ) × (bitmap (kid i n ks) ≡ (2 * m + 1) * 2 ^ i)
unfolding bitmap
first_odd i n ks up =
    let w = Above-multiple i ks up in (w.0, omega (arith, w.1, ap (λ (a : ℕ). w.0 * a) (pow-succ' 2 i)))

odd_once : (i j a b : ℕ) → i < j → (2 * a + 1) * 2 ^ i ≡ (2 * b + 1) * 2 ^ j → ⊥
odd_once i j a b l e =
    let d : ℕ = (2 * b + 1) * 2 ^ (j - suc i) in
    let q : (2 * a + 1) * 2 ^ i ≡ (d * 2) * 2 ^ i
    = e ∙ ap (λ (x : ℕ). (2 * b + 1) * x) (power_split (suc i) j l) ∙ omega (arith, ap (λ (x : ℕ). d * x) (pow-succ' 2 i)) in
    let h : 2 * a + 1 ≡ d * 2 = sym (shl-shr (2 * a + 1) i) ∙ ap (λ (x : ℕ). x / 2 ^ i) q ∙ shl-shr (d * 2) i in
    omega arith

-- the children's segments are those of the bitmap
pub bit_once : (i j : ℕ) (n m : Node ℕ) (ks ls : Kids ℕ) → Asc (kid i n ks) → Asc (kid j m ls)
    → bitmap (kid i n ks) ≡ bitmap (kid j m ls) → (i ≡ j) × (bitmap ks ≡ bitmap ls)
unfolding Asc bitmap
bit_once i j n m ks ls a b e = by (tri i j)
  where
    by : Tri i j → (i ≡ j) × (bitmap ks ≡ bitmap ls)
    by (is_less l) =
        let v = first_odd i n ks a in let w = first_odd j m ls b in absurd (odd_once i j v.0 w.0 l (sym v.1 ∙ e ∙ w.1))
    by (is_equal q) = (q, omega (arith, e, ap (λ (x : ℕ). 2 ^ x) q))
    by (is_more l) =
        let v = first_odd i n ks a in let w = first_odd j m ls b in
        absurd (odd_once j i w.0 v.0 l (sym w.1 ∙ sym e ∙ v.1))

module _ (σ : State) where
  chain_odd : (x : Item ℕ) (xs : List (Item ℕ)) (r : ℕ) → ShowsChain σ (x ∷ xs) r → r ≡ 2 * x.cell + 3
  unfolding ShowsChain
  chain_odd x xs r h = omega (arith, h.0)

  pub chain_one : (xs ys : List (Item ℕ)) (r : ℕ) → ShowsChain σ xs r → ShowsChain σ ys r → xs ≡ ys
  unfolding ShowsChain
  chain_one [] [] r a b = refl
  chain_one [] (y ∷ ys) r a b = absurd (omega (arith, b.0))
  chain_one (x ∷ xs) [] r a b = absurd (omega (arith, a.0))
  chain_one (x ∷ xs) (y ∷ ys) r a b =
      let c : x.cell ≡ y.cell = omega (arith, a.0, b.0) in
      let h : x.entry.hash ≡ y.entry.hash = sym a.4 ∙ b.4 in
      let k : x.entry.key ≡ y.entry.key = sym a.5 ∙ b.5 in
      let v : x.entry.value ≡ y.entry.value = sym a.6 ∙ b.6 in
      let e : x ≡ y = λ i. record { cell = c i; entry = record { hash = h i; key = k i; value = v i } } in
      ap₂ ◌∷◌ e (chain_one xs ys (σ.kid r 0) a.3 b.3)

  mutual
    unfolding Shows Asc

    pub Shows-one : (n m : Node ℕ) (t u r : ℕ) → Shows σ n t r → Shows σ m u r → n ≡ m
    Shows-one (leaf []) m t u r a b = absurd a
    Shows-one (leaf (x ∷ xs)) (leaf []) t u r a b = absurd b
    Shows-one (leaf (x ∷ xs)) (leaf (y ∷ ys)) t u r a b = ap leaf (chain_one (x ∷ xs) (y ∷ ys) r a b)
    Shows-one (leaf (x ∷ xs)) (branch c ks) t u r a b = absurd (omega (arith, chain_odd x xs r a, b.0))
    Shows-one (branch c ks) (leaf []) t u r a b = absurd b
    Shows-one (branch c ks) (leaf (x ∷ xs)) t u r a b = absurd (omega (arith, chain_odd x xs r b, a.0))
    Shows-one (branch c ks) (branch c' ls) t u r a b =
        ap₂ branch (omega (arith, a.0, b.0))
        (row_one ks ls t u (σ.kid r) a.4 b.4 (sym a.3 ∙ b.3) a.5 b.5)

    row_one : (ks ls : Kids ℕ) (t u : ℕ) (f : ℕ → ℕ) → Asc ks → Asc ls → bitmap ks ≡ bitmap ls → ShowsRow σ ks t f
        → ShowsRow σ ls u f → ks ≡ ls
    row_one none none t u f p q e a b = refl
    row_one none (kid j m ls) t u f p q e a b = absurd (shown_some σ m (suc u) (f 0) b.0 (a 0))
    row_one (kid i n ks) none t u f p q e a b = absurd (shown_some σ n (suc t) (f 0) a.0 (b 0))
    row_one (kid i n ks) (kid j m ls) t u f p q e a b =
        let (s, tail) = bit_once i j n m ks ls p q e in
        let w : n ≡ m = Shows-one n m (suc t) (suc u) (f 0) a.0 b.0 in
        let v : ks ≡ ls = row_one ks ls t u (behind f) (Above-Asc i ks p) (Above-Asc j ls q) tail a.1 b.1 in
        λ y. kid (s y) (w y) (v y)

  pub map_one : (m m' : Map ℕ) (r : ℕ) → ShowsMap σ m r → ShowsMap σ m' r → m ≡ m'
  unfolding ShowsMap
  map_one empty empty r a b = refl
  map_one empty (root n) r a b = absurd (shown_some σ n 0 r b a)
  map_one (root n) empty r a b = absurd (shown_some σ n 0 r a b)
  map_one (root n) (root n') r a b = ap root (Shows-one n n' 0 0 r a b)

pub Edition-one : (z : Shape) (σ : State) (s : ℕ) (m m' : Map ℕ) → Edition z σ s m → Edition z σ s m' → m ≡ m'
Edition-one z σ s m m' a b = map_one σ m m' (σ.root s) a.shows b.shows
