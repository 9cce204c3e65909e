-- A run of stores may be cut anywhere: what is stored first, then what is left. So a loop keeps that storing the rest gives what
-- was asked for, and at the end nothing is left to store.
use Prim.Native.Nat.{ℕ, zero, suc, ◌+◌, ◌-◌, ◌*◌, ◌≤◌, ◌<◌}
use mathlib.Core.Path.{◌≡◌, refl, sym, ap, ◌∙◌}
use mathlib.Core.Bool.{cond}
use mathlib.Core.List.{List, [], ◌∷◌, ◌++◌, append_assoc}
use native.Mathlib.Nat.{add-zero, suc-mul}
use native.Mathlib.Numerals.{add-one}
use native.Mathlib.Omega.{arith}
use lib.Dec.{eqb}
use borrow.Rule.Slice.PartMut.{put_mid, mid_of}
use Rattle.std.proofs.lemmas.Slice.{put_mid-paste}
use Rattle.std.proofs.lemmas.List.{length-take, length-drop}
use lib.ListN.{length, set, take, drop, replicate, length-append}
use lib.Seq.{sets, sets-eq, take-length}
use Rattle.layout.specs.declared.Shape.{Shape}
use Rattle.layout.specs.Layout.{reference, header_words, branches_at, entries_at, total}
use Rattle.layout.specs.Blank.{zeros, free_cell_words, header, blank}

pub two_stores : (a : List ℕ) (i v w : ℕ) (vs : List ℕ) → sets (set (set a i v) (i + 1) w) (i + 2) vs ≡ sets a i (v ∷ w ∷ vs)
two_stores a i v w vs =
    let e : i + 2 ≡ suc (suc i) = omega arith in
    rw (e, add-one i)

sets_append : (l : List ℕ) (i : ℕ) (xs ys : List ℕ) → sets l i (xs ++ ys) ≡ sets (sets l i xs) (i + length xs) ys
sets_append l i [] ys = rw add-zero
sets_append l i (x ∷ xs) ys =
    let e : i + suc (length xs) ≡ suc i + length xs = omega arith in
    rw e (sets_append (set l i x) (suc i) xs ys)

pub zeros-length : (n : ℕ) → length (zeros n) ≡ n
unfolding zeros
zeros-length zero = refl
zeros-length (suc n) = ap suc (zeros-length n)

zeros_replicate : (n : ℕ) → replicate n 0 ≡ zeros n
unfolding zeros
zeros_replicate zero = refl
zeros_replicate (suc n) = ap (λ (l : List ℕ). 0 ∷ l) (zeros_replicate n)

part_long : (a : List ℕ) (i n k : ℕ) → i + n ≤ length a → k ≡ n → length (mid_of i k a) ≡ n
part_long a i n k fits e = grind (arith, length-take, length-drop)

-- zeros written over a part of the words at once
pub zeros_filled : (a b : List ℕ) (i n k : ℕ) → i + n ≤ length a → k ≡ n → b ≡ replicate (length (mid_of i k a)) 0
    → put_mid i k a b ≡ sets a i (zeros n)
zeros_filled a b i n k fits e filled =
    let same : b ≡ zeros n = filled ∙ ap (λ (m : ℕ). replicate m 0) (part_long a i n k fits e) ∙ zeros_replicate n in
    let size : length (zeros n) ≡ n = zeros-length n in
    let whole : take n (zeros n) ≡ zeros n = rw size at (take-length {A = ℕ} (zeros n)) in
    put_mid-paste i k a b (zeros n) n same (sym e) (sym size)
    ∙ ap (λ (l : List ℕ). take i a ++ l ++ drop (i + n) a) whole
    ∙ sym (rw size at (sets-eq {A = ℕ} (zeros n) a i (omega arith)))

module _ (k w : ℕ) (a : List ℕ) (at i : ℕ) where
  cell_then : (n : ℕ)
      → sets (sets a at (0 ∷ cond (eqb n 0) 0 (reference k (suc i)) ∷ zeros w)) (at + (2 + w)) (free_cell_words k w (suc i) n)
      ≡ sets a at (free_cell_words k w i (suc n))
  unfolding free_cell_words
  cell_then n =
      let c : List ℕ = 0 ∷ cond (eqb n 0) 0 (reference k (suc i)) ∷ zeros w in
      let long : 2 + w ≡ length c = omega (arith, zeros-length w) in
      rw long (sym (sets_append a at c (free_cell_words k w (suc i) n)))

  pub cells_first : (n v : ℕ) (b : List ℕ) → i < n → v ≡ cond (eqb (n - (i + 1)) 0) 0 (reference k (suc i))
      → b ≡ sets a at (0 ∷ v ∷ zeros w) → sets b (at + (2 + w)) (free_cell_words k w (i + 1) (n - (i + 1))) ≡ sets a at (free_cell_words k w i (n - i))
  cells_first n v b l next stored =
      let e : n - i ≡ suc (n - (i + 1)) = omega arith in
      rw (stored, next, e, add-one i) (cell_then (n - suc i))

  pub cells_none : (n : ℕ) → n ≤ i → sets a at (free_cell_words k w i (n - i)) ≡ a
  unfolding free_cell_words
  cells_none n l = let e : n - i ≡ 0 = omega arith in rw e

pub cells_length : (k w i n : ℕ) → length (free_cell_words k w i n) ≡ n * (2 + w)
unfolding free_cell_words
cells_length k w i zero = omega arith
cells_length k w i (suc n) =
    omega
    (arith, length-append (zeros w) (free_cell_words k w (suc i) n), zeros-length w, cells_length k w (suc i) n, suc-mul n (2 + w))

stored_then : (l b : List ℕ) (i j : ℕ) (xs ys : List ℕ) → b ≡ sets l i xs → j ≡ i + length xs → sets b j ys ≡ sets l i (xs ++ ys)
stored_then l b i j xs ys eb e = rw (eb, e) (sym (sets_append l i xs ys))

regroup : (h s b e r : List ℕ) → (h ++ (s ++ (b ++ e))) ++ r ≡ h ++ (s ++ (b ++ (e ++ r)))
regroup h s b e r = simp append_assoc

-- THE WHOLE ARENA: header, slots, branch cells and entry cells, one behind the other
abbrev slots : Shape → List ℕ
slots z = zeros (z.stride * z.slots)

abbrev branches : Shape → List ℕ
branches z = free_cell_words 0 (1 + z.degree) 0 z.branches

abbrev entries : Shape → List ℕ
entries z = free_cell_words 1 4 0 z.entries

abbrev pub all : Shape → List ℕ
all z = header z ++ (slots z ++ (branches z ++ entries z))

all-length : (z : Shape) → length (all z) ≡ total z
all-length z =
    omega (
      arith,
      length-append (slots z) (branches z ++ entries z),
      length-append (branches z) (entries z),
      zeros-length (z.stride * z.slots),
      cells_length 0 (1 + z.degree) 0 z.branches,
      cells_length 1 4 0 z.entries,
    )

pub all_stored : (z : Shape) (a : List ℕ) → total z ≤ length a → sets a 0 (all z) ≡ blank z a
unfolding blank
all_stored z a long =
    sets-eq (all z) a 0 (omega (arith, all-length z))
    ∙ ap (λ (n : ℕ). all z ++ drop n a) {x = 0 + length (all z)} {y = total z} (omega (arith, all-length z))
    ∙ regroup (header z) (slots z) (branches z) (entries z) (drop (total z) a)

pub blank_stored : (z : Shape) (a : List ℕ) → total z ≤ length a → (b c d e : List ℕ) (m n : ℕ) → b ≡ sets a 0 (header z)
    → c ≡ sets b header_words (slots z) → m ≡ branches_at z → d ≡ sets c m (branches z) → n ≡ entries_at z → e ≡ sets d n (entries z)
    → e ≡ blank z a
blank_stored z a long b c d e m n eb ec em ed en ee =
    ee
    ∙ stored_then c d m n (branches z) (entries z) ed (omega (arith, cells_length 0 (1 + z.degree) 0 z.branches))
    ∙ stored_then b c header_words m (slots z) (branches z ++ entries z) ec (omega (arith, zeros-length (z.stride * z.slots)))
    ∙ stored_then a b 0 header_words (header z) (slots z ++ (branches z ++ entries z)) eb refl
    ∙ all_stored z a long
