-- The steps of a new path, as the mirrors have them.
use Rattle.std.proofs.lemmas.Nat.{one_shl}
use Prim.Native.Nat.{ℕ, zero, suc, ◌+◌, ◌-◌, ◌*◌, ◌%◌, ◌^◌, ◌≤◌, ◌<◌}
use mathlib.Core.Path.{◌≡◌, refl, sym, ap, ap₂, ◌∙◌}
use mathlib.Core.Bool.{Bool, true, false}
use mathlib.Core.List.{List}
use mathlib.Core.Logic.{⊎_elim}
use native.Mathlib.Omega.{arith}
use native.Mathlib.Numerals.{add-one}
use borrow.Author.Tests.{eq-eqb, ne_eqb}
use lib.Bits.{bit_or}
use lib.ListN.{length, get_or, set}
use lib.Seq.{get_or-set_same, get_or-set_other}
use Rattle.cases.proofs.Cases.{split, eq?}
use Rattle.counts.specs.Counts.{upd}
use Rattle.counts.proofs.CountLaws.{upd_same, upd_other}
use Rattle.segments.specs.Segments.{segment}
use Rattle.sparse_array.specs.Bitmap.{bit, below}
use Rattle.std.specs.Prelude.{Some, None, Ok, Err}
use Rattle.sparse_array.specs.Places.{Place, place_of}
use Rattle.sparse_array.proofs.Places.{place_Says}
use Rattle.sparse_array.proofs.Bitmap.{below_le}
use Rattle.layout.specs.declared.Shape.{Shape}
use Rattle.layout.specs.Layout.{kind_of, names, Allowed, Lent}
use Rattle.layout.proofs.SizeLaws.{small}
use Rattle.layout.proofs.OffsetLaws.{names_low}
use Rattle.layout.specs.Columns.{State, word, columns}
use Rattle.layout.proofs.ColumnLaws.{plain_in}
use Rattle.lookup.specs.Lookup.{names_kind}
use Rattle.lookup.proofs.FindLaws.{kind_says, entry_word}
use Rattle.lookup.proofs.RowLaws.{added}
use Rattle.lookup.proofs.Meaning.{segment_low}
use Rattle.cells.specs.Mirrors.{Wrote, wrote, and_then, listed, taken, taken_of, take_words, share_words, fill_branch_words}
use Rattle.cells.proofs.RowLaws.{row_same}
use Rattle.cells.proofs.StepColumns.{share_none}
use Rattle.cells.proofs.TakeLaws.{taken_cell}
use Rattle.cells.proofs.Made.{then_on, then_over, taken_over, taken_on}
use Rattle.grafts.specs.Grafts.{kid_bits, kid_row, gap_at, child_of, onward_in, on_onward, stops, reaches, reach_from, row_with, row_at, IsRow, NoneFrom, row_shared, branch_made, put_in, child_put, below_put, graft_from}
use Rattle.grafts.proofs.SeenLaws.{segment_in}
use Rattle.std.specs.Prelude.{Some, None}

-- the gap that a place tells
abbrev Gap : Place → ℕ
Gap (Ok (Some i)) = 0
Gap (Ok None) = 1
Gap (Err _) = 1

-- A NODE AS CHILDREN
module _ (z : Shape) (a : List ℕ) (t r : ℕ) where
  pub bits_branch : names_kind z 0 r ≡ true → kid_bits z (columns z a) t r ≡ word z a r 2
  unfolding kid_bits
  bits_branch e =
      let k = (kind_says z 0 r e).1 in
      rw e (plain_in z a r 0 (rw k (omega arith)) ∙ ap (λ (i : ℕ). word z a r (2 + i + 0)) k)

  pub bits_entry : names_kind z 0 r ≡ false → names_kind z 1 r ≡ true
      → kid_bits z (columns z a) t r ≡ 2 ^ segment z.bits t (word z a r 3)
  unfolding kid_bits
  bits_entry f e = rw (f, e) (ap (λ (h : ℕ). 2 ^ segment z.bits t h) (entry_word z a r 0 e (omega arith)))

  pub entry_bits : (h s : ℕ) → names_kind z 0 r ≡ false → names_kind z 1 r ≡ true → Allowed z → h ≡ word z a r 3
      → s ≡ segment z.bits t h → 1 * 2 ^ s % 2 ^ 64 ≡ kid_bits z (columns z a) t r
  entry_bits h s f e w eh es =
      let low : s < 64 = rw es (segment_low z w t h) in
      one_shl s 64 low ∙ rw (es, eh) (sym (bits_entry f e))

  pub bits_none : names_kind z 0 r ≡ false → names_kind z 1 r ≡ false → kid_bits z (columns z a) t r ≡ 0
  unfolding kid_bits
  bits_none f e = rw (f, e)

module _ (z : Shape) (σ : State) (r k : ℕ) where
  pub row_branch : names_kind z 0 r ≡ true → kid_row z σ r k ≡ σ.kid r k
  unfolding kid_row
  row_branch e = rw e

  pub row_entry : names_kind z 0 r ≡ false → names_kind z 1 r ≡ true → k ≡ 0 → kid_row z σ r k ≡ r
  unfolding kid_row
  row_entry f e q = rw (f, e, eq-eqb k 0 q)

  pub row_beyond : names_kind z 0 r ≡ false → (k ≡ 0 → ⊥) → kid_row z σ r k ≡ 0
  unfolding kid_row
  row_beyond f ne = rw (f, ne_eqb k 0 ne) (split (names_kind z 1 r) (λ e. rw e) (λ e. rw e))

  pub row_none : names_kind z 0 r ≡ false → names_kind z 1 r ≡ false → kid_row z σ r k ≡ 0
  unfolding kid_row
  row_none f e = rw (f, e)

-- GAPS
pub gap_few : (b s g : ℕ) → g ≡ gap_at b s → g ≤ 1
gap_few b s g e = omega arith

module _ (b s : ℕ) where
  -- by where a child stands
  pub gap_by : (p : Place) → p ≡ place_of b s → s < 64 → Gap p ≡ gap_at b s
  gap_by (Ok (Some i)) e l = omega (arith, (place_Says b s (Ok (Some i)) e).1)
  gap_by (Ok None) e l = omega (arith, (place_Says b s (Ok None) e).1)
  gap_by (Err x) e l = absurd (omega (arith, place_Says b s (Err x) e))

  pub with_one : (g m : ℕ) → g ≡ gap_at b s → (g ≡ 0 → ⊥) → m ≡ 2 ^ s → bit_or b m ≡ b + gap_at b s * 2 ^ s
  with_one g m e ne em =
      let clear : bit b s ≡ 0 = omega (arith, e, ne) in
      rw (em, clear) (added b s clear ∙ omega arith)

-- ONWARD
module _ (z : Shape) (σ : State) (h t r : ℕ) where
  pub onward_by : (b s : ℕ) (p : Place) → b ≡ kid_bits z σ t r → s ≡ segment z.bits t h → place_of b s ≡ p
      → child_of z σ r p ≡ onward_in z σ h t r
  unfolding onward_in
  onward_by b s p eb es ep = ap (child_of z σ r) (sym ep ∙ ap₂ place_of eb es)

-- ENDS
module _ (z : Shape) (r : ℕ) where
  pub stop_is : (rep : Bool) → rep ≡ true → names_kind z 1 r ≡ stops z rep r
  unfolding stops
  stop_is rep e = rw e

  pub stop_not : (rep : Bool) → rep ≡ false → rep ≡ stops z rep r
  unfolding stops
  stop_not rep e = rw e

-- REACH, where n depths are left of d
module _ (z : Shape) (σ : State) (h : ℕ) (rep : Bool) (d t r : ℕ) where
  pub reach_stops : t < d → stops z rep r ≡ true → reach_from z σ h rep (d - t) t r ≡ reaches t 0
  unfolding reach_from
  reach_stops l e = let n : d - t ≡ suc (d - (t + 1)) = omega arith in rw (n, e)

  pub reach_Missing : t < d → stops z rep r ≡ false → onward_in z σ h t r ≡ None
      → reach_from z σ h rep (d - t) t r ≡ reaches (t + 1) 0
  unfolding reach_from on_onward
  reach_Missing l e q = let n : d - t ≡ suc (d - (t + 1)) = omega arith in rw (n, e, q, add-one)

  pub reach_on : (c : ℕ) → t < d → stops z rep r ≡ false → onward_in z σ h t r ≡ Some c
      → reach_from z σ h rep (d - t) t r ≡ reach_from z σ h rep (d - (t + 1)) (t + 1) c
  unfolding reach_from on_onward
  reach_on c l e q = let n : d - t ≡ suc (d - (t + 1)) = omega arith in rw (n, e, q, add-one)

  pub reach_over : d ≤ t → reach_from z σ h rep (d - t) t r ≡ reaches t r
  unfolding reach_from
  reach_over l = let n : d - t ≡ 0 = omega arith in rw n

-- ROWS. Two rows with a word put in at one place differ there alone.
row_put : (f : ℕ → ℕ) (p g y x k : ℕ) → upd (row_with f p g y) p x k ≡ row_with f p g x k
unfolding row_with
row_put f p g y x k =
    ⊎_elim
    (λ e. upd_same (row_with f p g y) p x k e ∙ rw (eq-eqb k p e))
    (λ ne. upd_other (row_with f p g y) p x k ne ∙ rw (ne_eqb k p ne))
    (eq? k p)

pub IsRow-next : (f : ℕ → ℕ) (w : List ℕ) (n v : ℕ) → n < length w → v ≡ f n → IsRow n f w → IsRow (n + 1) f (set w n v)
IsRow-next f w n v l e R k lk =
    ⊎_elim
    (λ q. ap (λ (j : ℕ). get_or (set w n v) j 0) q ∙ get_or-set_same w n v 0 l ∙ e ∙ ap f (sym q))
    (λ ne. get_or-set_other w n k v 0 (λ q. ne q) ∙ R k (omega (arith, ne)))
    (eq? k n)

-- and is, with x at its place, the whole row
pub IsRow-put : (f : ℕ → ℕ) (p g x n : ℕ) (w : List ℕ) → p < length w → IsRow n (row_with f p g 0) w → IsRow n (row_with f p g x) (set w p x)
IsRow-put f p g x n w l R k lk =
    ⊎_elim
    (λ q.
    ap (λ (j : ℕ). get_or (set w p x) j 0) q ∙ get_or-set_same w p x 0 l
    ∙ sym (upd_same (row_with f p g 0) p x k q) ∙ row_put f p g 0 x k)
    (λ ne.
    get_or-set_other w p k x 0 (λ q. ne q) ∙ R k lk ∙ sym (upd_other (row_with f p g 0) p x k ne) ∙ row_put f p g 0 x k)
    (eq? k p)

-- SHARING
module _ (z : Shape) (a : List ℕ) where
  pub share_none_yet : (f : ℕ → ℕ) → a ≡ row_shared z f 0 a
  unfolding row_shared
  share_none_yet f = refl

  pub share_next : (f : ℕ → ℕ) (n : ℕ) (b c : List ℕ) → b ≡ row_shared z f n a → c ≡ share_words z b (f n) → c ≡ row_shared z f (n + 1) a
  unfolding row_shared
  share_next f n b c eb ec = rw add-one (ec ∙ ap (λ (x : List ℕ). share_words z x (f n)) eb)

  pub share_same : (f g : ℕ → ℕ) (n : ℕ) → ((k : ℕ) → k < n → f k ≡ g k) → row_shared z f n a ≡ row_shared z g n a
  unfolding row_shared
  share_same f g zero e = refl
  share_same f g (suc n) e = rw (share_same f g n (λ k l. e k (omega arith)), e n (omega arith))

  -- none is not counted, so that a row may end where its references do
  pub share_up_to : (f : ℕ → ℕ) (n m : ℕ) → n ≤ m → NoneFrom n m f → row_shared z f n a ≡ row_shared z f m a
  unfolding row_shared
  share_up_to f n zero l none = let q : n ≡ 0 = omega arith in rw q
  share_up_to f n (suc m) l none =
      ⊎_elim
      (λ e. rw e)
      (λ ne.
      let h : n ≤ m = omega (arith, ne) in
      share_up_to f n m h (λ k lk hk. none k lk (omega arith))
      ∙ sym (rw (none m h (omega arith)) (share_none z (row_shared z f m a) 0 (names_low z 0 (omega arith)))))
      (eq? n (suc m))

-- A NEW BRANCH
module _ (z : Shape) (a : List ℕ) (t b : ℕ) (f : ℕ → ℕ) where
  pub branch_over : (r : ℕ) (w : List ℕ) → r ≡ taken_of z a 0 → w ≡ take_words z a 0 → r ≡ 0 → wrote 0 w ≡ branch_made z a t b f
  unfolding branch_made
  branch_over r w er ew o = taken_over z a 0 r w er ew _ o

  pub branch_on : (r : ℕ) (w v : List ℕ) → r ≡ taken_of z a 0 → w ≡ take_words z a 0 → (r ≡ 0 → ⊥)
      → v ≡ fill_branch_words z w r t b f → wrote r v ≡ branch_made z a t b f
  unfolding branch_made
  branch_on r w v er ew ne ev = taken_on z a 0 r w er ew (λ c x. fill_branch_words z x c t b f) v ne ev

-- there is room for a row in the cell that was taken, and in the row for all words of the cell
pub named_room : (z : Shape) (a : List ℕ) (r : ℕ) (row : List ℕ) → Lent z a → r ≡ taken_of z a 0 → (r ≡ 0 → ⊥) → length row ≡ 64
    → (names z r ≡ true) × (kind_of r ≡ 0) × (z.degree ≤ length row)
named_room z a r row l e ne len =
    let t = taken_cell z a 0 r e ne in (t.0, t.1, omega (arith, (small z l.allowed).degree_high))

pub branch_same : (z : Shape) (a : List ℕ) (t b : ℕ) (f g : ℕ → ℕ) → ((k : ℕ) → k < z.degree → f k ≡ g k)
    → branch_made z a t b f ≡ branch_made z a t b g
unfolding branch_made fill_branch_words
branch_same z a t b f g e =
    ⊎_elim
    (λ o. then_over (taken z a 0) _ o ∙ sym (then_over (taken z a 0) _ o))
    (λ ne.
    then_on (taken z a 0) _ ne
    ∙ ap (λ (w : List ℕ). wrote (taken_of z a 0) w) (row_same z (taken_of z a 0) f g _ z.degree e)
    ∙ sym (then_on (taken z a 0) _ ne))
    (eq? (taken_of z a 0) 0)

-- PUT
pub place_low : (z : Shape) (t h b s p : ℕ) → Allowed z → s ≡ segment z.bits t h → p ≡ below b s → p < z.degree
place_low z t h b s p w es ep = omega (arith, segment_in z w t h, below_le b s)

put_in_is : (z : Shape) (a : List ℕ) (t b s x c : ℕ) (f : ℕ → ℕ) (row w v : List ℕ)
    → below b s < length row → IsRow z.degree (row_with f (below b s) (gap_at b s) 0) row
    → w ≡ row_shared z (listed row) z.degree a
    → wrote c v ≡ branch_made z w t (b + gap_at b s * 2 ^ s) (listed (set row (below b s) x))
    → wrote c v ≡ put_in z t b f s x a
unfolding put_in
put_in_is z a t b s x c f row w v lp R ew ev =
    let p : ℕ = below b s in
    let g : ℕ = gap_at b s in
    ev ∙ branch_same z w t (b + g * 2 ^ s) (listed (set row p x)) (row_with f p g x) (IsRow-put f p g x z.degree row lp R)
    ∙ ap (λ (y : List ℕ). branch_made z y t (b + g * 2 ^ s) (row_with f p g x))
    (ew ∙ share_same z a (listed row) (upd (row_with f p g x) p 0) z.degree (λ k l. R k l ∙ sym (row_put f p g x 0 k)))

pub put_is : (z : Shape) (a : List ℕ) (h t r x s b g p b' : ℕ) (row : List ℕ) (w v : List ℕ) (c : ℕ)
    → s ≡ segment z.bits t h → b ≡ kid_bits z (columns z a) t r → g ≡ gap_at b s → p ≡ below b s → b' ≡ b + gap_at b s * 2 ^ s
    → p < length row → IsRow z.degree (row_at z (columns z a) r p g 0) row
    → w ≡ row_shared z (listed row) z.degree a
    → wrote c v ≡ branch_made z w t b' (listed (set row p x))
    → wrote c v ≡ child_put z h t r x a
unfolding child_put
put_is z a h t r x s b g p b' row w v c es eb eg ep eb' lp R ew ev =
    put_in_is z a t b s x c (kid_row z (columns z a) r) row w v (rw ep at lp) (rw (ep, eg) at R) ew (rw (ep, eb') at ev)
    ∙ ap₂ (λ (i j : ℕ). put_in z t i (kid_row z (columns z a) r) j x a) eb es

-- what comes next, where something was made, and where not
module _ (f : ℕ → List ℕ → Wrote) (x : ℕ) (a : List ℕ) where
  pub below_none : x ≡ 0 → wrote 0 a ≡ and_then (wrote x a) f
  below_none e = ap (λ (y : ℕ). wrote y a) (sym e) ∙ sym (then_over (wrote x a) f e)

  pub below_some : (s : Wrote) → (x ≡ 0 → ⊥) → s ≡ f x a → s ≡ and_then (wrote x a) f
  below_some s ne q = q ∙ sym (then_on (wrote x a) f ne)

-- GRAFT, with d depths in all and n left
module _ (z : Shape) (h leaf : ℕ) (rep : Bool) (r : ℕ) (a : List ℕ) where
  pub graft_over : (n t : ℕ) → n ≡ 0 → wrote leaf a ≡ graft_from z h leaf rep n t r a
  unfolding graft_from
  graft_over n t e = rw e

  pub graft_stops : (n t : ℕ) → (n ≡ 0 → ⊥) → stops z rep r ≡ true → wrote leaf a ≡ graft_from z h leaf rep n t r a
  unfolding graft_from
  graft_stops zero t ne e = absurd (ne refl)
  graft_stops (suc n) t ne e = rw e

  pub graft_Missing : (n t : ℕ) (s : Wrote) → (n ≡ 0 → ⊥) → stops z rep r ≡ false → onward_in z (columns z a) h t r ≡ None
      → s ≡ below_put z h t r (wrote leaf a) → s ≡ graft_from z h leaf rep n t r a
  unfolding graft_from on_onward
  graft_Missing zero t s ne e q p = absurd (ne refl)
  graft_Missing (suc n) t s ne e q p = rw (e, q) p

  pub graft_Child : (d n t c x : ℕ) (w : List ℕ) (s : Wrote) → (n ≡ 0 → ⊥) → n ≤ d → t ≡ d - n → stops z rep r ≡ false
      → onward_in z (columns z a) h t r ≡ Some c
      → wrote x w ≡ graft_from z h leaf rep (n - 1) (d - (n - 1)) c a → s ≡ below_put z h t r (wrote x w)
      → s ≡ graft_from z h leaf rep n t r a
  unfolding graft_from on_onward
  graft_Child d zero t c x w s ne l et e q g p = absurd (ne refl)
  graft_Child d (suc n) t c x w s ne l et e q g p =
      let m : suc n - 1 ≡ n = omega arith in
      let k : d - n ≡ suc t = omega arith in
      let y : wrote x w ≡ graft_from z h leaf rep n (suc t) c a = rw (m, k) at g in
      rw (e, q) (p ∙ ap (below_put z h t r) y)
