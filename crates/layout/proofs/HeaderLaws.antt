-- The test of the header decides what `Header` says: every step of it is one of the sentences, and a shape that passed is
-- allowed.
use Prim.Native.Nat.{ℕ, ◌≤◌}
use mathlib.Core.Path.{◌≡◌, refl, sym, ap, ◌∙◌}
use mathlib.Core.Bool.{Bool, true, false, cond}
use mathlib.Core.List.{List}
use mathlib.Core.Logic.{◌↔◌}
use native.Mathlib.Omega.{arith}
use lib.Dec.{eqb, leb}
use lib.ListN.{length, get_or}
use borrow.Author.Tests.{eq-eqb, le-leb, eqb-true, leb-true}
use Rattle.cases.proofs.Cases.{split, both}
use Rattle.segments.specs.Segments.{row_of}
use Rattle.layout.specs.declared.Shape.{Shape}
use Rattle.layout.specs.Layout.{header_words, branches_at, entries_at, total, most_branches, most_entries, most_slots, Allowed, Lent}
use Rattle.layout.specs.Header.{Header, within, are_sizes_fit, shape, shape_in, shape_of, are_offsets_fit, right_in, header_of}
use Rattle.std.specs.Prelude.{Option, Some, None, Result, Ok, Err}
use Rattle.layout.specs.declared.Misfit.{Misfit}
use Rattle.layout.specs.declared.Misfit.TheVariants.{BadDegree, BadSizes}
use Rattle.segments.specs.declared.DegreeRow.{DegreeRow}
use Rattle.segments.specs.Segments.{found}

-- SHAPES
module _ (g b n s : ℕ) where
  pub shape-Fits : (bits depths last : ℕ) → row_of g ≡ found bits depths last → are_sizes_fit b n s ≡ true
      → shape_of g b n s ≡ Ok (shape g bits depths b n s)
  unfolding shape_of shape_in
  shape-Fits bits depths last e f = rw (e, f)

  pub shape_sizes : (bits depths last : ℕ) → row_of g ≡ found bits depths last → are_sizes_fit b n s ≡ false → shape_of g b n s ≡ Err BadSizes
  unfolding shape_of shape_in
  shape_sizes bits depths last e f = rw (e, f)

  pub shape_degree : row_of g ≡ None → shape_of g b n s ≡ Err BadDegree
  unfolding shape_of shape_in
  shape_degree e = rw e

within_says : (x most : ℕ) → within x most ≡ true → (1 ≤ x) × (x ≤ most)
unfolding within
within_says x most e = let w = both (leb 1 x) (leb x most) e in (leb-true _ _ w.0, leb-true _ _ w.1)

within_is : (x most : ℕ) → 1 ≤ x → x ≤ most → within x most ≡ true
unfolding within
within_is x most l m = rw (le-leb 1 x l, le-leb x most m)

-- what a shape that fits is
pub record Fitting (g b n s : ℕ) (z : Shape) : Type 0 where
  pub allowed : Allowed z
  pub three : z.stride ≡ 3
  pub degree_is : z.degree ≡ g
  pub branches_is : z.branches ≡ b
  pub entries_is : z.entries ≡ n
  pub slots_is : z.slots ≡ s

fitting : (g b n s bits depths last : ℕ) → row_of g ≡ found bits depths last → are_sizes_fit b n s ≡ true → Fitting g b n s (shape g bits depths b n s)
unfolding are_sizes_fit
fitting g b n s bits depths last e f =
    let u = both (within b most_branches) _ f in
    let v = both (within n most_entries) _ u.1 in
    let x = within_says b most_branches u.0 in
    let y = within_says n most_entries v.0 in
    let w = within_says s most_slots v.1 in
    record {
      allowed =
          record {
            last = last;
            in_table = e;
            some_branches = x.0;
            few_branches = x.1;
            some_entries = y.0;
            few_entries = y.1;
            some_slots = w.0;
            few_slots = w.1;
            wide = omega arith;
            narrow = omega arith;
          };
      three = refl;
      degree_is = refl;
      branches_is = refl;
      entries_is = refl;
      slots_is = refl;
    }

pub Fits-says : (g b n s : ℕ) (z : Shape) → shape_of g b n s ≡ Ok z → Fitting g b n s z
Fits-says g b n s z e = by (row_of g) refl
  where
    by : (o : Option DegreeRow) → row_of g ≡ o → Fitting g b n s z
    by (Some x) r =
        let bits = x.bits in
        let depths = x.depths in
        let last = x.last in
        split (are_sizes_fit b n s)
        (λ f.
        let same : Ok (shape g bits depths b n s) ≡ Ok z = sym (shape-Fits g b n s bits depths last r f) ∙ e in
        let q : shape g bits depths b n s ≡ z = cc in
        rw (sym q) (fitting g b n s bits depths last r f))
        (λ f. absurd (let m : ◌≡◌ {A = ℕ} 0 1 = cc (shape_sizes g b n s bits depths last r f) in omega arith))
    by None r = absurd (let m : ◌≡◌ {A = ℕ} 0 1 = cc (shape_degree g b n s r) in omega arith)

pub shape_Allowed : (g b n s : ℕ) (z : Shape) → shape_of g b n s ≡ Ok z → Allowed z
shape_Allowed g b n s z e = (Fits-says g b n s z e).allowed

pub Fits-is : (z : Shape) → Allowed z → z.stride ≡ 3 → shape_of z.degree z.branches z.entries z.slots ≡ Ok z
unfolding are_sizes_fit
Fits-is z w e =
    shape-Fits z.degree z.branches z.entries z.slots z.bits z.depths w.last w.in_table
    (rw (
      within_is z.branches most_branches w.some_branches w.few_branches,
      within_is z.entries most_entries w.some_entries w.few_entries,
      within_is z.slots most_slots w.some_slots w.few_slots,
    ))
    ∙ ap Ok (λ i.
    record {
      degree = z.degree;
      bits = z.bits;
      depths = z.depths;
      stride = e' i;
      slots = z.slots;
      branches = z.branches;
      entries = z.entries;
    })
  where
    e' : 3 ≡ z.stride
    e' = sym e

-- HEADERS
module _ (a : List ℕ) (z : Shape) where
  pub Right-says : (y : Result Shape Misfit) → right_in a y ≡ Some z → (y ≡ Ok z) × (are_offsets_fit a z ≡ true)
  unfolding right_in
  Right-says (Ok x) e =
      split (are_offsets_fit a x)
      (λ f.
      let q : Some x ≡ Some z = rw f at e in
      let same : x ≡ z = cc in
      (ap Ok same, ap (are_offsets_fit a) (sym same) ∙ f))
      (λ f. absurd (let q : ◌≡◌ {A = Option Shape} None (Some z) = rw f at e in let m : ◌≡◌ {A = ℕ} 0 1 = cc in omega arith))
  Right-says (Err why) e = absurd (let m : ◌≡◌ {A = ℕ} 0 1 = cc in omega arith)

  pub right_is : (y : Result Shape Misfit) → y ≡ Ok z → are_offsets_fit a z ≡ true → right_in a y ≡ Some z
  unfolding right_in
  right_is y e f = rw (e, f)

  chosen : (x : Bool) (y : _) → cond x y None ≡ Some z → (x ≡ true) × (y ≡ Some z)
  chosen true y e = (refl, e)
  chosen false y e = absurd (let m : ◌≡◌ {A = ℕ} 0 1 = cc in omega arith)

  -- THE TEST IS THE SENTENCES
  pub Header-says : (header_of a ≡ Some z) ↔ Header a z
  unfolding header_of are_offsets_fit
  Header-says = (to, from)
    where
      to : header_of a ≡ Some z → Header a z
      to e =
          let u = chosen (leb header_words (length a)) _ e in
          let v = chosen (eqb (get_or a 0 0) 1) _ u.1 in
          let (f, o) = Right-says _ v.1 in
          let k = Fits-says _ _ _ _ z f in
          let o5 = both (eqb (get_or a 5 0) header_words) _ o in
          let o6 = both (eqb (get_or a 6 0) (branches_at z)) _ o5.1 in
          let o7 = both (eqb (get_or a 7 0) (entries_at z)) _ o6.1 in
          record {
            allowed = k.allowed;
            three = k.three;
            word_0 = eqb-true _ _ v.0;
            word_1 = sym k.degree_is;
            word_2 = sym k.branches_is;
            word_3 = sym k.entries_is;
            word_4 = sym k.slots_is;
            word_5 = eqb-true _ _ o5.0;
            word_6 = eqb-true _ _ o6.0;
            word_7 = eqb-true _ _ o7.0;
            long = leb-true _ _ o7.1;
          }

      from : Header a z → header_of a ≡ Some z
      from h =
          rw (le-leb header_words (length a) (omega (arith, h.long)), eq-eqb (get_or a 0 0) 1 h.word_0, h.word_1, h.word_2, h.word_3, h.word_4)
          (right_is _ (Fits-is z h.allowed h.three)
          (rw (
            eq-eqb (get_or a 5 0) header_words h.word_5,
            eq-eqb (get_or a 6 0) (branches_at z) h.word_6,
            eq-eqb (get_or a 7 0) (entries_at z) h.word_7,
            le-leb (total z) (length a) h.long,
          )))

-- a slice with a right header is long enough
pub Header-Lent : (a : List ℕ) (z : Shape) → Header a z → Lent z a
Header-Lent a z h = record { allowed = h.allowed; long = h.long }

pub header_Lent : (a : List ℕ) (z : Shape) → header_of a ≡ Some z → Lent z a
header_Lent a z e = Header-Lent a z ((Header-says a z).0 e)

-- and says one shape only
pub Header-once : (a : List ℕ) (z y : Shape) → Header a z → Header a y → z ≡ y
Header-once a z y h k =
    let e : Some z ≡ Some y = sym ((Header-says a z).1 h) ∙ (Header-says a y).1 k in cc
