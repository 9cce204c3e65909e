-- A node seen as children of a branch at a depth: a branch as its own, an entry that stands in the way as its own only child,
-- and no node as none. So one step of the new path is the same at a branch and at an entry.
use Prim.Native.Nat.{ℕ, suc, ◌^◌, ◌<◌}
use mathlib.Core.Path.{◌≡◌, refl, ap, ◌∙◌, fun_ext}
use mathlib.Core.Bool.{Bool, true, false, cond}
use mathlib.Core.List.{List, [], ◌∷◌}
use native.Mathlib.Omega.{arith}
use lib.Dec.{eqb}
use borrow.Author.Tests.{ne_eqb}
use Rattle.segments.specs.Segments.{segment}
use Rattle.segments.proofs.SegmentLaws.{segment_small}
use Rattle.sparse_array.specs.Bitmap.{below}
use Rattle.sparse_array.proofs.Places.{place_Nothing, place_at}
use Rattle.layout.specs.declared.Shape.{Shape}
use Rattle.layout.specs.Layout.{names, Allowed, Lent}
use Rattle.layout.specs.Columns.{State, columns}
use Rattle.layout.proofs.SizeLaws.{row_in, row_is_Right}
use Rattle.trie.specs.Canon.{Above, Asc, AllKids, Busy, Canon}
use Rattle.trie.specs.Entry.{Word64}
use Rattle.trie.specs.Trie.{Item, Node, leaf, branch, Kids, none, kid, missing, found, child}
use Rattle.trie.proofs.DegreeLaws.{segment_in_reach}
use Rattle.arena.specs.Shows.{bitmap, ShowsChain, Shows, ShowsRow}
use Rattle.arena.specs.Local.{Grow}
use Rattle.arena.proofs.Frames.{row_kept}
use Rattle.arena.proofs.Reach.{all_kids}
use Rattle.lookup.specs.Lookup.{names_kind}
use Rattle.lookup.proofs.FindLaws.{kind_is, kind_other, none_branch}
use Rattle.lookup.proofs.Meaning.{live_named, segment_low}
use Rattle.lookup.proofs.RowLaws.{bit-missing, child_by_bit}
use Rattle.grafts.specs.Grafts.{kid_bits, kid_row, onward_in, stops}
use Rattle.std.specs.Prelude.{Some, None}

-- segments are places in a branch
pub segment_in : (z : Shape) → Allowed z → (t h : ℕ) → segment z.bits t h < z.degree
segment_in z w t h = rw (row_is_Right z w).power (segment_small z.bits t h)

pub record Seen (z : Shape) (σ : State) (t r : ℕ) (ks : Kids ℕ) : Type 0 where
  pub bits : kid_bits z σ t r ≡ bitmap ks
  pub asc : Asc ks
  pub low : AllKids (λ i m. i < z.degree) ks
  pub row : ShowsRow σ ks t (kid_row z σ r)

-- a shape that is allowed, and columns in which what lives is a cell, as those of words are
pub record Celled (z : Shape) (σ : State) : Type 0 where
  pub allowed : Allowed z
  pub named : (r : ℕ) → 0 < σ.count r → names z r ≡ true

pub words_Celled : {z : Shape} {a : List ℕ} → Lent z a → Celled z (columns z a)
words_Celled {z} {a} l = record { allowed = l.allowed; named = live_named z a l.allowed }

-- BY WHAT THE REFERENCE NAMES
module _ (z : Shape) (σ : State) (t r : ℕ) where
  branch_bits : names_kind z 0 r ≡ true → kid_bits z σ t r ≡ σ.plain r 0
  unfolding kid_bits
  branch_bits y = rw y

  branch_row : names_kind z 0 r ≡ true → kid_row z σ r ≡ σ.kid r
  unfolding kid_row
  branch_row y = fun_ext (λ k. rw y)

  entry_bits : names_kind z 0 r ≡ false → names_kind z 1 r ≡ true → kid_bits z σ t r ≡ 2 ^ segment z.bits t (σ.plain r 0)
  unfolding kid_bits
  entry_bits n y = rw (n, y)

  entry_row : names_kind z 0 r ≡ false → names_kind z 1 r ≡ true → (k : ℕ) → kid_row z σ r k ≡ cond (eqb k 0) r 0
  unfolding kid_row
  entry_row n y k = rw (n, y)

-- 0 names nothing and is seen as no children
pub none_entry : (z : Shape) → names_kind z 1 0 ≡ false
none_entry z = kind_other z 1 0 (λ e. omega arith)

pub none_seen : (z : Shape) (σ : State) (t : ℕ) → Seen z σ t 0 none
unfolding kid_bits kid_row bitmap Asc AllKids Shows
none_seen z σ t =
    record {
      bits = rw (none_branch z, none_entry z);
      asc = tt;
      low = tt;
      row = λ k. rw (none_branch z, none_entry z);
    }

-- WHERE WHAT LIVES IS A CELL
module _ {z : Shape} {σ : State} (C : Celled z σ) where
  pub branch_named : (c : ℕ) (ks : Kids ℕ) (t r : ℕ) → Shows σ (branch c ks) t r
      → (names_kind z 0 r ≡ true) × (names_kind z 1 r ≡ false)
  unfolding Shows
  branch_named c ks t r h =
      (kind_is z 0 r (C.named r h.1) (omega (arith, h.0)), kind_other z 1 r (λ e. omega (arith, h.0)))

  pub single_named : (x : Item ℕ) (t r : ℕ) → Shows σ (leaf (x ∷ [])) t r
      → (names_kind z 0 r ≡ false) × (names_kind z 1 r ≡ true)
  unfolding Shows ShowsChain
  single_named x t r h =
      (kind_other z 0 r (λ e. omega (arith, h.0)), kind_is z 1 r (C.named r h.1) (omega (arith, h.0)))

  -- a canonical branch is seen as its children
  pub branch-Seen : (n : ℕ) (path : List ℕ) (c : ℕ) (ks : Kids ℕ) (t r : ℕ)
      → AllKids (λ s m. Canon (segment z.bits) Word64 Busy n (s ∷ path) m) ks → Shows σ (branch c ks) t r → Seen z σ t r ks
  unfolding Shows
  branch-Seen n path c ks t r all h =
      let y = (branch_named c ks t r h).0 in
      let w = C.allowed in
      record {
        bits = branch_bits z σ t r y ∙ h.3;
        asc = h.4;
        low = all_kids ks (segment_in_reach (row_in z w) (row_is_Right z w) n path) all;
        row = rw (branch_row z σ t r y) h.5;
      }

  -- a single as itself, at its hash's segment
  pub single_Seen : (x : Item ℕ) (t r : ℕ) → Shows σ (leaf (x ∷ [])) t r
      → Seen z σ t r (kid (segment z.bits t x.entry.hash) (leaf (x ∷ [])) none)
  unfolding Shows ShowsChain bitmap Asc Above AllKids
  single_Seen x t r h =
      let (n, y) = single_named x t r h in
      let row = entry_row z σ t r n y in
      record {
        bits = entry_bits z σ t r n y ∙ omega (arith, ap (λ (w : ℕ). 2 ^ segment z.bits t w) h.4);
        asc = tt;
        low = (segment_in z C.allowed t x.entry.hash, tt);
        row = (rw (row 0) h, λ k. row (suc k) ∙ rw (ne_eqb (suc k) 0 (λ e. omega arith)));
      }

-- WHAT LIVED IS SEEN AS BEFORE
pub Seen-kept : {z : Shape} {σ τ : State} {t r : ℕ} {ks : Kids ℕ} → Grow σ τ → 0 < σ.count r → Seen z σ t r ks → Seen z τ t r ks
Seen-kept {z} {σ} {τ} {t} {r} {ks} g live S =
    record {
      bits = same_bits g live ∙ S.bits;
      asc = S.asc;
      low = S.low;
      row = rw (same_row g live) (row_kept g ks t (kid_row z σ r) S.row);
    }
  where
    same_bits : Grow σ τ → 0 < σ.count r → kid_bits z τ t r ≡ kid_bits z σ t r
    same_bits g live = unfold kid_bits in (rw (g.plain_eq r live))

    same_row : Grow σ τ → 0 < σ.count r → kid_row z τ r ≡ kid_row z σ r
    same_row g live = unfold kid_row in (fun_ext (λ k. rw (g.kid_eq r live)))

-- THE WAY ON by the children that are seen
module _ {z : Shape} {σ : State} {t r : ℕ} {ks : Kids ℕ} (w : Allowed z) (h : ℕ) (S : Seen z σ t r ks) where
  pub onward_missing : child (segment z.bits t h) ks ≡ missing → onward_in z σ h t r ≡ None
  unfolding onward_in
  onward_missing q =
      let s = segment z.bits t h in
      rw (S.bits, place_Nothing (bitmap ks) s (segment_low z w t h) (bit-missing ks S.asc s q))

  pub onward_found : (m : Node ℕ) → child (segment z.bits t h) ks ≡ found m
      → (c : ℕ) × (onward_in z σ h t r ≡ Some c) × Shows σ m (suc t) c
  unfolding onward_in
  onward_found m q =
      let s = segment z.bits t h in
      let there = child_by_bit σ ks t (kid_row z σ r) S.asc S.row s m q in
      (kid_row z σ r (below (bitmap ks) s), rw (S.bits, place_at (bitmap ks) s (segment_low z w t h) there.0), there.1)

-- THE STOP: only at an entry that is replaced
pub stops_at : (z : Shape) (there : Bool) (r : ℕ) → there ≡ true → names_kind z 1 r ≡ true → stops z there r ≡ true
unfolding stops
stops_at z there r e y = rw (e, y)

pub stops_never : (z : Shape) (there : Bool) (r : ℕ) → there ≡ false → stops z there r ≡ false
unfolding stops
stops_never z there r e = rw e

pub stops_no_entry : (z : Shape) (there : Bool) (r : ℕ) → names_kind z 1 r ≡ false → stops z there r ≡ false
unfolding stops
stops_no_entry z true r n = n
stops_no_entry z false r n = refl
