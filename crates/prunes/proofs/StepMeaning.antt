-- One step up of a removal's path: a branch takes back the child that was made below, or loses the child that was emptied, and
-- where a single is all that is left it becomes that single. What the words then show is what the trie's compress makes.
use Rattle.std.proofs.Common.{◌≡◌, ℕ, suc, ◌+◌, ◌<◌, ◌≤◌, Bool, true, false, cond, List, [], ◌∷◌, length, get_or, sym, ap, ◌∙◌, arith}
use Rattle.cases.proofs.Cases.{split}
use Rattle.counts.specs.Counts.{times}
use Rattle.segments.specs.Segments.{segment}
use Rattle.sparse_array.specs.Bitmap.{below}
use Rattle.layout.specs.declared.Shape.{Shape}
use Rattle.layout.specs.Layout.{cell_of, Lent}
use Rattle.layout.specs.Columns.{State, columns}
use Rattle.layout.proofs.SizeLaws.{small}
use Rattle.trie.specs.Cells.{along}
use Rattle.trie.specs.Trie.{Item, Node, leaf, branch, Kids, none, kid, found, child, put, take_out, compress}
use Rattle.trie.proofs.KidsLaws.{child-put, child_take, Asc-take, all_take}
use Rattle.trie.proofs.PathNames.{along-leaf, along-found, along-missing}
use Rattle.arena.specs.Shows.{bitmap, Shows, ShowsRow}
use Rattle.arena.specs.Local.{Local}
use Rattle.arena.proofs.LocalLaws.{rehand}
use Rattle.arena.proofs.Frames.{shown_live, shows_kept, row_live, row_kept}
use Rattle.cells.specs.Mirrors.{Wrote, wrote, share_words}
use Rattle.cells.proofs.KeptLaws.{Kept-Lent, share_Kept}
use Rattle.cells.proofs.Meaning.{Grown, share_means}
use Rattle.cells.proofs.Made.{then_on}
use Rattle.grafts.specs.Grafts.{row_shared, child_put, below_put}
use Rattle.grafts.proofs.BranchLaws.{row_shared-Kept, row_shared_means, branch_made_means}
use Rattle.grafts.proofs.PutLaws.{made_after}
use Rattle.grafts.proofs.SeenLaws.{Seen, words_Celled}
use Rattle.grafts.proofs.Meaning.{Names, Names-down, Names-here, Grafted, leaf_Grafted, put-Grafted}
use Rattle.prunes.specs.Prunes.{is_a_single, is_the_only, out_at, child_settled, below_settled, cut_at, child_cut}
use Rattle.prunes.proofs.RowLaws.{bitmap_out}
use Rattle.prunes.proofs.SingleLaws.{lone_kids, lone_pressed, pressed_lone, pressed_found, not_pressed, out_shown, lone_is, put_is}

-- the branches on the path of the hash h, from depth t on
abbrev pub left_on : Shape → ℕ → ℕ → ℕ → Node ℕ → ℕ
left_on z n t h m = along (segment z.bits) (λ c. 1) n t h m

-- what becomes of the children ks at depth t: the one at the hash's segment is m from now on, or is gone
abbrev pub settled : Shape → (ℕ → ℕ) → ℕ → ℕ → Node ℕ → Kids ℕ → Node ℕ
settled z b h t m ks = compress (b t) (put (segment z.bits t h) m ks)

abbrev pub cut : Shape → (ℕ → ℕ) → ℕ → ℕ → Kids ℕ → Node ℕ
cut z b h t ks = compress (b t) (take_out (segment z.bits t h) ks)

-- a leaf is one at any depth
leaf_at : (σ : State) (y : Item ℕ) (t u r : ℕ) → Shows σ (leaf (y ∷ [])) t r → Shows σ (leaf (y ∷ [])) u r
unfolding Shows
leaf_at σ y t u r h = h

-- THE BRANCHES THAT ARE LEFT: none above a single, else one more
module _ (z : Shape) (b : ℕ → ℕ) (h n t : ℕ) (m : Node ℕ) (ks : Kids ℕ) where
  more_left : lone_kids (put (segment z.bits t h) m ks) ≡ false
      → left_on z (suc n) t h (settled z b h t m ks) ≡ suc (left_on z n (suc t) h m)
  more_left f =
      let seg = segment z.bits in
      ap (left_on z (suc n) t h) (not_pressed (b t) (put (seg t h) m ks) f)
      ∙ omega (arith, along-found seg (λ c. 1) n t h (b t) (put (seg t h) m ks) m (child-put (seg t h) m ks))

  none_left : lone_kids (put (segment z.bits t h) m ks) ≡ true → left_on z n (suc t) h m ≡ 0
  none_left e =
      let seg = segment z.bits in
      let (y, is, press) = pressed_found (b t) (seg t h) (put (seg t h) m ks) m e (child-put (seg t h) m ks) in
      ap (left_on z n (suc t) h) is ∙ along-leaf seg (λ c. 1) n (suc t) h (y ∷ [])

  -- so there is room for those below, and they have their names
  pub settled_room : left_on z n (suc t) h m ≤ left_on z (suc n) t h (settled z b h t m ks)
  settled_room =
      split (lone_kids (put (segment z.bits t h) m ks))
      (λ e. omega (arith, none_left e))
      (λ f. omega (arith, more_left f))

  pub settled-Names : (free : ℕ → List ℕ) → Names b t free (left_on z (suc n) t h (settled z b h t m ks))
      → Names b (suc t) free (left_on z n (suc t) h m)
  settled-Names free names =
      split (lone_kids (put (segment z.bits t h) m ks))
      (λ e u l. absurd (omega (arith, none_left e)))
      (λ f. Names-down b t free (left_on z n (suc t) h m) (rw (more_left f) at names))

-- THE CHILD PUT BACK. What was made below is a single and the only child of r:
abbrev is_alone : Shape → ℕ → Wrote → Bool
is_alone z r s = cond (is_the_only z (columns z s.words) r) (is_a_single z (columns z s.words) s.at) false

module _ (z : Shape) (h t r : ℕ) (s : Wrote) (some : s.at ≡ 0 → ⊥) where
  settles : is_alone z r s ≡ true → below_settled z h t r s ≡ s
  unfolding child_settled
  settles e = then_on s (child_settled z h t r) some ∙ rw e

  puts : is_alone z r s ≡ false → below_settled z h t r s ≡ below_put z h t r s
  unfolding child_settled
  puts f = then_on s (child_settled z h t r) some ∙ rw f (sym (then_on s (child_put z h t r) some))

module _ {z : Shape} {a : List ℕ} {free : ℕ → List ℕ} {ks : Kids ℕ} (b : ℕ → ℕ) (m old : Node ℕ) (h n t r : ℕ) (s : Wrote)
    (l : Lent z a) (G : Grafted z a free (left_on z n (suc t) h m) m (suc t) s)
    (S : Seen z (columns z s.words) t r ks) (q : child (segment z.bits t h) ks ≡ found old) where
  -- the child's segment
  abbrev there : ℕ
  there = segment z.bits t h

  -- the test of the code is the trie's
  test : is_alone z r s ≡ lone_kids (put there m ks)
  test = put_is S there old q (words_Celled (Kept-Lent G.0.kept l)) m s.at G.1

  pub settle_lone : lone_kids (put there m ks) ≡ true
      → Grafted z a free (left_on z (suc n) t h (settled z b h t m ks)) (settled z b h t m ks) t (below_settled z h t r s)
  settle_lone e =
      let (y, is, press) = pressed_found (b t) there (put there m ks) m e (child-put there m ks) in
      rw (settles z h t r s G.0.some (test ∙ e), press, along-leaf (segment z.bits) (λ c. 1) (suc n) t h (y ∷ [])) (
        rw (none_left z b h n t m ks e) at G.0,
        leaf_at (columns z s.words) y (suc t) t s.at (rw is at G.1),
      )

  pub settle_put : lone_kids (put there m ks) ≡ false → t < z.depths
      → left_on z (suc n) t h (settled z b h t m ks) ≤ length (free 0)
      → Names b t free (left_on z (suc n) t h (settled z b h t m ks))
      → Grafted z a free (left_on z (suc n) t h (settled z b h t m ks)) (settled z b h t m ks) t (below_settled z h t r s)
  settle_put f deep room names =
      let c = left_on z n (suc t) h m in
      let more = more_left z b h n t m ks f in
      rw (puts z h t r s G.0.some (test ∙ f), more, not_pressed (b t) (put there m ks) f)
      (put-Grafted m h t r c (b t) s l G S deep (omega arith) (Names-here b t free c (rw more at names)))

-- THE CHILD TAKEN OUT
module _ {z : Shape} {a : List ℕ} {free : ℕ → List ℕ} {ks : Kids ℕ} (b : ℕ → ℕ) (old : Node ℕ) (h n t r : ℕ)
    (l : Lent z a) (I : Local z (columns z a) (λ q. 0) free)
    (S : Seen z (columns z a) t r ks) (q : child (segment z.bits t h) ks ≡ found old) where
  -- its segment and its place, and the row and the children without it
  abbrev here : ℕ
  here = segment z.bits t h

  abbrev p : ℕ
  p = below (bitmap ks) here

  abbrev row : ℕ → ℕ
  row = out_at z (columns z a) r p

  abbrev rest : Kids ℕ
  rest = take_out here ks

  row_shown : ShowsRow (columns z a) rest t row
  row_shown = out_shown S here old q

  -- what the code does, by the trie's test
  cuts_lone : lone_kids rest ≡ true → child_cut z h t r a ≡ wrote (row 0) (share_words z a (row 0))
  unfolding child_cut
  cuts_lone e = rw (S.bits, lone_is S here old q (words_Celled l) ∙ e)

  cuts : lone_kids rest ≡ false → child_cut z h t r a ≡ cut_at z here t r p a
  unfolding child_cut
  cuts f = rw (S.bits, lone_is S here old q (words_Celled l) ∙ f)

  -- the single that is left is shared
  first_shown : (i : ℕ) (m : Node ℕ) → rest ≡ kid i m none → Shows (columns z a) m (suc t) (row 0)
  first_shown i m e = first_of (rw e at row_shown)
    where
      first_of : ShowsRow (columns z a) (kid i m none) t row → Shows (columns z a) m (suc t) (row 0)
      first_of d = unfold Shows in d.0

  share_first : (y : Item ℕ) → Shows (columns z a) (leaf (y ∷ [])) (suc t) (row 0)
      → Grafted z a free 0 (leaf (y ∷ [])) t (wrote (row 0) (share_words z a (row 0)))
  share_first y shown =
      let x = row 0 in
      let B = share_means x l (λ nz. shown_live (columns z a) (leaf (y ∷ [])) (suc t) x shown) (omega arith) I in
      let (M, T) =
      leaf_Grafted (leaf (y ∷ [])) t x (rehand _ (λ o nz. omega arith) B.local)
      (shows_kept B.grow (leaf (y ∷ [])) t x (leaf_at (columns z a) y (suc t) t x shown)) in
      (made_after (share_Kept z a x) B.grow B.slots M, T)

  pub cut_lone : lone_kids rest ≡ true → Grafted z a free (left_on z (suc n) t h (cut z b h t ks)) (cut z b h t ks) t (child_cut z h t r a)
  cut_lone e =
      let (i, y, is) = lone_pressed rest e in
      rw (cuts_lone e, is, pressed_lone (b t) i y, along-leaf (segment z.bits) (λ c. 1) (suc n) t h (y ∷ []))
      (share_first y (first_shown i (leaf (y ∷ [])) is))

  -- all that are left are shared, and a new branch takes them
  shared : Grown z (columns z a) (columns z (row_shared z row z.degree a)) (λ o. times z.degree row o + 0) free
  shared =
      row_shared_means row z.degree l (row_live (columns z a) rest t row row_shown)
      (λ o. omega (arith, (small z l.allowed).degree_high)) I

  cut_branch : (c : ℕ) → t < z.depths → 0 < length (free 0) → c ≡ cell_of (get_or (free 0) 0 0)
      → Grafted z a free 1 (branch c rest) t (cut_at z here t r p a)
  unfolding cut_at
  cut_branch c deep some name =
      let kept = row_shared-Kept z row z.degree a in
      let (M, T) =
      branch_made_means (Kept-Lent kept l) t _ c row rest (rehand _ (λ o nz. omega arith) shared.local)
      (sym (bitmap_out here ks old S.asc q)) (Asc-take here ks S.asc) (all_take (λ i m. i < z.degree) here ks S.low)
      (row_kept shared.grow rest t row row_shown) deep some name in
      rw S.bits (made_after kept shared.grow shared.slots M, T)

  one_left : lone_kids rest ≡ false → left_on z (suc n) t h (cut z b h t ks) ≡ 1
  one_left f =
      ap (left_on z (suc n) t h) (not_pressed (b t) rest f)
      ∙ along-missing (segment z.bits) (λ c. 1) n t h (b t) rest (child_take here ks S.asc)

  pub cut_more : lone_kids rest ≡ false → t < z.depths
      → left_on z (suc n) t h (cut z b h t ks) ≤ length (free 0)
      → Names b t free (left_on z (suc n) t h (cut z b h t ks))
      → Grafted z a free (left_on z (suc n) t h (cut z b h t ks)) (cut z b h t ks) t (child_cut z h t r a)
  cut_more f deep room names =
      rw (cuts f, one_left f, not_pressed (b t) rest f)
      (cut_branch (b t) deep (omega (arith, one_left f)) (Names-here b t free 0 (rw (one_left f) at names)))
