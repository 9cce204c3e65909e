-- On an edition the new path on the words is what the trie's own insert makes: at each depth the node is seen as children, the
-- child at the hash's segment is followed or missing, and a new branch holds the others and what was made below.
use Prim.Native.Nat.{ℕ, zero, suc, ◌+◌, ◌-◌, ◌≤◌, ◌<◌}
use mathlib.Core.Path.{◌≡◌, refl, sym, ap, ◌∙◌}
use mathlib.Core.Logic.{⊎_elim}
use mathlib.Core.Bool.{Bool, true, false}
use mathlib.Core.List.{List, [], ◌∷◌}
use native.Mathlib.Omega.{arith}
use lib.ListN.{length, get_or, drop}
use borrow.Author.Tests.{eq-eqb, ne_eqb}
use Rattle.cases.proofs.Cases.{eq?}
use Rattle.counts.specs.Counts.{ind}
use Rattle.counts.proofs.CountLaws.{ind_same, ind_other}
use Rattle.segments.specs.Segments.{segment}
use Rattle.layout.specs.declared.Shape.{Shape}
use Rattle.layout.specs.Layout.{cell_of, Lent}
use Rattle.layout.specs.Columns.{State, columns}
use Rattle.layout.proofs.SizeLaws.{row_is_Right}
use Rattle.trie.specs.declared.Entry.{Entry}
use Rattle.trie.specs.Entry.{Word64}
use Rattle.trie.specs.Trie.{Item, Node, leaf, branch, Kids, none, kid, missing, found, child, item, single, put, get_node, push_front}
use Rattle.trie.proofs.InsertCases.{InsertCase, in_chain, replaced, deeper, apart, new_child, in_child}
use Rattle.trie.proofs.KidsLaws.{child_hit, child_only, put_hit}
use Rattle.trie.proofs.PathLaws.{hop_found}
use Rattle.arena.specs.Shows.{ShowsChain, Shows}
use Rattle.arena.specs.Local.{Local}
use Rattle.arena.proofs.LocalLaws.{refree}
use Rattle.arena.proofs.Frames.{Grow-refl, Grow-trans, slots_refl, slots_trans, shown_live, shown_some}
use Rattle.cells.specs.Mirrors.{Wrote, wrote}
use Rattle.cells.proofs.KeptLaws.{kept_refl, kept_trans, Kept-Lent}
use Rattle.cells.proofs.Made.{left, taking, Made, then_on, next_free, one_taken, none_taken}
use Rattle.grafts.specs.Grafts.{on_onward, onward_in, stops, child_put, below_put, graft_from}
use Rattle.grafts.proofs.CaseLaws.{is_there, is_there_lem, is_absent, leaf_of, cost_of, missed, met}
use Rattle.grafts.proofs.PutLaws.{put_means}
use Rattle.grafts.proofs.SeenLaws.{segment_in, Seen, words_Celled, branch_named, single_named, branch-Seen, single_Seen, none_entry, none_seen, Seen-kept, onward_missing, onward_found, stops_at, stops_never, stops_no_entry}
use Rattle.std.specs.Prelude.{Some, None}

-- c branches from depth t on: the deepest takes the first free cell
abbrev pub Names : (ℕ → ℕ) → ℕ → (ℕ → List ℕ) → ℕ → Type 0
Names b t free c = (u : ℕ) → u < c → b (t + u) ≡ cell_of (get_or (free 0) (c - suc u) 0)

pub Names-down : (b : ℕ → ℕ) (t : ℕ) (free : ℕ → List ℕ) (c : ℕ) → Names b t free (suc c) → Names b (suc t) free c
Names-down b t free c N u l =
    ap b (omega arith) ∙ N (suc u) (omega arith) ∙ ap (λ (i : ℕ). cell_of (get_or (free 0) i 0)) (omega arith)

pub Names-here : (b : ℕ → ℕ) (t : ℕ) (free : ℕ → List ℕ) (c : ℕ) → Names b t free (suc c) → b t ≡ cell_of (get_or (free 0) c 0)
Names-here b t free c N = ap b (omega arith) ∙ N 0 (omega arith) ∙ ap (λ (i : ℕ). cell_of (get_or (free 0) i 0)) (omega arith)

-- what the new path from depth t on comes to: c branches taken, and the node m in hand
abbrev pub Grafted : Shape → List ℕ → (ℕ → List ℕ) → ℕ → Node ℕ → ℕ → Wrote → Type 0
Grafted z a free c m t s = Made z a free (taking 0 c) s × Shows (columns z s.words) m t s.at

-- the leaf at its end takes nothing
pub leaf_Grafted : {z : Shape} {a : List ℕ} {free : ℕ → List ℕ} (m : Node ℕ) (t x : ℕ) → Local z (columns z a) (λ r. ind r x) free
    → Shows (columns z a) m t x → Grafted z a free 0 m t (wrote x a)
leaf_Grafted {z} {a} {free} m t x I h = (
  record {
    some = shown_some (columns z a) m t x h;
    kept = kept_refl z a;
    local = refree (none_taken free 0) I;
    grow = Grow-refl (columns z a);
    slots = slots_refl (columns z a);
  },
  h,
)

-- one more is taken
taking_one : (k p : ℕ) → taking k 1 p ≡ ind p k
taking_one k p =
    ⊎_elim
    (λ e. rw (eq-eqb p k e, ind_same p k (sym e)))
    (λ ne. rw (ne_eqb p k ne, ind_other p k (λ e. ne (sym e))))
    (eq? p k)

next_taken : (free : ℕ → List ℕ) (c p : ℕ) → left (taking 0 1) (left (taking 0 c) free) p ≡ left (taking 0 (suc c)) free p
next_taken free c p = ap (λ (n : ℕ). drop n (left (taking 0 c) free p)) (taking_one 0 p) ∙ one_taken free 0 c p

-- what is made after something made, of one cell more
Made-next : {z : Shape} {a : List ℕ} {free : ℕ → List ℕ} (c : ℕ) (s u : Wrote) → Made z a free (taking 0 c) s
    → Made z s.words (left (taking 0 c) free) (taking 0 1) u → Made z a free (taking 0 (suc c)) u
Made-next {free = free} c s u M N =
    record {
      some = N.some;
      kept = kept_trans M.kept N.kept;
      local = refree (next_taken free c) N.local;
      grow = Grow-trans M.grow N.grow;
      slots = slots_trans M.slots N.slots;
    }

-- ONE STEP UP: a branch with what was made below in place of a child, or beside the children
pub put-Grafted : {z : Shape} {a : List ℕ} {free : ℕ → List ℕ} {ks : Kids ℕ} (m : Node ℕ) (h t r c x : ℕ) (s : Wrote) → Lent z a
    → Grafted z a free c m (suc t) s → Seen z (columns z s.words) t r ks
    → t < z.depths → c < length (free 0) → x ≡ cell_of (get_or (free 0) c 0)
    → Grafted z a free (suc c) (branch x (put (segment z.bits t h) m ks)) t (below_put z h t r s)
unfolding child_put
put-Grafted {z} {a} {free} {ks} m h t r c x s l (M, shown) S deep room name =
    let next : left (taking 0 c) free 0 ≡ get_or (free 0) c 0 ∷ drop (suc c) (free 0) = next_free free 0 c room in
    let w = put_means (Kept-Lent M.kept l) t _ (segment z.bits t h) s.at x _ ks m M.local shown
    S.bits S.asc S.low (segment_in z l.allowed t h) S.row deep (rw next (omega arith)) (rw next name) in
    rw (then_on s (child_put z h t r) M.some) (Made-next c s _ M w.0, w.1)

-- ONE STEP DOWN
module _ (z : Shape) (h x : ℕ) (there : Bool) (n t r : ℕ) (a : List ℕ) where
  graft_stops : stops z there r ≡ true → graft_from z h x there (suc n) t r a ≡ wrote x a
  unfolding graft_from
  graft_stops e = rw e

  graft_Missing : stops z there r ≡ false → onward_in z (columns z a) h t r ≡ None
      → graft_from z h x there (suc n) t r a ≡ below_put z h t r (wrote x a)
  unfolding graft_from on_onward
  graft_Missing e o = rw (e, o)

  graft_found : stops z there r ≡ false → (c : ℕ) → onward_in z (columns z a) h t r ≡ Some c
      → graft_from z h x there (suc n) t r a ≡ below_put z h t r (graft_from z h x there n (suc t) c a)
  unfolding graft_from on_onward
  graft_found e c o = rw (e, o)

-- by the children that are seen
module _ {z : Shape} {a : List ℕ} {free : ℕ → List ℕ} (l : Lent z a) (h x : ℕ) (there : Bool) (n t r y : ℕ) (ks : Kids ℕ)
    (S : Seen z (columns z a) t r ks) (on : stops z there r ≡ false) (deep : t < z.depths) where
  missing-Grafted : (m : Node ℕ) → child (segment z.bits t h) ks ≡ missing → Local z (columns z a) (λ q. ind q x) free
      → Shows (columns z a) m (suc t) x → 0 < length (free 0) → y ≡ cell_of (get_or (free 0) 0 0)
      → Grafted z a free 1 (branch y (put (segment z.bits t h) m ks)) t (graft_from z h x there (suc n) t r a)
  missing-Grafted m q I shown room name =
      rw (graft_Missing z h x there n t r a on (onward_missing l.allowed h S q))
      (put-Grafted m h t r 0 y (wrote x a) l (leaf_Grafted m (suc t) x I shown) S deep room name)

  found-Grafted : (m m' : Node ℕ) (c : ℕ) → child (segment z.bits t h) ks ≡ found m → 0 < (columns z a).count r
      → c < length (free 0) → y ≡ cell_of (get_or (free 0) c 0)
      → ((q : ℕ) → Shows (columns z a) m (suc t) q → Grafted z a free c m' (suc t) (graft_from z h x there n (suc t) q a))
      → Grafted z a free (suc c) (branch y (put (segment z.bits t h) m' ks)) t (graft_from z h x there (suc n) t r a)
  found-Grafted m m' c q live room name inner =
      let (p, onward, shown) = onward_found l.allowed h S m q in
      let G = inner p shown in
      rw (graft_found z h x there n t r a on p onward)
      (put-Grafted m' h t r c y _ l G (Seen-kept G.0.grow live S) deep room name)

-- a chain that is not empty is a leaf at any depth
pub leaf_shown : (σ : State) (x : Item ℕ) (xs : List (Item ℕ)) (t r : ℕ) → ShowsChain σ (x ∷ xs) r → Shows σ (leaf (x ∷ xs)) t r
unfolding Shows
leaf_shown σ x xs t r h = h

-- THE NEW PATH IS THE TRIE'S INSERT
module _ {z : Shape} {a : List ℕ} {free : ℕ → List ℕ} (l : Lent z a) (b f : ℕ → ℕ) (e : Entry) (x : ℕ) (there : Bool) where
  pub graft_means : {n : ℕ} {path : List ℕ} {m m' : Node ℕ} (c : InsertCase (segment z.bits) Word64 b f e n path m m')
      → n + length path ≡ z.depths → Local z (columns z a) (λ r. ind r x) free
      → (r : ℕ) → Shows (columns z a) m (length path) r → ShowsChain (columns z a) (leaf_of c) x
      → there ≡ is_there (get_node (segment z.bits) n (length path) e.hash e.key m)
      → cost_of c ≤ length (free 0) → Names b (length path) free (cost_of c)
      → Made z a free (taking 0 (cost_of c)) (graft_from z e.hash x there n (length path) r a)
      × Shows (columns z (graft_from z e.hash x there n (length path) r a).words) m' (length path)
      (graft_from z e.hash x there n (length path) r a).at
  unfolding cost_of leaf_of
  graft_means {path = path} (in_chain xs) deep I r shown end is room names =
      unfold graft_from push_front in
      (leaf_Grafted (leaf (push_front f e xs)) (length path) x I (leaf_shown (columns z a) _ _ (length path) x end))
  graft_means (replaced {n = n} {path = path} y p) deep I r shown end is room names =
      let t : ℕ = length path in
      let yes : there ≡ true = is_there_lem y.entry.value is (met (segment z.bits) e (suc n) t y p) in
      rw (graft_stops z e.hash x there n t r a (stops_at z there r yes (single_named (words_Celled l) y t r shown).1))
      (leaf_Grafted _ t x I (leaf_shown (columns z a) _ _ t x end))
  graft_means (deeper {n = n} {path = path} {m = m} y p q i) deep I r shown end is room names =
      let t : ℕ = length path in
      let no : there ≡ false = is_absent is (missed (segment z.bits) e (suc n) t y p) in
      rw (← put_hit (segment z.bits t e.hash) (segment z.bits t y.entry.hash) m (leaf (y ∷ [])) none q)
      (found-Grafted l e.hash x there n t r (b t) _ (single_Seen (words_Celled l) y t r shown) (stops_never z there r no)
      (omega arith) (leaf (y ∷ [])) m (cost_of i) (child_hit _ _ (leaf (y ∷ [])) none q) (shown_live (columns z a) _ t r shown)
      (omega arith) (Names-here b t free (cost_of i) names)
      (λ o below.
      graft_means i (omega arith) I o below end
      (no ∙ sym (is_absent refl (missed (segment z.bits) e n (suc t) y p)))
      (omega arith) (Names-down b t free (cost_of i) names)))
  graft_means (apart {n = n} {path = path} y p q) deep I r shown end is room names =
      let t : ℕ = length path in
      let no : there ≡ false = is_absent is (missed (segment z.bits) e (suc n) t y p) in
      missing-Grafted l e.hash x there n t r (b t) _ (single_Seen (words_Celled l) y t r shown) (stops_never z there r no)
      (omega arith) (single f e) (child_only _ _ (leaf (y ∷ [])) q) I (leaf_shown (columns z a) _ _ (suc t) x end) room
      (Names-here b t free 0 names)
  graft_means (new_child {n = n} {path = path} c ks asc all q) deep I r shown end is room names =
      let t : ℕ = length path in
      missing-Grafted l e.hash x there n t r (b t) ks (branch-Seen (words_Celled l) n path c ks t r all shown)
      (stops_no_entry z there r (branch_named (words_Celled l) c ks t r shown).1) (omega arith)
      (single f e) q I (leaf_shown (columns z a) _ _ (suc t) x end) room (Names-here b t free 0 names)
  graft_means (in_child {n = n} {path = path} {m = m} {m' = m'} c ks asc all q i) deep I r shown end is room names =
      let t : ℕ = length path in
      found-Grafted l e.hash x there n t r (b t) ks (branch-Seen (words_Celled l) n path c ks t r all shown)
      (stops_no_entry z there r (branch_named (words_Celled l) c ks t r shown).1) (omega arith)
      m m' (cost_of i) q (shown_live (columns z a) _ t r shown) (omega arith) (Names-here b t free (cost_of i) names)
      (λ o below.
      graft_means i (omega arith) I o below end (rw (hop_found (segment z.bits) n t e.hash c ks m q) at is)
      (omega arith) (Names-down b t free (cost_of i) names))

  -- and at the empty map, whose root names nothing, one branch above the new entry
  pub graft_empty_means : (n : ℕ) → n ≡ z.depths → Local z (columns z a) (λ r. ind r x) free
      → ShowsChain (columns z a) (item (f 0) e ∷ []) x → 0 < length (free 0) → Names b 0 free 1
      → Made z a free (taking 0 1) (graft_from z e.hash x there n 0 0 a)
      × Shows (columns z (graft_from z e.hash x there n 0 0 a).words)
      (branch (b 0) (kid (segment z.bits 0 e.hash) (single f e) none)) 0
      (graft_from z e.hash x there n 0 0 a).at
  unfolding child put
  graft_empty_means zero deep I end room names = absurd (omega (arith, (row_is_Right z l.allowed).some_depths))
  graft_empty_means (suc n) deep I end room names =
      missing-Grafted l e.hash x there n 0 0 (b 0) none (none_seen z (columns z a) 0)
      (stops_no_entry z there 0 (none_entry z)) (omega arith)
      (single f e) refl I (leaf_shown (columns z a) _ _ 1 x end) room (Names-here b 0 free 0 names)
