-- On an edition the new path of a removal on the words is what the trie's own removal makes: at each branch the child on the path
-- is taken out where it was emptied, and else put back as what was made below.
use Rattle.std.proofs.Common.{◌≡◌, ℕ, zero, suc, ◌+◌, ◌≤◌, Bool, true, false, cond, eqb, List, [], ◌∷◌, length, Some, sym, refl, ◌∙◌, ⊎_elim, arith, eq-eqb, ne_eqb}
use Rattle.counts.specs.Counts.{ind}
use Rattle.counts.proofs.CountLaws.{ind_other}
use Rattle.segments.specs.Segments.{segment}
use Rattle.layout.specs.declared.Shape.{Shape}
use Rattle.layout.specs.Layout.{Lent}
use Rattle.layout.specs.Columns.{State, columns}
use Rattle.trie.specs.Entry.{Word64, got}
use Rattle.trie.specs.Trie.{Item, Node, leaf, Kids, chain, get_node, list_remove_first, is_empty, settle}
use Rattle.trie.proofs.KidsLaws.{all_child}
use Rattle.trie.proofs.PathLaws.{find_none, chain-leaf, hop_found, hop_missing}
use Rattle.trie.proofs.PathNames.{along-leaf}
use Rattle.trie.proofs.RemoveCanon.{Canon-full, remove_Left}
use Rattle.trie.proofs.RemoveCases.{lone, Pressed, stays, pressed, settle_empty, settle_full, RemoveCase, at_leaf, not_below, below}
use Rattle.arena.specs.Shows.{ShowsChain, Shows}
use Rattle.arena.specs.Local.{Local}
use Rattle.arena.proofs.LocalLaws.{rehand}
use Rattle.arena.proofs.Frames.{shown_live}
use Rattle.lookup.specs.Lookup.{names_kind}
use Rattle.cells.specs.Mirrors.{wrote}
use Rattle.grafts.specs.Grafts.{onward_in, on_onward}
use Rattle.grafts.proofs.Meaning.{Names, Grafted, leaf_Grafted, leaf_shown}
use Rattle.grafts.proofs.SeenLaws.{Celled, words_Celled, branch_named, branch-Seen, Seen-kept, onward_found}
use Rattle.prunes.specs.Prunes.{below_settled, child_cut, is_emptied, prune_from}
use Rattle.prunes.proofs.LeftLaws.{leaf_named}
use Rattle.prunes.proofs.SettledLaws.{settle_means, cut_means}
use Rattle.prunes.proofs.StepMeaning.{left_on, settled_room, settled-Names}

-- ONE STEP DOWN
module _ (z : Shape) (h x n t r : ℕ) (a : List ℕ) where
  prune_entry : names_kind z 1 r ≡ true → prune_from z h x (suc n) t r a ≡ wrote x a
  unfolding prune_from
  prune_entry e = rw e

  prune_cut : names_kind z 1 r ≡ false → (c : ℕ) → onward_in z (columns z a) h t r ≡ Some c → is_emptied z x n c ≡ true
      → prune_from z h x (suc n) t r a ≡ child_cut z h t r a
  unfolding prune_from on_onward
  prune_cut e c o y = rw (e, o, y)

  prune_settle : names_kind z 1 r ≡ false → (c : ℕ) → onward_in z (columns z a) h t r ≡ Some c → is_emptied z x n c ≡ false
      → prune_from z h x (suc n) t r a ≡ below_settled z h t r (prune_from z h x n (suc t) c a)
  unfolding prune_from on_onward
  prune_settle e c o y = rw (e, o, y)

prune_leaf : (z : Shape) (h x n t r : ℕ) (a : List ℕ) → names_kind z 1 r ≡ true → prune_from z h x n t r a ≡ wrote x a
prune_leaf z h x zero t r a e = unfold prune_from in refl
prune_leaf z h x (suc n) t r a e = prune_entry z h x n t r a e

-- THE CHILD THAT IS EMPTIED: an entry, of whose chain nothing is left
either : (b o : Bool) → cond b o o ≡ o
either true o = refl
either false o = refl

module _ (z : Shape) (x n c : ℕ) where
  emptied_is : x ≡ 0 → names_kind z 1 c ≡ true → is_emptied z x n c ≡ true
  unfolding is_emptied
  emptied_is e y = rw (eq-eqb x 0 e, y) (either (eqb n 0) true)

  emptied_not : (x ≡ 0 → ⊥) → is_emptied z x n c ≡ false
  unfolding is_emptied
  emptied_not ne = rw (ne_eqb x 0 ne)

emptied_branch : (z : Shape) (x n c : ℕ) → names_kind z 1 c ≡ false → is_emptied z x (suc n) c ≡ false
unfolding is_emptied
emptied_branch z x n c e = rw (e, ne_eqb (suc n) 0 (λ e. omega arith)) (either (eqb x 0) false)

-- what compress makes is no empty leaf
press_full : {X : Type 0} (c : X) (ks : Kids X) (m : Node X) → Pressed c ks m → m ≡ leaf [] → ⊥
press_full c ks m (lone s y) e = let n : ◌≡◌ {A = ℕ} 0 1 = cc in omega arith
press_full c ks m (stays is) e = let n : ◌≡◌ {A = ℕ} 0 1 = cc in omega arith

-- 0 is all that shows an empty chain, and shows no other
none_left : (σ : State) (x : ℕ) → ShowsChain σ [] x → x ≡ 0
unfolding ShowsChain
none_left σ x shown = shown

full_some : (σ : State) (xs : List (Item ℕ)) (x : ℕ) → is_empty (leaf xs) ≡ false → ShowsChain σ xs x → x ≡ 0 → ⊥
unfolding is_empty ShowsChain
full_some σ [] x full shown e = let n : ◌≡◌ {A = ℕ} 0 1 = cc in omega arith
full_some σ (y ∷ ys) x full shown e = omega (arith, shown.0)

full_shown : (σ : State) (xs : List (Item ℕ)) (t x : ℕ) → is_empty (leaf xs) ≡ false → ShowsChain σ xs x → Shows σ (leaf xs) t x
unfolding is_empty
full_shown σ [] t x full shown = let n : ◌≡◌ {A = ℕ} 0 1 = cc in absurd (omega arith)
full_shown σ (y ∷ ys) t x full shown = leaf_shown σ y ys t x shown

module _ {z : Shape} {σ : State} (C : Celled z σ) (b f : ℕ → ℕ) (h k x p : ℕ) where
  -- the chain that is left at the end of the path
  abbrev Ends : ℕ → ℕ → Node ℕ → Type 0
  Ends n t m = ShowsChain σ (list_remove_first f 0 h k (chain (segment z.bits) n t h m)) x

  emptied_at : {n : ℕ} {path : List ℕ} {m m' : Node ℕ} → RemoveCase (segment z.bits) Word64 b f h k n path m m'
      → m' ≡ leaf [] → Shows σ m (length path) p → Ends n (length path) m → (x ≡ 0) × (names_kind z 1 p ≡ true)
  emptied_at {n} {path} (at_leaf xs) e shown end =
      let none : list_remove_first f 0 h k xs ≡ [] = cc in
      let over = rw (chain-leaf (segment z.bits) n (length path) h xs, none) at end in
      (none_left σ x over, leaf_named C xs (length path) p shown)
  emptied_at (not_below c ks asc all q) e shown end = let n : ◌≡◌ {A = ℕ} 0 1 = cc in absurd (omega arith)
  emptied_at (below {path = path} {m' = m'} c ks asc all q i) e shown end =
      let s = segment z.bits (length path) h in
      absurd (press_full (b (length path)) (settle s ks m') _ (pressed (b (length path)) (settle s ks m')) e)

  not_emptied : {n : ℕ} {path : List ℕ} {m m' : Node ℕ} → RemoveCase (segment z.bits) Word64 b f h k n path m m'
      → is_empty m' ≡ false → Shows σ m (length path) p → Ends n (length path) m → is_emptied z x n p ≡ false
  not_emptied {n} {path} (at_leaf xs) full shown end =
      emptied_not z x n p
      (full_some σ (list_remove_first f 0 h k xs) x full (rw (chain-leaf (segment z.bits) n (length path) h xs) at end))
  not_emptied (not_below {n = n} {path = path} c ks asc all q) full shown end =
      emptied_branch z x n p (branch_named C c ks (length path) p shown).1
  not_emptied (below {n = n} {path = path} c ks asc all q i) full shown end =
      emptied_branch z x n p (branch_named C c ks (length path) p shown).1

-- nothing is in hand
none_in_hand : {z : Shape} {σ : State} {free : ℕ → List ℕ} (x : ℕ) → x ≡ 0 → Local z σ (λ r. ind r x) free
    → Local z σ (λ r. 0) free
none_in_hand x e I = rehand _ (λ r nz. ind_other r x (λ y. nz (sym y ∙ e))) I

-- THE NEW PATH IS THE TRIE'S REMOVAL
module _ {z : Shape} {a : List ℕ} {free : ℕ → List ℕ} (l : Lent z a) (b f : ℕ → ℕ) (h k v x : ℕ)
    (I : Local z (columns z a) (λ r. ind r x) free) where
  pub prune_means : {n : ℕ} {path : List ℕ} {m m' : Node ℕ} (c : RemoveCase (segment z.bits) Word64 b f h k n path m m')
      → n + length path ≡ z.depths → get_node (segment z.bits) n (length path) h k m ≡ got v
      → (r : ℕ) → Shows (columns z a) m (length path) r
      → ShowsChain (columns z a) (list_remove_first f 0 h k (chain (segment z.bits) n (length path) h m)) x
      → is_empty m' ≡ false
      → left_on z n (length path) h m' ≤ length (free 0) → Names b (length path) free (left_on z n (length path) h m')
      → Grafted z a free (left_on z n (length path) h m') m' (length path) (prune_from z h x n (length path) r a)
  prune_means {n} {path} (at_leaf xs) deep g r shown end full room names =
      let t : ℕ = length path in
      let seg = segment z.bits in
      let ys = list_remove_first f 0 h k xs in
      rw (prune_leaf z h x n t r a (leaf_named (words_Celled l) xs t r shown), along-leaf seg (λ (c : ℕ). 1) n t h ys)
      (leaf_Grafted (leaf ys) t x I (full_shown (columns z a) ys t x full (rw (chain-leaf seg n t h xs) at end)))
  prune_means (not_below {n = n} {path = path} c ks asc all q) deep g r shown end full room names =
      let y : ◌≡◌ {A = ℕ} 0 1 = cc (find_none ℕ h k, hop_missing (segment z.bits) n (length path) h c ks q) in
      absurd (omega arith)
  prune_means (below {n = n} {path = path} {m = m} {m' = m'} c ks asc all q i) deep g r shown end full room names =
      let t : ℕ = length path in
      let seg = segment z.bits in
      let C = words_Celled l in
      let S = branch-Seen C n path c ks t r all shown in
      let on = (branch_named C c ks t r shown).1 in
      let (p, onward, there) = onward_found l.allowed h S m q in
      let hop = hop_found seg n t h c ks m q in
      let ends = rw hop at end in
      ⊎_elim
      (λ gone.
      let (e, y) = emptied_at C b f h k x p i gone.0 there ends in
      let out = settle_empty (seg t h) ks m' (rw gone.0 (unfold is_empty in refl)) in
      rw (out, prune_cut z h x n t r a on p onward (emptied_is z x n p e y))
      (cut_means b m h n t r l (none_in_hand x e I) S q (omega arith) (rw out at room) (rw out at names)))
      (λ canon.
      let some = Canon-full seg Word64 n (seg t h ∷ path) m' canon in
      let back = settle_full (seg t h) ks m' some in
      let room' = rw back at room in
      let names' = rw back at names in
      let G = prune_means i (omega arith) (rw hop at g) p there ends some
      (omega (arith, settled_room z b h n t m' ks)) (settled-Names z b h n t m' ks free names') in
      rw (back, prune_settle z h x n t r a on p onward (not_emptied C b f h k x p i some there ends))
      (settle_means b m' m h n t r _ l G (Seen-kept G.0.grow (shown_live (columns z a) _ t r shown) S) q (omega arith)
      room' names'))
      (remove_Left seg Word64 b f h k i (all_child _ (seg t h) ks m all q))
