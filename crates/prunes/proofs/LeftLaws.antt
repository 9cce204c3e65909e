-- What the reading pass says will be left on a removal's path is what the trie's own removal leaves, with as many branches on
-- it: at each branch by the children that are seen, and by what is left of the one on the path.
use Rattle.std.proofs.Common.{◌≡◌, ℕ, zero, suc, ◌+◌, ◌-◌, ◌*◌, ◌≤◌, Bool, true, false, cond, List, [], ◌∷◌, length, sym, refl, ap, ◌∙◌, inl, inr, mul-le-mul, arith}
use Rattle.segments.specs.Segments.{segment}
use Rattle.layout.specs.declared.Shape.{Shape}
use Rattle.layout.specs.Layout.{Allowed}
use Rattle.layout.specs.Columns.{State}
use Rattle.layout.proofs.SizeLaws.{row_is_Right}
use Rattle.trie.specs.Canon.{Some}
use Rattle.trie.specs.Cells.{along}
use Rattle.trie.specs.Entry.{Word64, got}
use Rattle.trie.specs.Trie.{Item, Node, leaf, branch, Kids, none, kid, found, child, put, take_out, chain, get_node, list_remove_first, is_empty, is_single, settle, compress}
use Rattle.trie.proofs.KidsLaws.{Some-put, all_child}
use Rattle.trie.proofs.PathLaws.{find_none, chain-leaf, hop_found, hop_missing}
use Rattle.trie.proofs.PathNames.{along-leaf, along_most}
use Rattle.trie.proofs.RemoveCanon.{Left, Canon-full, remove_Left}
use Rattle.trie.proofs.RemoveCases.{lone, Pressed, stays, pressed, settle_empty, settle_full, RemoveCase, at_leaf, not_below, below}
use Rattle.trie.proofs.RemoveNames.{settle-along}
use Rattle.arena.specs.Shows.{Shows, ShowsChain}
use Rattle.lookup.specs.Lookup.{names_kind}
use Rattle.lookup.proofs.FindLaws.{kind_is}
use Rattle.cells.proofs.TakeLaws.{more_some}
use Rattle.grafts.specs.Grafts.{onward_in, on_onward}
use Rattle.grafts.proofs.SeenLaws.{Seen, Celled, branch_named, branch-Seen, onward_found}
use Rattle.prunes.specs.declared.Left.{Left as Rest}
use Rattle.prunes.specs.declared.Left.TheVariants.{Nothing, Single, More}
use Rattle.prunes.specs.Prunes.{left_of_chain, left_of_cut, left_of_settled, left_from}
use Rattle.prunes.proofs.SingleLaws.{few_kids, lone_kids, only_is, few_put, lone_is, empty_is}
use Rattle.prunes.proofs.SingleLeft.{single_kept}
use Rattle.prunes.proofs.StepMeaning.{left_on}
use Rattle.std.specs.Prelude.{Some as Just}

-- what is left where a node is left, with so many branches on the path
unfoldable pub left_of : ℕ → Node ℕ → Rest
left_of c (leaf []) = Nothing
left_of c (leaf (x ∷ [])) = Single
left_of c (leaf (x ∷ (y ∷ xs))) = More c
left_of c (branch d none) = Nothing
left_of c (branch d (kid i m ks)) = More c

chain_left : (xs : List (Item ℕ)) → left_of_chain (length xs) ≡ left_of 0 (leaf xs)
unfolding left_of_chain left_of
chain_left [] = refl
chain_left (x ∷ []) = refl
chain_left (x ∷ (y ∷ xs)) = refl

-- a branch that was compressed: its count matters only where it stays
press_left : (seg : ℕ → ℕ → ℕ) (n t h c x : ℕ) (ks : Kids ℕ) (m : Node ℕ) → Pressed x ks m
    → along seg (λ c. 1) (suc n) t h (branch x ks) ≡ c → left_of (along seg (λ c. 1) (suc n) t h m) m ≡ left_of c m
press_left seg n t h c x ks m (lone s y) e = unfold left_of in refl
press_left seg n t h c x ks m (stays is) e = ap (λ (i : ℕ). left_of i (branch x is)) e

compress_left : (c x : ℕ) (ks : Kids ℕ)
    → cond (is_empty (branch x ks)) Nothing (cond (lone_kids ks) Single (More c)) ≡ left_of c (compress x ks)
unfolding left_of compress lone_kids is_empty is_single
compress_left c x none = refl
compress_left c x (kid i (leaf []) none) = refl
compress_left c x (kid i (leaf (y ∷ [])) none) = refl
compress_left c x (kid i (leaf (y ∷ (w ∷ ys))) none) = refl
compress_left c x (kid i (branch d ks) none) = refl
compress_left c x (kid i m (kid j n ks)) = refl

Some-full : {X : Type 0} (x : X) (ks : Kids X) → Some ks → is_empty (branch x ks) ≡ false
unfolding Some is_empty
Some-full x none s = absurd s
Some-full x (kid i m ks) s = refl

-- ONE STEP UP, by the children that are seen
module _ {z : Shape} {σ : State} {t r : ℕ} {ks : Kids ℕ} (C : Celled z σ) (h : ℕ) (S : Seen z σ t r ks) (old : Node ℕ)
    (q : child (segment z.bits t h) ks ≡ found old) (x : ℕ) where
  -- the child on the path is emptied
  cut_left : left_of_settled z σ h t r Nothing ≡ left_of 1 (compress x (take_out (segment z.bits t h) ks))
  unfolding left_of_settled left_of_cut
  cut_left =
      let s = segment z.bits t h in
      rw (S.bits, empty_is S s old q x, lone_is S s old q C) (compress_left 1 x (take_out s ks))

  -- or put back
  kept_left : (m : Node ℕ) (c : ℕ) → cond (cond (few_kids ks) (is_single m) false) Single (More c)
      ≡ left_of c (compress x (put (segment z.bits t h) m ks))
  kept_left m c =
      let s = segment z.bits t h in
      rw (← compress_left c x (put s m ks), Some-full x (put s m ks) (Some-put s m ks), few_put s m old ks q)

  Single-left : (y : Item ℕ)
      → left_of_settled z σ h t r Single ≡ left_of 1 (compress x (put (segment z.bits t h) (leaf (y ∷ [])) ks))
  unfolding left_of_settled is_single
  Single-left y = rw (only_is S) (single_kept (few_kids ks) ∙ kept_left (leaf (y ∷ [])) 1)

  more_left : (m : Node ℕ) (c : ℕ) → is_single m ≡ false → c ≤ 64
      → left_of_settled z σ h t r (More c) ≡ left_of (suc c) (compress x (put (segment z.bits t h) m ks))
  unfolding left_of_settled
  more_left m c big few =
      ap More (more_some c (omega arith) ∙ omega arith) ∙ more_kept (few_kids ks) ∙ kept_left m (suc c)
    where
      more_kept : (few : Bool) → More (suc c) ≡ cond (cond few (is_single m) false) Single (More (suc c))
      more_kept true = rw big
      more_kept false = refl

  put_left : (m : Node ℕ) (n : ℕ) → is_empty m ≡ false → left_on z n (suc t) h m ≤ 64
      → left_of_settled z σ h t r (left_of (left_on z n (suc t) h m) m)
      ≡ left_of (suc (left_on z n (suc t) h m)) (compress x (put (segment z.bits t h) m ks))
  unfolding left_of is_empty is_single
  put_left (leaf []) n full few = let e : ◌≡◌ {A = ℕ} 0 1 = cc in absurd (omega arith)
  put_left (leaf (y ∷ [])) n full few =
      rw (along-leaf (segment z.bits) (λ (c : ℕ). 1) n (suc t) h (y ∷ [])) (Single-left y)
  put_left (leaf (y ∷ (w ∷ ys))) n full few = more_left (leaf (y ∷ (w ∷ ys))) _ refl few
  put_left (branch d none) n full few = let e : ◌≡◌ {A = ℕ} 0 1 = cc in absurd (omega arith)
  put_left (branch d (kid i m is)) n full few = more_left (branch d (kid i m is)) _ refl few

  left_of_settled_lem : (n : ℕ) (path : List ℕ) (m : Node ℕ) → Left (segment z.bits) Word64 n path old m → left_on z n (suc t) h m ≤ 64
      → left_of_settled z σ h t r (left_of (left_on z n (suc t) h m) m)
      ≡ left_of (suc (left_on z n (suc t) h m)) (compress x (settle (segment z.bits t h) ks m))
  left_of_settled_lem n path m (inl (e, small)) few =
      let s = segment z.bits t h in
      rw (
        e,
        settle_empty s ks (leaf []) (unfold is_empty in refl),
        along-leaf (segment z.bits) (λ (c : ℕ). 1) n (suc t) h [],
      )
      (unfold left_of in cut_left)
  left_of_settled_lem n path m (inr canon) few =
      let s = segment z.bits t h in
      let full = Canon-full (segment z.bits) Word64 n path m canon in
      rw (settle_full s ks m full) (put_left m n full few)

-- ONE STEP DOWN: a chain, or the child that the path goes on to
module _ (z : Shape) (σ : State) (h l n t r : ℕ) where
  left_entry : names_kind z 1 r ≡ true → left_from z σ h l (suc n) t r ≡ left_of_chain l
  unfolding left_from
  left_entry e = rw e

  left_found : names_kind z 1 r ≡ false → (c : ℕ) → onward_in z σ h t r ≡ Just c
      → left_from z σ h l (suc n) t r ≡ left_of_settled z σ h t r (left_from z σ h l n (suc t) c)
  unfolding left_from on_onward
  left_found e c o = rw (e, o)

-- a leaf that is shown is an entry
pub leaf_named : {z : Shape} {σ : State} → Celled z σ → (xs : List (Item ℕ)) (t r : ℕ) → Shows σ (leaf xs) t r
    → names_kind z 1 r ≡ true
unfolding Shows ShowsChain
leaf_named C [] t r shown = absurd shown
leaf_named {z} C (x ∷ xs) t r shown = kind_is z 1 r (C.named r shown.1) (omega (arith, shown.0))

left_leaf : {z : Shape} {σ : State} → Celled z σ → (h n t r l : ℕ) (xs : List (Item ℕ)) → Shows σ (leaf xs) t r
    → left_from z σ h l n t r ≡ left_of_chain l
left_leaf C h zero t r l xs shown = unfold left_from in refl
left_leaf {z} {σ} C h (suc n) t r l xs shown = left_entry z σ h l n t r (leaf_named C xs t r shown)

-- no shape has more depths than a hash has bits
few_depths : (z : Shape) → Allowed z → z.depths ≤ 64
few_depths z w =
    let k = row_is_Right z w in
    let same : z.depths - 1 ≤ z.depths - 1 = omega arith in
    let many : (z.depths - 1) * 1 ≤ (z.depths - 1) * z.bits = mul-le-mul same k.some_bits in
    omega (arith, k.covers, k.some_last, many)

-- WHAT IS LEFT IS WHAT THE TRIE LEAVES
module _ {z : Shape} {σ : State} (C : Celled z σ) (b f : ℕ → ℕ) (h k v : ℕ) where
  pub left_means : {n : ℕ} {path : List ℕ} {m m' : Node ℕ} (c : RemoveCase (segment z.bits) Word64 b f h k n path m m')
      → n + length path ≡ z.depths → get_node (segment z.bits) n (length path) h k m ≡ got v
      → (r : ℕ) → Shows σ m (length path) r
      → (l : ℕ) → l ≡ length (list_remove_first f 0 h k (chain (segment z.bits) n (length path) h m))
      → left_from z σ h l n (length path) r ≡ left_of (left_on z n (length path) h m') m'
  left_means {n} {path} (at_leaf xs) deep g r shown l e =
      let t : ℕ = length path in
      let seg = segment z.bits in
      rw (along-leaf seg (λ (c : ℕ). 1) n t h (list_remove_first f 0 h k xs))
      (left_leaf C h n t r l xs shown
      ∙ ap left_of_chain (rw (chain-leaf seg n t h xs) at e)
      ∙ chain_left (list_remove_first f 0 h k xs))
  left_means (not_below {n = n} {path = path} c ks asc all q) deep g r shown l e =
      let y : ◌≡◌ {A = ℕ} 0 1 = cc (find_none ℕ h k, hop_missing (segment z.bits) n (length path) h c ks q) in
      absurd (omega arith)
  left_means (below {n = n} {path = path} {m = m} {m' = m'} c ks asc all q i) deep g r shown l e =
      let t : ℕ = length path in
      let seg = segment z.bits in
      let S = branch-Seen C n path c ks t r all shown in
      let (p, onward, there) = onward_found C.allowed h S m q in
      let hop = hop_found seg n t h c ks m q in
      let rest : Left seg Word64 n (seg t h ∷ path) m m' = remove_Left seg Word64 b f h k i (all_child _ (seg t h) ks m all q) in
      left_found z σ h l n t r (branch_named C c ks t r shown).1 p onward
      ∙ ap (left_of_settled z σ h t r) (left_means i (omega arith) (rw hop at g) p there l (rw hop at e))
      ∙ left_of_settled_lem C h S m q (b t) n (seg t h ∷ path) m' rest
      (omega (arith, along_most seg n (suc t) h m', few_depths z C.allowed))
      ∙ sym (press_left seg n t h _ (b t) (settle (seg t h) ks m') _ (pressed (b t) (settle (seg t h) ks m'))
      (omega (arith, settle-along seg Word64 (λ (c : ℕ). 1) n t h (seg t h ∷ path) (b t) m' m ks asc rest)))
