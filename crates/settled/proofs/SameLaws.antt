-- Two sound arenas of one shape that hold the same editions, as the same named tries, agree in their slots and cells. A named trie
-- settles the reference that shows it and every word of the cells that are reached from there. What lives is reached, so the same
-- cells live in both, the others hold zeros, and then as many words name a cell in both.
use Prim.Native.Nat.{ℕ, zero, suc, ◌≤◌, ◌<◌}
use mathlib.Core.Path.{◌≡◌, sym, ap, ◌∙◌, subst}
use mathlib.Core.Logic.{◌⊎◌, inl, inr, ⊎_elim}
use mathlib.Core.List.{[], List, ◌∷◌}
use native.Mathlib.Omega.{arith}
use borrow.Author.Tests.{le-ltb}
use lib.ListN.{length}
use Rattle.cases.proofs.Cases.{eq?}
use Rattle.counts.specs.Counts.{ind, sum_to, times, among}
use Rattle.counts.proofs.CountLaws.{sum_ext, length-among}
use Rattle.layout.specs.declared.Shape.{Shape}
use Rattle.layout.specs.Layout.{kind_of}
use Rattle.layout.specs.Header.{Header}
use Rattle.layout.specs.Columns.{State, columns, refs, plains_of}
use Rattle.trie.specs.Trie.{Node, leaf, branch, Kids, none, kid, Map, empty, root}
use Rattle.arena.specs.Shows.{behind, ShowsChain, Shows, ShowsRow, ShowsMap}
use Rattle.arena.specs.Holds.{Holds}
use Rattle.arena.specs.Sound.{top, FreeSlot, HeldSlot, Reached, from_slot, from_cell, Sound}
use Rattle.arena.specs.Local.{occ, Local}
use Rattle.arena.proofs.RefLaws.{refs_none, refs_inside, entry_refs}
use Rattle.arena.proofs.Frames.{shown_live, SameSlot}
use Rattle.arena.proofs.Reach.{live_Reached}
use Rattle.arena.proofs.Shelved.{slots_in, Local-in}
use Rattle.settled.proofs.SameCells.{SameCells}

-- the node that a reference shows in both states
record Both (σ τ : State) (r : ℕ) : Type 0 where
  node : Node ℕ
  depth : ℕ
  here : Shows σ node depth r
  there : Shows τ node depth r

-- WHAT SHOWS THE SAME
module _ (σ τ : State) where
  one_reference : (n : Node ℕ) (t r q : ℕ) → Shows σ n t r → Shows τ n t q → q ≡ r
  unfolding Shows ShowsChain
  one_reference (leaf []) t r q h g = absurd h
  one_reference (leaf (x ∷ xs)) t r q h g = g.0 ∙ sym h.0
  one_reference (branch c ks) t r q h g = g.0 ∙ sym h.0

  -- two words: equal, and if they are not 0 they show the same node
  abbrev Same : ℕ → ℕ → Type 0
  Same r q = (q ≡ r) × ((r ≡ 0 → ⊥) → Both σ τ r)

  no_word : (r q : ℕ) → r ≡ 0 → q ≡ 0 → Same r q
  no_word r q e d = (d ∙ sym e, λ nz. absurd (nz e))

  node_Same : (n : Node ℕ) (t r q : ℕ) → Shows σ n t r → Shows τ n t q → Same r q
  node_Same n t r q h g =
      let e : q ≡ r = one_reference n t r q h g in
      (e, λ nz. record { node = n; depth = t; here = h; there = subst (λ (x : ℕ). Shows τ n t x) e g })

  map_same : (m : Map ℕ) (r q : ℕ) → ShowsMap σ m r → ShowsMap τ m q → Same r q
  unfolding ShowsMap
  map_same empty r q h g = no_word r q h g
  map_same (root n) r q h g = node_Same n 0 r q h g

  row_same : (ks : Kids ℕ) (t : ℕ) (f g : ℕ → ℕ) → ShowsRow σ ks t f → ShowsRow τ ks t g → (k : ℕ) → Same (f k) (g k)
  unfolding Shows
  row_same none t f g h w k = no_word (f k) (g k) (h k) (w k)
  row_same (kid s n ks) t f g h w zero = node_Same n (suc t) (f 0) (g 0) h.0 w.0
  row_same (kid s n ks) t f g h w (suc k) = row_same ks t (behind f) (behind g) h.1 w.1 k

-- where the words of a cell end
record Bounded (z : Shape) (σ : State) : Type 0 where
  no_kid : (r k : ℕ) → refs z r ≤ k → σ.kid r k ≡ 0
  no_plain : (r k : ℕ) → plains_of (kind_of r) ≤ k → σ.plain r k ≡ 0

-- a cell that shows the same has the same words
module _ (z : Shape) (σ τ : State) (A : Bounded z σ) (B : Bounded z τ) where
  mark_node : (n : Node ℕ) (t r : ℕ) → Shows σ n t r → Shows τ n t r → τ.mark r ≡ σ.mark r
  unfolding Shows ShowsChain
  mark_node (leaf []) t r h g = absurd h
  mark_node (leaf (x ∷ xs)) t r h g = g.2 ∙ sym h.2
  mark_node (branch c ks) t r h g = g.2 ∙ sym h.2

  plain_end : (r k : ℕ) → plains_of (kind_of r) ≤ k → τ.plain r k ≡ σ.plain r k
  plain_end r k l = B.no_plain r k l ∙ sym (A.no_plain r k l)

  plain_node : (n : Node ℕ) (t r : ℕ) → Shows σ n t r → Shows τ n t r → (k : ℕ) → τ.plain r k ≡ σ.plain r k
  unfolding Shows ShowsChain
  plain_node (leaf []) t r h g k = absurd h
  plain_node (leaf (x ∷ xs)) t r h g zero = g.4 ∙ sym h.4
  plain_node (leaf (x ∷ xs)) t r h g (suc zero) = g.5 ∙ sym h.5
  plain_node (leaf (x ∷ xs)) t r h g (suc (suc zero)) = g.6 ∙ sym h.6
  plain_node (leaf (x ∷ xs)) t r h g (suc (suc (suc k))) = plain_end r (suc (suc (suc k))) (omega (arith, h.0))
  plain_node (branch c ks) t r h g zero = g.3 ∙ sym h.3
  plain_node (branch c ks) t r h g (suc k) = plain_end r (suc k) (omega (arith, h.0))

  kid_node : (n : Node ℕ) (t r : ℕ) → Shows σ n t r → Shows τ n t r → (k : ℕ) → Same σ τ (σ.kid r k) (τ.kid r k)
  unfolding Shows ShowsChain
  kid_node (leaf []) t r h g k = absurd h
  kid_node (leaf (x ∷ [])) t r h g zero = no_word σ τ (σ.kid r 0) (τ.kid r 0) h.3 g.3
  kid_node (leaf (x ∷ (y ∷ ys))) t r h g zero = node_Same σ τ (leaf (y ∷ ys)) t (σ.kid r 0) (τ.kid r 0) h.3 g.3
  kid_node (leaf (x ∷ xs)) t r h g (suc k) =
      let l : refs z r ≤ suc k = omega (arith, entry_refs z r (omega (arith, h.0))) in
      no_word σ τ (σ.kid r (suc k)) (τ.kid r (suc k)) (A.no_kid r (suc k) l) (B.no_kid r (suc k) l)
  kid_node (branch c ks) t r h g k = row_same σ τ ks t (σ.kid r) (τ.kid r) h.5 g.5 k

  mark-Both : (r : ℕ) → Both σ τ r → τ.mark r ≡ σ.mark r
  mark-Both r p = mark_node p.node p.depth r p.here p.there

  plain-Both : (r k : ℕ) → Both σ τ r → τ.plain r k ≡ σ.plain r k
  plain-Both r k p = plain_node p.node p.depth r p.here p.there k

  kid-Both : (r k : ℕ) → Both σ τ r → Same σ τ (σ.kid r k) (τ.kid r k)
  kid-Both r k p = kid_node p.node p.depth r p.here p.there k

  Reached-Both : ((s : ℕ) → s < z.slots → (σ.root s ≡ 0 → ⊥) → Both σ τ (σ.root s)) → (r : ℕ) → Reached z σ r → Both σ τ r
  Reached-Both roots r (from_slot s l h nz) = roots s l nz
  Reached-Both roots r (from_cell q k w nz) = (kid-Both q k (Reached-Both roots q w)).1 nz

-- FREE CELLS. Where the counts agree, as many cells are in use.
free_length : {z : Shape} {σ : State} {H : ℕ → ℕ} {free : ℕ → List ℕ} → Local z σ H free
    → (p : ℕ) → sum_to (top z) (λ r. among (free p) r) ≡ length (free p)
free_length {z} {free = free} I p = length-among (top z) (free p) (λ r l. refs_inside z r (I.within p r l).0)

free_too : {z : Shape} {σ τ : State} {H K : ℕ → ℕ} {free gs : ℕ → List ℕ} → Local z σ H free → Local z τ K gs
    → (p r : ℕ) → τ.count r ≡ σ.count r → among (free p) r ≤ among (gs p) r
free_too {σ = σ} {τ = τ} {free = free} {gs = gs} I J p r e =
    ⊎_elim
    (λ n. omega arith)
    (λ ne.
    let w = I.within p r (omega arith) in
    let i : among (free p) r ≡ ind 0 (σ.count r)
    = ap (λ (k : ℕ). among (free k) r) (sym w.1) ∙ I.free_once r w.0 in
    let j : among (gs p) r ≡ ind 0 (τ.count r) = ap (λ (k : ℕ). among (gs k) r) (sym w.1) ∙ J.free_once r w.0 in
    omega (arith, i, j, ap (ind 0) e))
    (eq? (among (free p) r) 0)

used_same : {z : Shape} {σ τ : State} {H K : ℕ → ℕ} {free gs : ℕ → List ℕ} (I : Local z σ H free) (J : Local z τ K gs)
    → ((r : ℕ) → τ.count r ≡ σ.count r) → (p : ℕ) → τ.used p ≡ σ.used p
used_same {z} {free = free} {gs = gs} I J e p =
    omega (
      arith,
      I.used_ok p,
      J.used_ok p,
      free_length I p,
      free_length J p,
      sum_ext (top z) (λ r. among (free p) r) (λ r. among (gs p) r)
          (λ r l. omega (arith, free_too I J p r (e r), free_too J I p r (sym (e r)))),
    )

occ_same : (z : Shape) (σ τ : State) → ((s : ℕ) → s < z.slots → τ.root s ≡ σ.root s)
    → ((q k : ℕ) → τ.kid q k ≡ σ.kid q k) → (r : ℕ) → occ z τ r ≡ occ z σ r
occ_same z σ τ roots kids r =
    let slots : times z.slots τ.root r ≡ times z.slots σ.root r
    = sum_ext z.slots (λ s. ind r (τ.root s)) (λ s. ind r (σ.root s)) (λ s l. ap (ind r) (roots s l)) in
    let row : (q : ℕ) → times (refs z q) (τ.kid q) r ≡ times (refs z q) (σ.kid q) r
    = λ q. sum_ext (refs z q) (λ k. ind r (τ.kid q k)) (λ k. ind r (σ.kid q k)) (λ k l. ap (ind r) (kids q k)) in
    omega (
      arith,
      slots,
      sum_ext (top z) (λ q. times (refs z q) (τ.kid q) r) (λ q. times (refs z q) (σ.kid q) r) (λ q l. row q),
    )

-- ARENAS
ends_plain : (z : Shape) (a : List ℕ) (r k : ℕ) → plains_of (kind_of r) ≤ k → (columns z a).plain r k ≡ 0
ends_plain z a r k l = rw (le-ltb k (plains_of (kind_of r)) l)

-- a slot with the same words, whose root shows the same
abbrev SlotBoth : State → State → ℕ → Type 0
SlotBoth σ τ s = SameSlot σ τ s × ((σ.root s ≡ 0 → ⊥) → Both σ τ (σ.root s))

slot_both : (z : Shape) (a b : List ℕ) → ((i : ℕ) (m : Map ℕ) → Holds z a i m → Holds z b i m)
    → ((i : ℕ) (m : Map ℕ) → Holds z b i m → Holds z a i m) → (s : ℕ) → FreeSlot (columns z a) s ⊎ HeldSlot z (columns z a) s
    → FreeSlot (columns z b) s ⊎ HeldSlot z (columns z b) s → SlotBoth (columns z a) (columns z b) s
slot_both z a b to from s (inl f) (inl g) = (
  record {
    held_eq = g.not_held ∙ sym f.not_held;
    root_eq = g.no_root ∙ sym f.no_root;
    size_eq = g.no_size ∙ sym f.no_size;
  },
  λ nz. absurd (nz f.no_root),
)
slot_both z a b to from s (inl f) (inr k) =
    let E = from s k.map k.edition in absurd (omega (arith, E.held, f.not_held))
slot_both z a b to from s (inr h) k =
    let E = h.edition in
    let D = to s h.map E in
    let w = map_same (columns z a) (columns z b) h.map ((columns z a).root s) ((columns z b).root s) E.shows D.shows in
    (record { held_eq = D.held ∙ sym E.held; root_eq = w.0; size_eq = D.sized ∙ sym E.sized }, w.1)

ends_in : (a : List ℕ) → Sound a → (z : Shape) → Header a z → Bounded z (columns z a)
ends_in a s z h = record { no_kid = (Local-in a s z h).1.clip; no_plain = ends_plain z a }

module _ (a b : List ℕ) (sa : Sound a) (sb : Sound b) (z : Shape) (ha : Header a z) (hb : Header b z)
    (to : (i : ℕ) (m : Map ℕ) → Holds z a i m → Holds z b i m) (from : (i : ℕ) (m : Map ℕ) → Holds z b i m → Holds z a i m) where
  slots_both : (s : ℕ) → s < z.slots → SlotBoth (columns z a) (columns z b) s
  slots_both s l = slot_both z a b to from s (slots_in a sa z ha s l) (slots_in b sb z hb s l)

  live_both : (r : ℕ) → 0 < (columns z a).count r → Both (columns z a) (columns z b) r
  live_both r l =
      Reached-Both z (columns z a) (columns z b) (ends_in a sa z ha) (ends_in b sb z hb) (λ s m. (slots_both s m).1) r
      (live_Reached z (columns z a) (Local-in a sa z ha).0 (Local-in a sa z ha).1 r l)

pub same_cells : (a b : List ℕ) → Sound a → Sound b → (z : Shape) → Header a z → Header b z
    → ((i : ℕ) (m : Map ℕ) → Holds z a i m → Holds z b i m) → ((i : ℕ) (m : Map ℕ) → Holds z b i m → Holds z a i m)
    → SameCells z (columns z a) (columns z b)
same_cells a b sa sb z ha hb to from =
    let σ : State = columns z a in
    let τ : State = columns z b in
    let I = (Local-in a sa z ha).1 in
    let J = (Local-in b sb z hb).1 in
    let A : Bounded z σ = ends_in a sa z ha in
    let B : Bounded z τ = ends_in b sb z hb in
    let slot : (s : ℕ) → s < z.slots → SameSlot σ τ s = λ s l. (slots_both a b sa sb z ha hb to from s l).0 in
    let live : (r : ℕ) → 0 < σ.count r → Both σ τ r = live_both a b sa sb z ha hb to from in
    let back : (r : ℕ) → σ.count r ≡ 0 → τ.count r ≡ 0
    = λ r e.
    ⊎_elim
    (λ d. d)
    (λ ne.
    let p = live_both b a sb sa z hb ha from to r (omega arith) in
    absurd (omega (arith, shown_live σ p.node p.depth r p.there)))
    (eq? (τ.count r) 0) in
    let kids : (r k : ℕ) → τ.kid r k ≡ σ.kid r k
    = λ r k.
    ⊎_elim
    (λ e. J.rest r k (back r e) ∙ sym (I.rest r k e))
    (λ ne. (kid-Both z σ τ A B r k (live r (omega arith))).0)
    (eq? (σ.count r) 0) in
    let plains : (r k : ℕ) → τ.plain r k ≡ σ.plain r k
    = λ r k.
    ⊎_elim
    (λ e. J.blank r k (back r e) ∙ sym (I.blank r k e))
    (λ ne. plain-Both z σ τ A B r k (live r (omega arith)))
    (eq? (σ.count r) 0) in
    let counts : (r : ℕ) → τ.count r ≡ σ.count r
    = λ r.
    ⊎_elim
    (λ e. let n : refs z r ≡ 0 = ap (refs z) e ∙ refs_none z in J.out r n ∙ sym (I.out r n))
    (λ nz. omega (arith, I.exact r nz, J.exact r nz, occ_same z σ τ (λ s l. (slot s l).root_eq) kids r))
    (eq? r 0) in
    record {
      used_eq = used_same I J counts;
      held_eq = λ s l. (slot s l).held_eq;
      root_eq = λ s l. (slot s l).root_eq;
      size_eq = λ s l. (slot s l).size_eq;
      count_eq = λ r n. counts r;
      mark_eq = λ r n l. mark-Both z σ τ A B r (live r l);
      kid_eq = λ r k n. kids r k;
      plain_eq = λ r k n. plains r k;
    }
