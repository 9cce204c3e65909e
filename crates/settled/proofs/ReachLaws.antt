-- The cells that are reached are those that stand in a held edition: what a reached cell names stands in what it shows, and what
-- stands in a shown node is named from above, word by word.
use Prim.Native.Nat.{ℕ, zero, suc, ◌+◌, ◌≤◌, ◌<◌}
use mathlib.Core.Path.{◌≡◌, sym, ◌∙◌, subst}
use mathlib.Core.Logic.{◌↔◌, ⊎_elim}
use mathlib.Core.List.{[], List, ◌∷◌}
use native.Mathlib.Omega.{arith}
use Rattle.cases.proofs.Cases.{eq?}
use Rattle.counts.specs.Counts.{ind}
use Rattle.counts.proofs.CountLaws.{ind_same, ind_pos}
use Rattle.layout.specs.declared.Shape.{Shape}
use Rattle.layout.specs.Layout.{reference}
use Rattle.layout.specs.Header.{Header}
use Rattle.layout.specs.Columns.{State, columns, refs}
use Rattle.trie.specs.Trie.{Node, leaf, branch, Kids, none, kid, Item, Map, empty, root}
use Rattle.trie.specs.Names.{cells, total, on_map}
use Rattle.arena.specs.Shows.{behind, ShowsChain, Shows, ShowsRow, ShowsMap, Edition}
use Rattle.arena.specs.Sound.{Reached, from_slot, from_cell, HeldSlot, Sound}
use Rattle.arena.proofs.RefLaws.{entry_refs}
use Rattle.arena.proofs.Frames.{shown_some}
use Rattle.arena.proofs.Few.{in_chain, in_node, in_kids}
use Rattle.arena.proofs.Equivalent.{held_slot_lem}
use Rattle.arena.proofs.Shelved.{slots_in, Local-in}
use Rattle.settled.specs.Cost.{stands, CellOf}

-- WHAT STANDS IN A HELD EDITION IS REACHED
module _ (z : Shape) (σ : State) (r : ℕ) where
  -- the name q of a cell that is reached is r, or r stands further down
  here_or_below : (q x below : ℕ) → q ≡ x → Reached z σ q → 0 < ind r x + below → (0 < below → Reached z σ r) → Reached z σ r
  here_or_below q x below e w l further =
      ⊎_elim (λ o. further (omega arith)) (λ ne. subst (λ (y : ℕ). Reached z σ y) (e ∙ ind_pos r x (omega arith)) w)
      (eq? (ind r x) 0)

  chain_Reached : (xs : List (Item ℕ)) (q : ℕ) → ShowsChain σ xs q → ((q ≡ 0 → ⊥) → Reached z σ q) → 0 < in_chain r xs
      → Reached z σ r
  unfolding ShowsChain cells
  chain_Reached [] q h w l = absurd (omega arith)
  chain_Reached (x ∷ xs) q h w l =
      let reached = w (λ e. omega (arith, h.0)) in
      here_or_below q (reference 1 x.cell) (in_chain r xs) h.0 reached l
      (chain_Reached xs (σ.kid q 0) h.3 (from_cell q 0 reached))

  mutual
    unfolding Shows total

    node_Reached : (n : Node ℕ) (t q : ℕ) → Shows σ n t q → Reached z σ q → 0 < in_node r n → Reached z σ r
    node_Reached (leaf []) t q h w l = absurd h
    node_Reached (leaf (x ∷ xs)) t q h w l = chain_Reached (x ∷ xs) q h (λ nz. w) l
    node_Reached (branch c ks) t q h w l =
        here_or_below q (reference 0 c) (in_kids r ks) h.0 w l
        (λ o. kids_Reached ks t (σ.kid q) h.5 (λ k. from_cell q k w) o)

    kids_Reached : (ks : Kids ℕ) (t : ℕ) (f : ℕ → ℕ) → ShowsRow σ ks t f → ((k : ℕ) → (f k ≡ 0 → ⊥) → Reached z σ (f k))
        → 0 < in_kids r ks → Reached z σ r
    kids_Reached none t f h w l = absurd (omega arith)
    kids_Reached (kid s n ks) t f h w l =
        ⊎_elim
        (λ o. kids_Reached ks t (behind f) h.1 (λ k. w (suc k)) (omega arith))
        (λ ne. node_Reached n (suc t) (f 0) h.0 (w 0 (shown_some σ n (suc t) (f 0) h.0)) (omega arith))
        (eq? (in_node r n) 0)

  map_Reached : (m : Map ℕ) (q : ℕ) → ShowsMap σ m q → ((q ≡ 0 → ⊥) → Reached z σ q) → 0 < stands r m → Reached z σ r
  unfolding ShowsMap on_map
  map_Reached empty q h w l = absurd (omega arith)
  map_Reached (root n) q h w l = node_Reached n 0 q h (w (shown_some σ n 0 q h)) l

-- WHAT IS REACHED STANDS IN A HELD EDITION
shown_stands : (σ : State) (n : Node ℕ) (t r : ℕ) → Shows σ n t r → 0 < in_node r n
unfolding Shows ShowsChain total cells
shown_stands σ (leaf []) t r h = absurd h
shown_stands σ (leaf (x ∷ xs)) t r h = omega (arith, ind_same r (reference 1 x.cell) (sym h.0))
shown_stands σ (branch c ks) t r h = omega (arith, ind_same r (reference 0 c) (sym h.0))

-- a node that r shows and that is a part: each cell stands in the whole as often at least
abbrev Part : State → (ℕ → ℕ) → ℕ → Type 0
Part σ whole r = (n : Node ℕ) × (t : ℕ) × Shows σ n t r × ((q : ℕ) → in_node q n ≤ whole q)

root_Part : (σ : State) (m : Map ℕ) (r : ℕ) → ShowsMap σ m r → (r ≡ 0 → ⊥) → Part σ (λ q. stands q m) r
unfolding ShowsMap on_map
root_Part σ empty r h nz = absurd (nz h)
root_Part σ (root n) r h nz = (n, 0, h, λ q. omega arith)

row_Part : (σ : State) (ks : Kids ℕ) (t : ℕ) (f : ℕ → ℕ) → ShowsRow σ ks t f → (k : ℕ) → (f k ≡ 0 → ⊥)
    → Part σ (λ q. in_kids q ks) (f k)
unfolding Shows total
row_Part σ none t f h k nz = absurd (nz (h k))
row_Part σ (kid s n ks) t f h zero nz = (n, suc t, h.0, λ q. omega arith)
row_Part σ (kid s n ks) t f h (suc k) nz =
    let (m, u, shows, le) = row_Part σ ks t (behind f) h.1 k nz in (m, u, shows, λ q. omega (arith, le q))

module _ (z : Shape) (σ : State) (clip : (q k : ℕ) → refs z q ≤ k → σ.kid q k ≡ 0) where
  kid-Part : (n : Node ℕ) (t r k : ℕ) → Shows σ n t r → (σ.kid r k ≡ 0 → ⊥) → Part σ (λ q. in_node q n) (σ.kid r k)
  unfolding Shows ShowsChain total cells
  kid-Part (leaf []) t r k h nz = absurd h
  kid-Part (leaf (x ∷ [])) t r zero h nz = absurd (nz h.3)
  kid-Part (leaf (x ∷ (y ∷ ys))) t r zero h nz = (leaf (y ∷ ys), t, h.3, λ q. omega arith)
  kid-Part (leaf (x ∷ xs)) t r (suc k) h nz = absurd (nz (clip r (suc k) (omega (arith, entry_refs z r (omega (arith, h.0))))))
  kid-Part (branch c ks) t r k h nz =
      let (m, u, shows, le) = row_Part σ ks t (σ.kid r) h.5 k nz in (m, u, shows, λ q. omega (arith, le q))

  module _ (held : (s : ℕ) → s < z.slots → σ.held s ≡ 1 → HeldSlot z σ s) where
    Reached-Part : (r : ℕ) → Reached z σ r → (e : ℕ) × (m : Map ℕ) × Edition z σ e m × Part σ (λ q. stands q m) r
    Reached-Part r (from_slot s l h nz) =
        let k = held s l h in (s, k.map, k.edition, root_Part σ k.map (σ.root s) k.edition.shows nz)
    Reached-Part r (from_cell q k w nz) =
        let (e, m, E, (n, t, shows, le)) = Reached-Part q w in
        let (n', t', shows', le') = kid-Part n t q k shows nz in
        (e, m, E, (n', t', shows', λ p. omega (arith, le p, le' p)))

pub Reached-cell : (a : List ℕ) → Sound a → (z : Shape) → Header a z → (r : ℕ)
    → Reached z (columns z a) r ↔ ((e : ℕ) × CellOf z a e r)
Reached-cell a s z h r = (
  λ w.
      let (e, m, E, (n, t, shows, le)) =
      Reached-Part z (columns z a) (Local-in a s z h).1.clip
      (λ i l k. held_slot_lem z (columns z a) i k (slots_in a s z h i l)) r w in
      (e, record { map = m; holds = E; within = omega (arith, le r, shown_stands (columns z a) n t r shows) }),
  λ (e, c).
      let E = c.holds in
      map_Reached z (columns z a) r c.map ((columns z a).root e) E.shows (from_slot e E.slot E.held) c.within,
)
