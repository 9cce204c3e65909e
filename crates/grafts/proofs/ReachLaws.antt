-- On an edition the path that is read before an update writes is the one that insert makes: as many branches, and at its end the
-- chain that a new entry is put in front of.
use Prim.Native.Nat.{ℕ, zero, suc, ◌+◌}
use mathlib.Core.Path.{◌≡◌, refl, sym, ◌∙◌}
use mathlib.Core.Bool.{Bool, true, false}
use mathlib.Core.List.{List, [], ◌∷◌}
use native.Mathlib.Omega.{arith}
use lib.ListN.{length}
use Rattle.segments.specs.Segments.{segment}
use Rattle.layout.specs.declared.Shape.{Shape}
use Rattle.layout.specs.Columns.{State}
use Rattle.layout.proofs.SizeLaws.{row_is_Right}
use Rattle.trie.specs.declared.Entry.{Entry}
use Rattle.trie.specs.Entry.{Word64}
use Rattle.trie.specs.Trie.{Item, Node, leaf, Kids, none, missing, found, child, get_node}
use Rattle.trie.proofs.InsertCases.{InsertCase, in_chain, replaced, deeper, apart, new_child, in_child}
use Rattle.trie.proofs.KidsLaws.{child_hit, child_only}
use Rattle.trie.proofs.PathLaws.{hop_found}
use Rattle.arena.specs.Shows.{ShowsChain, Shows}
use Rattle.grafts.specs.declared.Reach.{Reach}
use Rattle.grafts.specs.Grafts.{on_onward, onward_in, stops, reaches, reach_from}
use Rattle.grafts.proofs.CaseLaws.{is_there, is_there_lem, is_absent, cost_of, rest_of, missed, met}
use Rattle.grafts.proofs.SeenLaws.{Seen, Celled, branch_named, single_named, branch-Seen, single_Seen, none_entry, none_seen, onward_missing, onward_found, stops_at, stops_never, stops_no_entry}
use Rattle.std.specs.Prelude.{Some, None}

-- ONE STEP DOWN
module _ (z : Shape) (σ : State) (h : ℕ) (there : Bool) (n t r : ℕ) where
  reach_stops : stops z there r ≡ true → reach_from z σ h there (suc n) t r ≡ reaches t 0
  unfolding reach_from
  reach_stops e = rw e

  reach_Missing : stops z there r ≡ false → onward_in z σ h t r ≡ None → reach_from z σ h there (suc n) t r ≡ reaches (suc t) 0
  unfolding reach_from on_onward
  reach_Missing e o = rw (e, o)

  reach_found : stops z there r ≡ false → (c : ℕ) → onward_in z σ h t r ≡ Some c
      → reach_from z σ h there (suc n) t r ≡ reach_from z σ h there n (suc t) c
  unfolding reach_from on_onward
  reach_found e c o = rw (e, o)

-- from depth t on the path has c branches, and the chain xs stands at its end
abbrev Reached : State → ℕ → ℕ → List (Item ℕ) → Reach → Type 0
Reached σ t c xs p = (p.branches ≡ t + c) × ShowsChain σ xs p.behind

none_Reached : (σ : State) (t c n : ℕ) → n ≡ t + c → Reached σ t c [] (reaches n 0)
unfolding ShowsChain
none_Reached σ t c n e = (e, refl)

leaf-Reached : (σ : State) (t r : ℕ) (xs : List (Item ℕ)) → Shows σ (leaf xs) t r → Reached σ t 0 xs (reaches t r)
unfolding Shows
leaf-Reached σ t r [] shown = absurd shown
leaf-Reached σ t r (x ∷ xs) shown = (omega arith, shown)

-- by the children that are seen
module _ {z : Shape} {σ : State} (C : Celled z σ) (h : ℕ) (there : Bool) (n t r : ℕ) (ks : Kids ℕ) (S : Seen z σ t r ks)
    (on : stops z there r ≡ false) where
  missing-Reached : child (segment z.bits t h) ks ≡ missing → Reached σ t 1 [] (reach_from z σ h there (suc n) t r)
  missing-Reached q =
      rw (reach_Missing z σ h there n t r on (onward_missing C.allowed h S q)) (none_Reached σ t 1 (suc t) (omega arith))

  found-Reached : (m : Node ℕ) (c : ℕ) (xs : List (Item ℕ)) → child (segment z.bits t h) ks ≡ found m
      → ((q : ℕ) → Shows σ m (suc t) q → Reached σ (suc t) c xs (reach_from z σ h there n (suc t) q))
      → Reached σ t (suc c) xs (reach_from z σ h there (suc n) t r)
  found-Reached m c xs q inner =
      let (p, onward, shown) = onward_found C.allowed h S m q in
      let (e, rest) = inner p shown in
      rw (reach_found z σ h there n t r on p onward) (omega arith, rest)

-- THE PATH IS THE TRIE'S
module _ {z : Shape} {σ : State} (C : Celled z σ) (b f : ℕ → ℕ) (e : Entry) (there : Bool) where
  pub reach_means : {n : ℕ} {path : List ℕ} {m m' : Node ℕ} (c : InsertCase (segment z.bits) Word64 b f e n path m m') (r : ℕ)
      → Shows σ m (length path) r → there ≡ is_there (get_node (segment z.bits) n (length path) e.hash e.key m)
      → ((reach_from z σ e.hash there n (length path) r).branches ≡ length path + cost_of c)
      × ShowsChain σ (rest_of c) (reach_from z σ e.hash there n (length path) r).behind
  unfolding cost_of rest_of
  reach_means {path = path} (in_chain xs) r shown is = unfold reach_from in (leaf-Reached σ (length path) r xs shown)
  reach_means (replaced {n = n} {path = path} y p) r shown is =
      let t : ℕ = length path in
      let yes : there ≡ true = is_there_lem y.entry.value is (met (segment z.bits) e (suc n) t y p) in
      rw (reach_stops z σ e.hash there n t r (stops_at z there r yes (single_named C y t r shown).1))
      (none_Reached σ t 0 t (omega arith))
  reach_means (deeper {n = n} {path = path} y p q i) r shown is =
      let t : ℕ = length path in
      let no : there ≡ false = is_absent is (missed (segment z.bits) e (suc n) t y p) in
      found-Reached C e.hash there n t r _ (single_Seen C y t r shown) (stops_never z there r no)
      (leaf (y ∷ [])) (cost_of i) (rest_of i) (child_hit _ _ (leaf (y ∷ [])) none q)
      (λ o below. reach_means i o below (no ∙ sym (is_absent refl (missed (segment z.bits) e n (suc t) y p))))
  reach_means (apart {n = n} {path = path} y p q) r shown is =
      let t : ℕ = length path in
      let no : there ≡ false = is_absent is (missed (segment z.bits) e (suc n) t y p) in
      missing-Reached C e.hash there n t r _ (single_Seen C y t r shown) (stops_never z there r no)
      (child_only _ _ (leaf (y ∷ [])) q)
  reach_means (new_child {n = n} {path = path} c ks asc all q) r shown is =
      let t : ℕ = length path in
      missing-Reached C e.hash there n t r ks (branch-Seen C n path c ks t r all shown)
      (stops_no_entry z there r (branch_named C c ks t r shown).1) q
  reach_means (in_child {n = n} {path = path} {m = m} c ks asc all q i) r shown is =
      let t : ℕ = length path in
      found-Reached C e.hash there n t r ks (branch-Seen C n path c ks t r all shown)
      (stops_no_entry z there r (branch_named C c ks t r shown).1) m (cost_of i) (rest_of i) q
      (λ o below. reach_means i o below (rw (hop_found (segment z.bits) n t e.hash c ks m q) at is))

-- at the empty map, whose root names nothing, it has one branch, and no chain at its end
pub reach_empty_means : {z : Shape} {σ : State} → Celled z σ → (h : ℕ) (there : Bool) (n : ℕ) → n ≡ z.depths
    → reach_from z σ h there n 0 0 ≡ reaches 1 0
unfolding child
reach_empty_means {z} {σ} C h there zero deep = absurd (omega (arith, (row_is_Right z C.allowed).some_depths))
reach_empty_means {z} {σ} C h there (suc n) deep =
    reach_Missing z σ h there n 0 0 (stops_no_entry z there 0 (none_entry z))
    (onward_missing C.allowed h (none_seen z σ 0) refl)
