-- Document 01, "The shelf table": K1 to K12 with the cells taken, the chains, roots and listings that it shows, and the cells
-- in use, as one statement. The step to K s names its new cells 100·s, 100·s + 1, .., so that the table also shows which cells
-- are shared.
use Rattle.std.specs.Prelude.{◌≡◌, refl, Bool, true, false, cond, List, [], ◌∷◌, ◌++◌, ℕ, suc, ◌+◌, ◌*◌, ◌^◌, eqb}
use Rattle.std.proofs.Common.{inl, inr}
use Rattle.segments.specs.Segments.{Row, row, table, Listed, segment}
use Rattle.trie.specs.Cells.{Taken, before, ahead, along, branches_on, stand_before, insert_takes, left_takes, remove_takes}
use Rattle.trie.specs.declared.Entry.{Entry}
use Rattle.trie.specs.Entry.{matches, if_got}
use Rattle.trie.specs.Names.{rename_items, rename_node, rename, forget}
use Rattle.trie.specs.Trie.{branch, Item, leaf, chain, Node, Kids, none, kid, empty, root, Map, on_found, child, put, take_out, item, find, copied, list_remove_first, push_front, insert_node, is_empty, is_single, settle, compress, remove_node, listing_chain, listing_node, listing, remove, Updated, not_there, updated, tidy, insert}

-- THE STEPS, at a row of the table of degrees
abbrev names : ℕ → ℕ → ℕ
names s j = 100 * s + j

abbrev ins : Row → ℕ → Entry → Map ℕ → Map ℕ
ins r s e m = insert (segment r.bits) r.depths (names s) (names s) e m

abbrev rem : Row → ℕ → ℕ → ℕ → Map ℕ → Updated ℕ
rem r s h k m = remove (segment r.bits) r.depths (names s) (names s) h k m

abbrev ins_takes : Row → Entry → Map ℕ → Taken
ins_takes r e m = insert_takes (segment r.bits) r.depths (names 0) (names 0) e m

abbrev rem_takes : Row → ℕ → ℕ → Map ℕ → Taken
rem_takes r h k m = remove_takes (segment r.bits) r.depths (names 0) (names 0) h k m

unfoldable pub result_of : Updated ℕ → Map ℕ
result_of not_there = empty
result_of (updated m) = m

abbrev taken : ℕ → ℕ → Taken
taken b e = record { branches = b; entries = e }

-- WHAT IS LOOKED AT: the chain at the end of a hash's path, its cells, and the cells that some editions reach, each once
unfoldable pub chain_at : Row → ℕ → Map ℕ → List (Item ℕ)
chain_at r h empty = []
chain_at r h (root m) = chain (segment r.bits) r.depths 0 h m

unfoldable pub cells_of : List (Item ℕ) → List ℕ
cells_of [] = []
cells_of (x ∷ xs) = x.cell ∷ cells_of xs

unfoldable mutual
  pub branch_cells : Node ℕ → List ℕ
  branch_cells (leaf xs) = []
  branch_cells (branch c ks) = c ∷ kids_branch_cells ks

  pub kids_branch_cells : Kids ℕ → List ℕ
  kids_branch_cells none = []
  kids_branch_cells (kid s m ks) = branch_cells m ++ kids_branch_cells ks

unfoldable mutual
  pub entry_cells : Node ℕ → List ℕ
  entry_cells (leaf xs) = cells_of xs
  entry_cells (branch c ks) = kids_entry_cells ks

  pub kids_entry_cells : Kids ℕ → List ℕ
  kids_entry_cells none = []
  kids_entry_cells (kid s m ks) = entry_cells m ++ kids_entry_cells ks

unfoldable pub reached : (Node ℕ → List ℕ) → List (Map ℕ) → List ℕ
reached g [] = []
reached g (empty ∷ ms) = reached g ms
reached g (root m ∷ ms) = g m ++ reached g ms

unfoldable pub among : ℕ → List ℕ → Bool
among x [] = false
among x (y ∷ ys) = cond (eqb x y) true (among x ys)

unfoldable pub distinct : List ℕ → ℕ
distinct [] = 0
distinct (x ∷ xs) = cond (among x xs) (distinct xs) (suc (distinct xs))

abbrev in_use : List (Map ℕ) → Taken
in_use ms = taken (distinct (reached branch_cells ms)) (distinct (reached entry_cells ms))

-- THE ENTRIES. "A hash 26 hex, key 1, value 10; B 16, 2, 20; C 42, 3, 30; D and E hash 7000000000000008, keys 4, 5, values 40,
-- 50."
abbrev entry : ℕ → ℕ → ℕ → Entry
entry h k v = record { hash = h; key = k; value = v }

abbrev A : Entry
A = entry 0x26 1 10

abbrev B : Entry
B = entry 0x16 2 20

abbrev C : Entry
C = entry 0x42 3 30

abbrev DE : ℕ
DE = 0x7000000000000008

abbrev D : Entry
D = entry DE 4 40

abbrev D41 : Entry
D41 = entry DE 4 41

abbrev E : Entry
E = entry DE 5 50

-- "Key 6 under D's hash" and "key 4 under hash 42"
abbrev F : Entry
F = entry DE 6 60

abbrev G : Entry
G = entry 0x42 4 70

-- THE EDITIONS
abbrev d16 : Row
d16 = row 16 4 16 4

abbrev d64 : Row
d64 = row 64 6 11 4

abbrev d8 : Row
d8 = row 8 3 22 1

abbrev K1 : Map ℕ
K1 = ins d16 1 A empty

abbrev K2 : Map ℕ
K2 = ins d16 2 B K1

abbrev K3 : Map ℕ
K3 = ins d16 3 C K2

abbrev K4 : Map ℕ
K4 = ins d16 4 D K3

abbrev K5 : Map ℕ
K5 = ins d16 5 E K4

abbrev K6 : Map ℕ
K6 = ins d16 6 D41 K5

abbrev K7 : Map ℕ
K7 = result_of (rem d16 7 DE 4 K5)

abbrev K8 : Map ℕ
K8 = result_of (rem d16 8 DE 5 K5)

abbrev K9 : Map ℕ
K9 = result_of (rem d16 9 0x26 1 K2)

abbrev KF : Map ℕ
KF = ins d16 10 F K5

pub record ShelfTable : Type 0 where
  pub rows : Listed table d16 × Listed table d64 × Listed table d8
  pub k1 : ins_takes d16 A empty ≡ taken 1 1
  pub k1_root : K1 ≡ root (branch 100 (kid 6 (leaf (item 100 A ∷ [])) none))
  pub k2 : ins_takes d16 B K1 ≡ taken 2 1
  pub k3 : ins_takes d16 C K2 ≡ taken 1 1
  pub k4 : ins_takes d16 D K3 ≡ taken 1 1
  pub k5 : ins_takes d16 E K4 ≡ taken 16 1
  pub k5_chain : chain_at d16 DE K5 ≡ item 500 E ∷ (item 400 D ∷ [])
  pub k5_lists : listing K5 ≡ C ∷ (B ∷ (A ∷ (E ∷ (D ∷ []))))
  pub k6 : ins_takes d16 D41 K5 ≡ taken 16 2
  pub k6_chain : chain_at d16 DE K6 ≡ item 600 D41 ∷ (item 601 E ∷ [])
  pub k7 : rem_takes d16 DE 4 K5 ≡ taken 1 1
  pub k7_chain : chain_at d16 DE K7 ≡ item 700 E ∷ []
  pub k8 : rem_takes d16 DE 5 K5 ≡ taken 1 0
  pub k8_chain : chain_at d16 DE K8 ≡ item 400 D ∷ []
  pub k9 : rem_takes d16 0x26 1 K2 ≡ taken 0 0
  pub k9_root : K9 ≡ root (leaf (item 200 B ∷ []))
  pub k10 : ins_takes d16 A K9 ≡ taken 2 1
  pub k11 : ins_takes d64 (entry (2 ^ 63) 2 0) (ins d64 11 (entry 0 1 0) empty) ≡ taken 11 1
  pub k12 : ins_takes d8 (entry (2 ^ 63) 2 0) (ins d8 12 (entry 0 1 0) empty) ≡ taken 22 1
  -- "With the editions K1 to K5 held, 21 branch and 5 entry cells are in use; with K5 alone, 17 and 5."
  pub in_use_five : in_use (K1 ∷ (K2 ∷ (K3 ∷ (K4 ∷ (K5 ∷ []))))) ≡ taken 21 5
  pub in_use_last : in_use (K5 ∷ []) ≡ taken 17 5
  -- "Also run"
  pub six : ins_takes d16 F K5 ≡ taken 16 1
  pub six_chain : chain_at d16 DE KF ≡ item 1000 F ∷ (item 500 E ∷ (item 400 D ∷ []))
  pub six_again : rem_takes d16 DE 6 KF ≡ taken 16 0
  pub six_gone : forget (result_of (rem d16 11 DE 6 KF)) ≡ forget K5
  pub k6_less : rem_takes d16 DE 4 K6 ≡ taken 1 0
  pub other_hash : ins_takes d16 G K5 ≡ taken 16 1
  pub k1_less : rem d16 10 0x26 1 K1 ≡ updated empty

pub shelf_table : ShelfTable
unfolding table Listed segment matches if_got on_found child put take_out find copied list_remove_first push_front chain insert_node is_empty is_single settle compress remove_node listing_chain listing_node listing tidy insert remove ahead before along branches_on stand_before insert_takes left_takes rename rename_node rename_items result_of chain_at cells_of branch_cells entry_cells reached among distinct
shelf_table =
    record {
      rows = (inr (inr (inr (inl refl))), inr (inr (inr (inr (inr (inl refl))))), inr (inr (inl refl)));
      k1 = refl;
      k1_root = refl;
      k2 = refl;
      k3 = refl;
      k4 = refl;
      k5 = refl;
      k5_chain = refl;
      k5_lists = refl;
      k6 = refl;
      k6_chain = refl;
      k7 = refl;
      k7_chain = refl;
      k8 = refl;
      k8_chain = refl;
      k9 = refl;
      k9_root = refl;
      k10 = refl;
      k11 = refl;
      k12 = refl;
      in_use_five = refl;
      in_use_last = refl;
      six = refl;
      six_chain = refl;
      six_again = refl;
      six_gone = refl;
      k6_less = refl;
      other_hash = refl;
      k1_less = refl;
    }
