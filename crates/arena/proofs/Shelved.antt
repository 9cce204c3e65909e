-- A sound arena at the shape of its header, and an edition in it: it can be built, so it is canonical, and it has no more entries
-- than the arena.
use Prim.Native.Nat.{ℕ, suc, ◌^◌, ◌≤◌, ◌<◌}
use mathlib.Core.Path.{◌≡◌, subst}
use mathlib.Core.List.{List}
use mathlib.Core.Logic.{◌⊎◌}
use native.Mathlib.Omega.{arith}
use Rattle.segments.specs.Segments.{segment}
use Rattle.layout.specs.declared.Shape.{Shape}
use Rattle.layout.specs.Layout.{Allowed}
use Rattle.layout.specs.Header.{Header}
use Rattle.layout.specs.Columns.{columns}
use Rattle.layout.proofs.SizeLaws.{row_in, row_is_Right, small}
use Rattle.layout.proofs.HeaderLaws.{Header-once}
use Rattle.trie.specs.Entry.{Word64}
use Rattle.trie.specs.Trie.{Map, size}
use Rattle.trie.specs.Canon.{Canonical}
use Rattle.trie.specs.Names.{forget}
use Rattle.trie.specs.Built.{Built}
use Rattle.trie.proofs.DegreeLaws.{Built-iff_Canonical}
use Rattle.arena.specs.Holds.{Holds, Shelves}
use Rattle.arena.specs.Sound.{FreeSlot, HeldSlot, Sound}
use Rattle.arena.specs.Local.{Local}
use Rattle.arena.proofs.Equivalent.{sound_local, held_slot_lem}
use Rattle.arena.proofs.Unique.{Edition-one}
use Rattle.arena.proofs.Few.{size_few, columns_live}

-- a map that is canonical with the bits and depths of a shape
abbrev pub Good : Shape → Map ℕ → Type 0
Good z m = Canonical (segment z.bits) Word64 z.depths m

-- the slots and the local form of a sound arena, at the shape of its header
module _ (a : List ℕ) (s : Sound a) (z : Shape) (h : Header a z) where
  same_shape : s.shape ≡ z
  same_shape = Header-once a s.shape z s.header h

  pub slots_in : (e : ℕ) → e < z.slots → FreeSlot (columns z a) e ⊎ HeldSlot z (columns z a) e
  slots_in e l =
      subst (λ (y : Shape). e < y.slots → FreeSlot (columns y a) e ⊎ HeldSlot y (columns y a) e) same_shape (s.slots e) l

  pub Local-in : (free : ℕ → List ℕ) × Local z (columns z a) (λ r. 0) free
  Local-in =
      subst (λ (y : Shape). (free : ℕ → List ℕ) × Local y (columns y a) (λ r. 0) free) same_shape
      (s.cells.free, (sound_local a s).local)

-- what a slot of a sound arena holds
module _ (a : List ℕ) (s : Sound a) (z : Shape) (h : Header a z) (e : ℕ) (m : Map ℕ) (k : Holds z a e m) where
  in_slot : HeldSlot z (columns z a) e
  in_slot = held_slot_lem z (columns z a) e k.held (slots_in a s z h e k.slot)

  pub held_Shelves : Shelves z a e m
  held_Shelves =
      record {
        holds = k;
        built = subst (λ (n : Map ℕ). Built (segment z.bits) z.depths (forget n))
            (Edition-one z (columns z a) e in_slot.map m in_slot.edition k) in_slot.built;
      }

module _ (z : Shape) (a : List ℕ) (w : Allowed z) (e : ℕ) (m : Map ℕ) (k : Shelves z a e m) where
  pub shelf_canonical : Good z m
  shelf_canonical = (Built-iff_Canonical (row_in z w) (row_is_Right z w) m).0 k.built

  pub shelf_few : size m ≤ z.entries
  shelf_few =
      size_few z (columns z a) (columns_live z a (omega (arith, (small z w).degree_low))) (segment z.bits) Word64 z.depths m
      ((columns z a).root e) shelf_canonical k.holds.shows

  -- so that one more entry can be counted
  pub shelf_small : suc (size m) < 2 ^ 64
  shelf_small = omega (arith, shelf_few, w.few_entries)
