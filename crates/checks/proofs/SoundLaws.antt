-- An arena that passes all tests of a check is sound: it is so in the local form, and what the root of a held slot is seen as
-- is a trie that the rules can build, with the slot's size.
use Rattle.std.proofs.Common.{◌≡◌, ℕ, ◌-◌, ◌<◌, ◌≤◌, true, ◌⊎◌, List, sym, subst, inl, inr, arith, le-ltb}
use Rattle.segments.specs.Segments.{segment}
use Rattle.trie.specs.Entry.{Word64}
use Rattle.trie.specs.Trie.{Map, empty, root, listing, size}
use Rattle.trie.specs.Canon.{Canonical}
use Rattle.trie.specs.Names.{forget}
use Rattle.trie.specs.Built.{Built}
use Rattle.trie.proofs.DegreeLaws.{Built-iff_Canonical}
use Rattle.layout.specs.declared.Shape.{Shape}
use Rattle.layout.specs.Layout.{kind_of, Allowed}
use Rattle.layout.specs.Header.{Header}
use Rattle.layout.specs.Columns.{State, columns, plains_of}
use Rattle.layout.proofs.SizeLaws.{row_in, row_is_Right}
use Rattle.arena.specs.Shows.{ShowsMap}
use Rattle.arena.specs.Sound.{FreeSlot, HeldSlot, Sound}
use Rattle.arena.proofs.Clipped.{Clipped, columns-Clipped}
use Rattle.arena.proofs.Equivalent.{Header-degree, local_sound}
use Rattle.audits.specs.Audits.{is_live, EntriesFit}
use Rattle.audits.proofs.Shown.{ChainAt}
use Rattle.audits.proofs.EntryLaws.{chain_shown}
use Rattle.levels.specs.Levels.{Under, see_from}
use Rattle.levels.proofs.Paths.{path_of, asked, SeenAs}
use Rattle.levels.proofs.SeenLaws.{seen_shows}
use Rattle.levels.proofs.SlotLaws.{RootSeen, slot_tested}
use Rattle.checks.proofs.Passed.{Passed}
use Rattle.checks.proofs.LocalForm.{branch_clip, passed_Local}

-- SLOTS. An empty map, or what the root is seen as
module _ (z : Shape) (σ : State) (w : Allowed z) (clipped : Clipped z σ) (p : Passed z σ)
    (chains : (r : ℕ) → is_live z σ 1 r ≡ true → ChainAt z σ r) where
  build : (m : Map ℕ) → Canonical (segment z.bits) Word64 z.depths m → Built (segment z.bits) z.depths (forget m)
  build m c = (Built-iff_Canonical (row_in z w) (row_is_Right z w) m).1 c

  empty_slot : (s : ℕ) → s < z.slots → σ.held s ≡ 1 → σ.root s ≡ 0 → σ.size s ≡ 0 → HeldSlot z σ s
  unfolding ShowsMap Canonical size listing
  empty_slot s l held e n =
      record {
        map = empty;
        edition = record { slot = l; held = held; shows = e; sized = n };
        built = build empty tt;
      }

  root_slot : (s m : ℕ) → s < z.slots → σ.held s ≡ 1 → SeenAs z σ z.depths 0 (σ.root s) m (σ.size s) → HeldSlot z σ s
  unfolding ShowsMap Canonical size listing asked path_of
  root_slot s m l held seen =
      record {
        map = root seen.node;
        edition = record { slot = l; held = held; shows = seen.shows; sized = sym seen.size };
        built = build (root seen.node) seen.canon;
      }

  passed_slots : (s : ℕ) → s < z.slots → FreeSlot σ s ⊎ HeldSlot z σ s
  passed_slots s l = by (slot_tested z σ p.slots s l)
    where
      by : FreeSlot σ s ⊎ RootSeen z σ s → FreeSlot σ s ⊎ HeldSlot z σ s
      by (inl f) = inl f
      by (inr (held, inl (e, n))) = inr (empty_slot s l held e n)
      by (inr (held, inr (ne, (m, e)))) =
          let all : z.depths - 0 ≡ z.depths = omega arith in
          inr
          (root_slot s m l held
          (seen_shows z σ chains (branch_clip z σ clipped) z.depths 0 (σ.root s) m (σ.size s) (omega arith)
          (subst (λ (d : ℕ). see_from z σ d 0 (σ.root s) ≡ Under m (σ.size s)) all e)))

-- THE ARENA
module _ (z : Shape) (a : List ℕ) (h : Header a z) where
  abbrev σ : State
  σ = columns z a

  clipped : Clipped z σ
  clipped = columns-Clipped z a (Header-degree h)

  no_plain : (r k : ℕ) → plains_of (kind_of r) ≤ k → σ.plain r k ≡ 0
  no_plain r k l = rw (le-ltb k (plains_of (kind_of r)) l)

  pub Passed-Sound : EntriesFit z σ → Passed z σ → Sound a
  Passed-Sound fit p =
      let chains : (r : ℕ) → is_live z σ 1 r ≡ true → ChainAt z σ r = chain_shown z a h.allowed p.entries p.keys fit in
      let (free, local) = passed_Local z σ (Header-degree h) clipped no_plain p chains in
      local_sound a
      (record { shape = z; header = h; slots = passed_slots z σ h.allowed clipped p chains; free = free; local = local })
