-- A sound arena passes every test of a check. Every cell in use stands in an edition, which gives what is asked of its entries,
-- of its branches level by level and of its slots; the counts, the free cells and their chains are in the local form of
-- soundness.
use Rattle.std.proofs.Common.{◌≡◌, ℕ, zero, suc, ◌+◌, ◌-◌, ◌<◌, ◌≤◌, true, ◌⊎◌, List, [], length, Option, sym, refl, ◌∙◌, inl, inr, ⊎_elim, arith, lt-ltb, eq-eqb, ne_eqb}
use Rattle.cases.proofs.Cases.{eq?}
use Rattle.segments.specs.Segments.{segment}
use Rattle.layout.specs.declared.Shape.{Shape}
use Rattle.layout.specs.Layout.{reference, kind_of, cells_of}
use Rattle.layout.specs.Header.{Header}
use Rattle.layout.specs.Columns.{State, columns}
use Rattle.layout.proofs.OffsetLaws.{names_says}
use Rattle.trie.specs.Entry.{Word64}
use Rattle.trie.specs.Trie.{Node, Map, empty, root, listing_node, listing, size}
use Rattle.trie.specs.Canon.{Canon, Canonical}
use Rattle.arena.specs.Shows.{Shows, ShowsMap}
use Rattle.arena.specs.Sound.{FreeSlot, HeldSlot, Sound}
use Rattle.arena.specs.Local.{Local}
use Rattle.arena.specs.Holds.{Shelves}
use Rattle.arena.proofs.RefLaws.{names_of}
use Rattle.arena.proofs.LocalLaws.{live_cell}
use Rattle.arena.proofs.Frames.{shown_some}
use Rattle.arena.proofs.Reach.{live_Reached}
use Rattle.arena.proofs.Equivalent.{Header-degree, held_slot_lem}
use Rattle.arena.proofs.Shelved.{Good, slots_in, Local-in, shelf_canonical, shelf_few}
use Rattle.lookup.specs.Lookup.{names_kind}
use Rattle.audits.specs.Audits.{entry_right, key_right, free_branch, branch_right, entries_right, keys_right, branches_right}
use Rattle.audits.proofs.AllLaws.{below_all}
use Rattle.audits.proofs.Shown.{ChainAt}
use Rattle.audits.proofs.EntryLaws.{entry_right_of, key_right_of}
use Rattle.audits.proofs.FreeLaws.{free_chain}
use Rattle.levels.specs.declared.Seen.{Seen}
use Rattle.levels.specs.Levels.{Under, on_seen, is_seen, see_from, see_at, is_at, branch_seen, level_seen, levels_seen, size_is, root_right, slot_right, slots_right}
use Rattle.levels.proofs.Paths.{asked}
use Rattle.levels.proofs.ShownLaws.{lead_of, shown_seen, columns_named, columns_clip}
use Rattle.checks.proofs.Passed.{Passed}
use Rattle.checks.proofs.Standing.{Standing, root_Standing, Reached-Standing, Standing-chain, standing_depth}

-- TESTS of all levels, of a kind's cell, of a seen node
all_levels : (z : Shape) (σ : State) (d : ℕ) → ((t : ℕ) → t < d → level_seen z σ t ≡ true) → levels_seen z σ d ≡ true
unfolding levels_seen
all_levels z σ zero h = refl
all_levels z σ (suc d) h = rw (h d (omega arith)) (all_levels z σ d (λ t l. h t (omega arith)))

entry_named : (z : Shape) (i : ℕ) → i < z.entries → names_kind z 1 (reference 1 i) ≡ true
unfolding names_kind cells_of
entry_named z i l = rw (eq-eqb (kind_of (reference 1 i)) 1 (omega arith)) (names_of z 1 i (omega arith) l)

seen_is : (s : Option Seen) (l n : ℕ) → s ≡ Under l n → is_seen s ≡ true
unfolding on_seen
seen_is s l n e = rw e

module _ (z : Shape) (a : List ℕ) (h : Header a z) (s : Sound a) where
  abbrev σ : State
  σ = columns z a

  local : Local z σ (λ r. 0) (Local-in a s z h).0
  local = (Local-in a s z h).1

  -- EVERY CELL IN USE STANDS IN AN EDITION
  shelf : (i : ℕ) (k : HeldSlot z σ i) → Shelves z a i k.map
  shelf i k = record { holds = k.edition; built = k.built }

  canonical : (i : ℕ) (k : HeldSlot z σ i) → Good z k.map
  canonical i k = shelf_canonical z a h.allowed i k.map (shelf i k)

  few : (i : ℕ) (k : HeldSlot z σ i) → size k.map ≤ z.entries
  few i k = shelf_few z a h.allowed i k.map (shelf i k)

  slot_Standing : (i : ℕ) → HeldSlot z σ i → (σ.root i ≡ 0 → ⊥) → Standing z σ (σ.root i)
  slot_Standing i k nz = root_Standing z σ k.map (σ.root i) (canonical i k) k.edition.shows (few i k) nz

  standing : (r : ℕ) → 0 < σ.count r → Standing z σ r
  standing r l =
      Reached-Standing z σ local.clip (λ i m e nz. slot_Standing i (held_slot_lem z σ i e (slots_in a s z h i m)) nz) r
      (live_Reached z σ (Local-in a s z h).0 local r l)

  -- ENTRIES
  chain_at : (i : ℕ) → 0 < σ.count (reference 1 i) → ChainAt z σ (reference 1 i)
  chain_at i l = Standing-chain z h.allowed σ (live_cell local) (reference 1 i) (omega arith) (standing (reference 1 i) l)

  entries_pass : entries_right z σ ≡ true
  unfolding entries_right
  entries_pass =
      below_all (λ i. entry_right z σ (reference 1 i)) z.entries
      (λ i l.
      entry_right_of z a h.allowed (reference 1 i) (entry_named z i l)
      (λ e k. (local.rest (reference 1 i) k e, local.blank (reference 1 i) k e)) (chain_at i))

  keys_pass : keys_right z σ ≡ true
  unfolding keys_right
  keys_pass =
      below_all (λ i. key_right z σ (reference 1 i)) z.entries
      (λ i l. key_right_of z a h.allowed (reference 1 i) (chain_at i))

  -- BRANCHES, each by itself and level by level
  branch_right_lem : (r : ℕ) → kind_of r ≡ 0 → branch_right z σ r ≡ true
  unfolding branch_right free_branch
  branch_right_lem r e =
      ⊎_elim
      (λ c.
      rw (eq-eqb (σ.count r) 0 c, eq-eqb (σ.plain r 0) 0 (local.blank r 0 c))
      (below_all _ z.degree (λ k l. eq-eqb (σ.kid r k) 0 (local.rest r k c))))
      (λ c. rw (ne_eqb (σ.count r) 0 c) (lt-ltb (σ.mark r) z.depths (local.deep r (omega arith) e)))
      (eq? (σ.count r) 0)

  branches_pass : branches_right z σ ≡ true
  unfolding branches_right
  branches_pass =
      below_all (λ i. branch_right z σ (reference 0 i)) z.branches (λ i l. branch_right_lem (reference 0 i) (omega arith))

  -- what a node is seen as
  see : (n : ℕ) (path : List ℕ) (r : ℕ) (m : Node ℕ) → n + length path ≡ z.depths → Shows σ m (length path) r
      → Canon (segment z.bits) Word64 (asked (length path)) n path m → length (listing_node m) ≤ z.entries
      → see_from z σ n (length path) r ≡ Under (lead_of m) (length (listing_node m))
  see = shown_seen z σ (columns_named z a (Header-degree h)) (columns_clip z a (Header-degree h))

  standing_seen : (t r : ℕ) (p : Standing z σ r) → length p.path ≡ t
      → see_at z σ t r ≡ Under (lead_of p.node) (length (listing_node p.node))
  standing_seen t r p e =
      let left : z.depths - t ≡ p.left = omega (arith, p.place) in
      rw (left, ← e) (see p.left p.path r p.node p.place p.shows p.canon p.few)

  branch_seen_lem : (t r : ℕ) → kind_of r ≡ 0 → branch_seen z σ t r ≡ true
  unfolding branch_seen is_at
  branch_seen_lem t r e =
      ⊎_elim
      (λ c. rw (eq-eqb (σ.count r) 0 c))
      (λ c.
      ⊎_elim
      (λ m.
      let p = standing r (omega arith) in
      rw (ne_eqb (σ.count r) 0 c, eq-eqb (σ.mark r) t m)
      (seen_is (see_at z σ t r) _ _ (standing_seen t r p (sym (standing_depth e p) ∙ m))))
      (λ m. rw (ne_eqb (σ.count r) 0 c, ne_eqb (σ.mark r) t m))
      (eq? (σ.mark r) t))
      (eq? (σ.count r) 0)

  levels_pass : levels_seen z σ z.depths ≡ true
  unfolding level_seen
  levels_pass =
      all_levels z σ z.depths
      (λ t l.
      below_all (λ i. branch_seen z σ t (reference 0 i)) z.branches (λ i m. branch_seen_lem t (reference 0 i) (omega arith)))

  -- SLOTS
  root_right_lem : (m : Map ℕ) (r n : ℕ) → Good z m → ShowsMap σ m r → size m ≤ z.entries → n ≡ size m → root_right z σ r n ≡ true
  unfolding root_right Canonical ShowsMap size listing
  root_right_lem empty r n c w l e = rw (eq-eqb r 0 w, eq-eqb n 0 e)
  root_right_lem (root m) r n c w l e =
      let left : z.depths - 0 ≡ z.depths = omega arith in
      let seen = see z.depths [] r m (omega arith) w (unfold asked in c) l in
      rw (ne_eqb r 0 (shown_some σ m 0 r w), left, seen) (unfold size_is in (eq-eqb (length (listing_node m)) n (sym e)))

  slot_right_lem : (i : ℕ) → FreeSlot σ i ⊎ HeldSlot z σ i → slot_right z σ i ≡ true
  unfolding slot_right
  slot_right_lem i (inl f) =
      rw (eq-eqb (σ.held i) 0 f.not_held, eq-eqb (σ.root i) 0 f.no_root) (eq-eqb (σ.size i) 0 f.no_size)
  slot_right_lem i (inr k) =
      let e : σ.held i ≡ 1 = k.edition.held in
      rw (ne_eqb (σ.held i) 0 (λ y. omega arith), eq-eqb (σ.held i) 1 e)
      (root_right_lem k.map (σ.root i) (σ.size i) (canonical i k) k.edition.shows (few i k) k.edition.sized)

  slots_pass : slots_right z σ ≡ true
  unfolding slots_right
  slots_pass = below_all (slot_right z σ) z.slots (λ i l. slot_right_lem i (slots_in a s z h i l))

  -- ALL TOGETHER
  pub sound_Passed : Passed z σ
  sound_Passed =
      record {
        entries = entries_pass;
        branches = branches_pass;
        levels = levels_pass;
        slots = slots_pass;
        counts = λ r n. omega (arith, local.exact r (λ e. omega (arith, (names_says z r n).low)));
        chains = free_chain z σ (Header-degree h) (Local-in a s z h).0 local;
        keys = keys_pass;
      }
