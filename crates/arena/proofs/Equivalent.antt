-- An arena is sound exactly if it is so in the local form. What is reached is what has a count; free slots and cells that are
-- not reached hold no reference, so that counting over the whole arena counts the same words; and every cell is either reached
-- or on its free chain. FromLocal has the cells of the local form, and the counts that both ways share.
use Prim.Native.Nat.{ℕ, ◌<◌}
use mathlib.Core.Path.{◌≡◌, sym, ◌∙◌}
use mathlib.Core.Bool.{true, false}
use mathlib.Core.Logic.{◌⊎◌, inl, inr, ⊎_elim, ◌↔◌}
use mathlib.Core.List.{List}
use native.Mathlib.Omega.{arith}
use lib.Pow.{pow_pos}
use Rattle.cases.proofs.Cases.{split, eq?}
use Rattle.counts.proofs.CountLaws.{ind_same, ind_other}
use Rattle.segments.specs.Segments.{Row, row, segment}
use Rattle.segments.proofs.TableLaws.{Right, row_Right, row_of_in}
use Rattle.trie.specs.Entry.{Word64}
use Rattle.trie.proofs.DegreeLaws.{Built-iff_Canonical}
use Rattle.layout.specs.declared.Shape.{Shape}
use Rattle.layout.specs.Layout.{names}
use Rattle.layout.specs.Header.{Header}
use Rattle.layout.specs.Columns.{State, columns}
use Rattle.arena.specs.Sound.{FreeSlot, HeldSlot, Reached, Cells, Sound}
use Rattle.arena.specs.Local.{occ, Local, LocallySound}
use Rattle.arena.proofs.RefLaws.{refs_out, names-refs}
use Rattle.arena.proofs.Clipped.{Clipped, columns-Clipped}
use Rattle.arena.proofs.Reach.{named_Reached, Placed, root_Placed, Reached-has_count, Reached-deep, Reached-below}
pub use Rattle.arena.proofs.FromLocal.{Local-Cells}
use Rattle.arena.proofs.FromLocal.{naming-occ, cells_in_all}

degree_some : (r : Row) → Right r → 0 < r.degree
degree_some r right = rw right.power (pow_pos r.bits)

-- TO THE LOCAL FORM: what is reached is shown, so it has a count, its depth or length, and nothing else names a cell
module _ (z : Shape) (σ : State) (last : ℕ) (right : Right (row z.degree z.bits z.depths last)) (clipped : Clipped z σ)
    (slots : (s : ℕ) → s < z.slots → FreeSlot σ s ⊎ HeldSlot z σ s) (cells : Cells z σ) where
  free_root : (s : ℕ) → s < z.slots → (σ.held s ≡ 1 → ⊥) → σ.root s ≡ 0
  free_root s l ne = ⊎_elim (λ f. f.no_root) (λ h. absurd (ne h.edition.held)) (slots s l)

  held-Placed : (s : ℕ) → s < z.slots → σ.held s ≡ 1 → (σ.root s ≡ 0 → ⊥) → Placed z σ (σ.root s)
  held-Placed s l e nz =
      ⊎_elim
      (λ f. absurd (nz f.no_root))
      (λ h.
      root_Placed z σ (segment z.bits) Word64 h.map (σ.root s)
      ((Built-iff_Canonical (row z.degree z.bits z.depths last) right h.map).0 h.built) h.edition.shows nz)
      (slots s l)

  some_degree : 0 < z.degree
  some_degree = degree_some (row z.degree z.bits z.depths last) right

  -- a cell that is not reached, or no cell at all, holds no reference
  idle_kids : (q k : ℕ) → cells.reached q ≡ false → σ.kid q k ≡ 0
  idle_kids q k f =
      split (names z q) (λ n. cells.rest_kids q k n f) (λ n. clipped.no_kid q k (omega (arith, refs_out z q n)))

  live : (r : ℕ) → Reached z σ r → 0 < σ.count r
  live r w = Reached-has_count z σ clipped.no_kid held-Placed r w

  live_named : (r : ℕ) → 0 < σ.count r → names z r ≡ true
  live_named r l =
      split (names z r) (λ n. n) (λ n. absurd (omega (arith, clipped.no_count r (refs_out z r n))))

  live_cells : (r : ℕ) → 0 < σ.count r → Reached z σ r
  live_cells r l =
      split (cells.reached r) (λ t. (cells.reached_is r).0 t)
      (λ f. absurd (omega (arith, (cells.not_reached r (live_named r l)).0 f)))

  holder_Reached : (q k : ℕ) → (σ.kid q k ≡ 0 → ⊥) → Reached z σ q
  holder_Reached q k nz =
      split (cells.reached q) (λ t. (cells.reached_is q).0 t) (λ f. absurd (nz (idle_kids q k f)))

  -- whatever a word names is reached
  named_live : (r : ℕ) → (r ≡ 0 → ⊥) → 0 < occ z σ r → 0 < σ.count r
  named_live r nz l = live r (named_Reached z σ free_root r nz l (λ q k e nk. holder_Reached q k nk))

  idle_cell : (r : ℕ) → σ.count r ≡ 0 → names z r ≡ true → cells.reached r ≡ false
  idle_cell r e n = (cells.not_reached r n).1 e

  pub cells_Local : Local z σ (λ r. 0) cells.free
  cells_Local =
      record {
        exact =
            λ r nz.
            split (names z r)
            (λ n. omega (arith, cells.counts r n, naming-occ z σ cells.reached free_root idle_kids r nz))
            (λ n.
            let e : σ.count r ≡ 0 = clipped.no_count r (refs_out z r n) in
            ⊎_elim (λ o. omega arith) (λ o. omega (arith, named_live r nz (omega arith))) (eq? (occ z σ r) 0));
        out = clipped.no_count;
        chain = cells.chained;
        free_once =
            λ r l.
            let n : names z r ≡ true = (names-refs z some_degree r).1 l in
            cells.once r n
            ∙ ⊎_elim
            (λ e. rw (idle_cell r e n) (sym (ind_same 0 (σ.count r) e)))
            (λ ne.
            let t : cells.reached r ≡ true = (cells.reached_is r).1 (live_cells r (omega arith)) in
            rw t (sym (ind_other 0 (σ.count r) ne)))
            (eq? (σ.count r) 0);
        within = λ p r l. let w = cells.on_chain p r l in ((names-refs z some_degree r).0 w.0, w.1);
        used_ok =
            λ p.
            omega (
              arith,
              cells.in_use p,
              cells_in_all z some_degree cells.reached cells.free
                  (λ r t. live_named r (live r ((cells.reached_is r).0 t))) cells.on_chain cells.once p,
            );
        rest =
            λ q k e.
            ⊎_elim (λ y. y) (λ ne. absurd (omega (arith, live q (holder_Reached q k ne)))) (eq? (σ.kid q k) 0);
        blank =
            λ q k e. split (names z q) (λ n. cells.rest_plain q k n (idle_cell q e n)) (λ n. clipped.no_plain q k (refs_out z q n));
        deep = λ q l e. Reached-deep z σ clipped.no_kid held-Placed q (live_cells q l) e;
        clip = clipped.no_kid;
        below = λ q k nz. Reached-below z σ clipped.no_kid held-Placed q k (holder_Reached q k nz) nz;
        no_root = free_root;
      }

-- the row of a right header's degree
pub header_Right : {a : List ℕ} {z : Shape} (h : Header a z) → Right (row z.degree z.bits z.depths h.allowed.last)
header_Right {a} {z} h =
    row_Right (row z.degree z.bits z.depths h.allowed.last)
    (row_of_in z.degree z.bits z.depths h.allowed.last h.allowed.in_table)

pub Header-degree : {a : List ℕ} {z : Shape} → Header a z → 0 < z.degree
Header-degree {a} {z} h = degree_some (row z.degree z.bits z.depths h.allowed.last) (header_Right h)

-- both keep the shape, so they are abbreviations
abbrev pub sound_local : (a : List ℕ) → Sound a → LocallySound a
sound_local a s =
    record {
      shape = s.shape;
      header = s.header;
      slots = s.slots;
      free = s.cells.free;
      local =
          cells_Local s.shape (columns s.shape a) s.header.allowed.last (header_Right s.header)
          (columns-Clipped s.shape a (Header-degree s.header)) s.slots s.cells;
    }

abbrev pub local_sound : (a : List ℕ) → LocallySound a → Sound a
local_sound a l =
    record {
      shape = l.shape;
      header = l.header;
      slots = l.slots;
      cells = Local-Cells l.shape (columns l.shape a) (Header-degree l.header) l.free l.local;
    }

pub Sound-iff : (a : List ℕ) → Sound a ↔ LocallySound a
Sound-iff a = (sound_local a, local_sound a)

-- a slot of a sound arena that is held is not a free one, so it has a map
pub held_slot_lem : (z : Shape) (σ : State) (i : ℕ) → σ.held i ≡ 1 → FreeSlot σ i ⊎ HeldSlot z σ i → HeldSlot z σ i
held_slot_lem z σ i e (inl f) = absurd (omega (arith, f.not_held))
held_slot_lem z σ i e (inr k) = k
