-- What an update has written before it holds its slot, on an arena in the local form: the new root is in hand, and what lived is still
-- there. Then the slot holds it, and no other slot is written.
use Rattle.std.proofs.Common.{◌≡◌, ℕ, ◌<◌, List, sym, ◌∙◌, arith}
use Rattle.counts.specs.Counts.{ind}
use Rattle.layout.specs.declared.Shape.{Shape}
use Rattle.layout.specs.Layout.{Lent}
use Rattle.layout.specs.Columns.{columns}
use Rattle.trie.specs.Trie.{Map, size}
use Rattle.arena.specs.Shows.{ShowsMap}
use Rattle.arena.specs.Local.{Local, Grow, SameSlots}
use Rattle.arena.proofs.LocalLaws.{rehand}
use Rattle.arena.proofs.Frames.{Grow-trans, slots_trans, map_kept, slots_at, slot_trans}
use Rattle.cells.specs.Frame.{Kept}
use Rattle.cells.specs.Mirrors.{Wrote}
use Rattle.cells.proofs.KeptLaws.{kept_trans, Kept-Lent}
use Rattle.cells.proofs.Made.{left, taking, Made}
use Rattle.cells.proofs.Meaning.{hold_means}
use Rattle.grants.specs.Rooms.{held_to}
use Rattle.grants.proofs.InsideLaws.{held_kept}
use Rattle.grants.proofs.FreshLaws.{left_by, Written}

-- the map m below the reference in hand, from the words a with these free cells
pub record Rooted (z : Shape) (a : List ℕ) (free : ℕ → List ℕ) (branches entries : ℕ) (m : Map ℕ) (w : Wrote) : Type 0 where
  pub kept : Kept z a w.words
  pub local : Local z (columns z w.words) (λ r. ind r w.at) (left_by branches entries free)
  pub grow : Grow (columns z a) (columns z w.words)
  pub slots : SameSlots (columns z a) (columns z w.words)
  pub shows : ShowsMap (columns z w.words) m w.at

module _ {z : Shape} {a : List ℕ} {free : ℕ → List ℕ} {branches entries : ℕ} {m : Map ℕ} {w : Wrote} where
  -- first the entries, which leave the words b, and then the branches above them
  pub path_Rooted : {b : List ℕ} → Kept z a b → Grow (columns z a) (columns z b) → SameSlots (columns z a) (columns z b)
      → Made z b (left (taking 1 entries) free) (taking 0 branches) w → ShowsMap (columns z w.words) m w.at
      → Rooted z a free branches entries m w
  path_Rooted kept grow slots M shown =
      record {
        kept = kept_trans kept M.kept;
        local = M.local;
        grow = Grow-trans grow M.grow;
        slots = slots_trans slots M.slots;
        shows = shown;
      }

  -- and then the slot holds it
  pub slot_means : (s n : ℕ) → Rooted z a free branches entries m w → Lent z a → n ≡ size m → s < z.slots
      → ((columns z a).held s ≡ 1 → ⊥)
      → Written z a free branches entries s m (held_to z s n branches entries w.at w.words).words
  slot_means s n R l sized ls away =
      let T = hold_means (λ q. 0) s w.at n (Kept-Lent R.kept l) ls (λ y. away (sym (slots_at R.slots s).held_eq ∙ y))
      (rehand _ (λ q nz. omega arith) R.local) in
      record {
        kept = held_kept l.allowed s n branches entries ls w R.kept;
        local = T.local;
        grow = Grow-trans R.grow T.grow;
        others = λ j ne. slot_trans (slots_at R.slots j) (T.others j ne);
        edition =
            record {
              slot = ls;
              held = T.held_is;
              shows = rw T.root_is (map_kept T.grow m w.at R.shows);
              sized = T.size_is ∙ sized;
            };
      }
