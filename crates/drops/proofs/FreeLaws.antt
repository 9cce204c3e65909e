-- What it means that an edition which is held is let go, on a sound arena: the slot is empty, what it named and nothing else names
-- is free, every other edition is the same named trie, and the arena stays sound.
use Rattle.std.proofs.Common.{◌≡◌, ℕ, ◌<◌, ◌≤◌, List, [], ◌∷◌, ap, ◌∙◌, inl, ⊎_elim, arith}
use Rattle.cases.proofs.Cases.{eq?}
use Rattle.trie.specs.Trie.{Map, empty, root, leaf, branch}
use Rattle.layout.specs.declared.Shape.{Shape}
use Rattle.layout.specs.Layout.{kind_of, Lent}
use Rattle.layout.specs.Header.{Header}
use Rattle.layout.specs.Columns.{State, columns}
use Rattle.layout.proofs.HeaderLaws.{Header-Lent}
use Rattle.arena.specs.Shows.{ShowsChain, Shows, ShowsMap}
use Rattle.arena.specs.Sound.{FreeSlot, HeldSlot, Sound}
use Rattle.arena.specs.Local.{Local, Shrink}
use Rattle.arena.specs.Holds.{Holds}
use Rattle.arena.proofs.LocalLaws.{root_live}
use Rattle.arena.proofs.Frames.{SameSlot, Edition-left, Shrink-trans, slot_trans, slots_at, slot_stays, other_slots}
use Rattle.arena.proofs.Equivalent.{held_slot_lem, local_sound}
use Rattle.arena.proofs.Shelved.{Local-in, slots_in}
use Rattle.cells.proofs.KeptLaws.{Kept-Header}
use Rattle.releases.proofs.Meaning.{Released, release_means, used_falls}
use Rattle.replies.specs.Answers.{Answer, done}
use Rattle.replies.specs.Outcomes.{Outcome, leaves}
use Rattle.drops.specs.Calls.{free_words, fell}
use Rattle.drops.specs.Terms.{Gone}
use Rattle.drops.proofs.InsideLaws.{free_Kept}
use Rattle.drops.proofs.EmptiedSlot.{slot_out, emptied, still_Lent}

-- a branch that a slot names stands at depth 0
root_mark : (σ : State) (m : Map ℕ) (r : ℕ) → ShowsMap σ m r → (r ≡ 0 → ⊥) → kind_of r ≡ 0 → σ.mark r ≡ 0
unfolding ShowsMap Shows ShowsChain
root_mark σ empty r h nz ev = absurd (nz h)
root_mark σ (root (leaf [])) r h nz ev = absurd h
root_mark σ (root (leaf (x ∷ xs))) r h nz ev = absurd (omega (arith, h.0))
root_mark σ (root (branch c ks)) r h nz ev = h.2

-- WHAT A CALL MEANS that was refused, and one that was done
pub record Means (a : List ℕ) (z : Shape) (e : ℕ) (o : Outcome) : Type 0 where
  pub sound : Sound o.words
  pub kept : (i : ℕ) (m : Map ℕ) → (i ≡ e → ⊥) → Holds z a i m → Holds z o.words i m
  pub gone : (branches entries : ℕ) → o.answer ≡ done branches entries → Gone z a o.words e branches entries

-- A DROP OF AN EDITION THAT IS HELD
module _ (a : List ℕ) (S : Sound a) (z : Shape) (h : Header a z) (e : ℕ) (slot : e < z.slots)
    (held : (columns z a).held e ≡ 1) where
  abbrev r : ℕ
  r = (columns z a).root e

  -- the words that are left
  abbrev b : List ℕ
  b = free_words z a e

  lent : Lent z a
  lent = Header-Lent a z h

  I : Local z (columns z a) (λ x. 0) (Local-in a S z h).0
  I = (Local-in a S z h).1

  -- what it named is at its place
  at_place : (r ≡ 0 → ⊥) → kind_of r ≡ 0 → (columns z (slot_out a S z h e slot)).mark r ≡ 0
  at_place nz ev =
      let K : HeldSlot z (columns z a) e = held_slot_lem z (columns z a) e held (slots_in a S z h e slot) in
      (emptied a S z h e slot).grow.mark_eq r (root_live I e slot nz) ∙ root_mark (columns z a) K.map r K.edition.shows nz ev

  released : Released z (slot_out a S z h e slot) (λ x. 0) b
  unfolding free_words
  released =
      release_means z.depths 0 r (λ x. 0) (still_Lent a S z h e slot) (emptied a S z h e slot).local (omega arith) at_place

  shrunk : Shrink 0 (columns z a) (columns z b)
  shrunk = Shrink-trans ((emptied a S z h e slot).shrink 0) released.shrink

  other : (i : ℕ) → (i ≡ e → ⊥) → SameSlot (columns z a) (columns z b) i
  other i ne = slot_trans ((emptied a S z h e slot).others i ne) (slots_at released.slots i)

  is_empty : FreeSlot (columns z b) e
  is_empty =
      let E = slots_at released.slots e in
      let out = emptied a S z h e slot in
      record {
        not_held = E.held_eq ∙ out.held_is;
        no_root = E.root_eq ∙ out.root_is;
        no_size = E.size_eq ∙ out.size_is;
      }

  free_kept_edition : (i : ℕ) (m : Map ℕ) → (i ≡ e → ⊥) → Holds z a i m → Holds z b i m
  free_kept_edition i m ne E = Edition-left shrunk released.local (other i ne) E

  free_Sound : Sound b
  free_Sound =
      local_sound b
      (record {
        shape = z;
        header = Kept-Header (free_Kept lent e slot) h;
        slots =
            λ i l.
            ⊎_elim (λ q. inl (rw q is_empty)) (λ ne. slot_stays (other i ne) (λ m E. free_kept_edition i m ne E) (slots_in a S z h i l)) (eq? i e);
        free = released.free;
        local = released.local;
      })

  pub free_Means : Means a z e (leaves (done (fell a b 0) (fell a b 1)) b)
  free_Means =
      let falls : (p : ℕ) → (columns z b).used p ≤ (columns z a).used p = used_falls I released.local shrunk in
      record {
        sound = free_Sound;
        kept = free_kept_edition;
        gone =
            λ nb ne q.
            record {
              empty = is_empty;
              others = other_slots z a b e other;
              branches_fall = omega (arith, falls 0, ap (λ (w : Answer). w.a) q);
              entries_fall = omega (arith, falls 1, ap (λ (w : Answer). w.b) q);
              same_cells = shrunk;
            };
      }
