-- A map that is put in a slot that was not held: every edition that was held is held as it was, since no cell loses a word and no
-- other slot is written; and a sound arena stays sound, if the local form holds with nothing in hand.
use Prim.Native.Nat.{ℕ}
use mathlib.Core.Path.{◌≡◌, sym, ap, ◌∙◌}
use mathlib.Core.List.{List}
use mathlib.Core.Logic.{inr, ⊎_elim}
use Rattle.cases.proofs.Cases.{eq?}
use Rattle.layout.specs.declared.Shape.{Shape}
use Rattle.layout.specs.Header.{Header}
use Rattle.layout.specs.Columns.{columns}
use Rattle.trie.specs.Trie.{Map}
use Rattle.arena.specs.Sound.{Sound}
use Rattle.arena.specs.Local.{Local, Grow}
use Rattle.arena.specs.Holds.{Holds, Shelves}
use Rattle.arena.proofs.Frames.{SameSlot, slot_stays, Edition-kept}
use Rattle.arena.proofs.Equivalent.{local_sound}
use Rattle.arena.proofs.Shelved.{slots_in}

-- the words b are those of a with slot s written, which was not held, and maybe more cells in use
pub record Beside (z : Shape) (a b : List ℕ) (s : ℕ) : Type 0 where
  pub before : Header a z
  pub after : Header b z
  pub away : (columns z a).held s ≡ 1 → ⊥
  pub grow : Grow (columns z a) (columns z b)
  pub others : (j : ℕ) → (j ≡ s → ⊥) → SameSlot (columns z a) (columns z b) j

module _ {z : Shape} {a b : List ℕ} {s : ℕ} (B : Beside z a b s) where
  pub beside_keeps : (e : ℕ) (m : Map ℕ) → Holds z a e m → Holds z b e m
  beside_keeps e m E = Edition-kept B.grow (B.others e (λ q. B.away (ap (columns z a).held (sym q) ∙ E.held))) E

  pub beside_Sound : {free : ℕ → List ℕ} {m : Map ℕ} → Shelves z b s m → Local z (columns z b) (λ r. 0) free → Sound a → Sound b
  beside_Sound {free} {m} N I S =
      local_sound b
      (record {
        shape = z;
        header = B.after;
        slots =
            λ j lj.
            ⊎_elim
            (λ js. inr (rw js (record { map = m; edition = N.holds; built = N.built })))
            (λ ne. slot_stays (B.others j ne) (λ k E. Edition-kept B.grow (B.others j ne) E) (slots_in a S z B.before j lj))
            (eq? j s);
        free = free;
        local = I;
      })
