-- The words of a sound arena with the slot of an edition emptied: what its root named is in hand, and no other slot and no cell has
-- changed.
use Rattle.std.proofs.Common.{ℕ, ◌+◌, ◌<◌, List}
use Rattle.counts.specs.Counts.{ind}
use Rattle.layout.specs.declared.Shape.{Shape}
use Rattle.layout.specs.Layout.{Lent}
use Rattle.layout.specs.Header.{Header}
use Rattle.layout.specs.Columns.{columns, set_slot_words}
use Rattle.layout.proofs.HeaderLaws.{Header-Lent}
use Rattle.arena.specs.Sound.{Sound}
use Rattle.arena.proofs.Shelved.{Local-in}
use Rattle.cells.proofs.KeptLaws.{Kept-Lent, slots_kept}
use Rattle.cells.proofs.Meaning.{Slotted, let_go_means}

module _ (a : List ℕ) (S : Sound a) (z : Shape) (h : Header a z) (e : ℕ) (slot : e < z.slots) where
  abbrev pub slot_out : List ℕ
  slot_out = set_slot_words z a e 0 0 0

  pub emptied : Slotted z e 0 0 0 (columns z a) (columns z slot_out) (λ x. ind x ((columns z a).root e) + 0) (Local-in a S z h).0
  emptied = let_go_means e (Header-Lent a z h) slot (Local-in a S z h).1

  pub still_Lent : Lent z slot_out
  still_Lent = Kept-Lent (slots_kept z a e 0 0 0 (Header-Lent a z h).allowed.wide slot) (Header-Lent a z h)
