-- Drop stays inside the arena, on any words with a right header: words 0 to 7, the words beyond the total and the length are
-- kept, whatever is answered.
use Rattle.std.proofs.Common.{ℕ, ◌<◌, List}
use Rattle.cases.proofs.Cases.{split}
use Rattle.layout.specs.declared.Shape.{Shape}
use Rattle.layout.specs.Layout.{Lent}
use Rattle.layout.specs.Header.{Header}
use Rattle.layout.proofs.HeaderLaws.{Header-says, Header-Lent}
use Rattle.cells.specs.Frame.{Kept}
use Rattle.cells.specs.Slots.{held_slot}
use Rattle.cells.proofs.KeptLaws.{kept_refl, kept_trans, slots_kept}
use Rattle.cells.proofs.SlotLaws.{held_says}
use Rattle.releases.proofs.KeptLaws.{release_Kept}
use Rattle.drops.specs.Calls.{free_words, drop_in, drop_of}
use Rattle.drops.proofs.CaseLaws.{drop_held, drop_not_held, drop_Right}

module _ {z : Shape} {a : List ℕ} (l : Lent z a) (e : ℕ) where
  pub free_Kept : e < z.slots → Kept z a (free_words z a e)
  unfolding free_words
  free_Kept slot = kept_trans (slots_kept z a e 0 0 0 l.allowed.wide slot) (release_Kept z z.depths 0 _ _)

  pub drop_Kept : Kept z a (drop_in z a e).words
  drop_Kept =
      split (held_slot z a e)
      (λ t. rw (drop_held z a e t) (free_Kept (held_says z a e t).0))
      (λ t. rw (drop_not_held z a e t) (kept_refl z a))

pub drop_inside : (a : List ℕ) (e : ℕ) (z : Shape) → Header a z → Kept z a (drop_of a e).words
drop_inside a e z h = rw (drop_Right a e z ((Header-says a z).1 h)) (drop_Kept (Header-Lent a z h) e)
