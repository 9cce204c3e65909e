-- What insert and change do with a slot stays inside the arena, on any words with a right header: words 0 to 7, the words beyond the
-- total and the length are kept, whatever is answered.
use Prim.Native.Nat.{ℕ, ◌<◌}
use mathlib.Core.List.{List}
use Rattle.trie.specs.declared.Entry.{Entry}
use Rattle.layout.specs.declared.Shape.{Shape}
use Rattle.layout.specs.Layout.{Lent}
use Rattle.cells.specs.Frame.{Kept}
use Rattle.chains.proofs.KeptLaws.{push_kept}
use Rattle.grafts.proofs.KeptLaws.{graft_Kept}
use Rattle.replies.specs.declared.Refusal.TheVariants as Why
use Rattle.grants.proofs.InsideLaws.{wrote_kept, hold_Kept}
use Rattle.updates.specs.declared.Plan.{Plan}
use Rattle.updates.specs.Calls.{write_to}

pub write_kept : {z : Shape} {a : List ℕ} → Lent z a → (x : Entry) (p : Plan) (s : ℕ) → s < z.slots
    → Kept z a (write_to z a x p s).words
unfolding write_to
write_kept {z} l x p s ls =
    wrote_kept _ Why.NoEntryCells _ (push_kept _ _ p.tail.count p.tail.from p.tail.rest l)
    (hold_Kept l.allowed s p.size _ _ ls _ (graft_Kept z x.hash _ p.replaced z.depths 0 p.root _))
