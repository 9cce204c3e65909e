-- Document 01's table for insert and change on a sound arena, with the definition's own counts: 8 and 9 exactly where "more needed
-- than free", 8 before 9, and 6 exactly where the key is not there. The names that stand in the counts play no part.
use Prim.Native.Nat.{ℕ}
use mathlib.Core.Bool.{Bool}
use mathlib.Core.List.{List}
use Rattle.segments.specs.Segments.{segment}
use Rattle.layout.specs.declared.Shape.{Shape}
use Rattle.layout.specs.Header.{Header}
use Rattle.trie.specs.Trie.{Map}
use Rattle.trie.specs.Cells.{Taken, insert_takes}
use Rattle.arena.specs.Sound.{Sound}
use Rattle.arena.specs.Holds.{Holds}
use Rattle.chains.specs.Chains.{an_entry}
use Rattle.grafts.proofs.CaseLaws.{has_key}
use Rattle.replies.proofs.Tables.{Held, HeaderNumbered}
use Rattle.grants.proofs.MeansLaws as grants
use Rattle.updates.proofs.TestLaws.{NotThere, write_of}
use Rattle.updates.proofs.RoomLaws.{plan_branches, plan_entries, plan_replaced}
use Rattle.updates.proofs.TableLaws.{WriteWhen, planned_lacks}
use Rattle.updates.proofs.UpdateLaws.{writer}

-- what an insert of the key into the map takes
abbrev pub needs : Shape → ℕ → ℕ → ℕ → Map ℕ → Taken
needs z h k v m = insert_takes (segment z.bits) z.depths (λ t. t) (λ j. j) (an_entry h k v) m

-- m is the map that edition e holds, where it is held
pub exactly_numbered : (a : List ℕ) → Sound a → (e h k v : ℕ) (change : Bool) (m : Map ℕ)
    → ((z : Shape) → Header a z → Held z a e → Holds z a e m)
    → HeaderNumbered a a (λ z. WriteWhen z a e change (has_key z h k m) (needs z h k v m).branches (needs z h k v m).entries)
    (write_of a e h k v change)
exactly_numbered a S e h k v change m holds =
    grants.exactly_numbered (writer a e h k v change) S m holds (λ z. NotThere change (has_key z h k m)) (λ z. (needs z h k v m).branches)
    (λ z. (needs z h k v m).entries)
    (λ z head E. planned_lacks z a e h k change (has_key z h k m) (plan_replaced a S z head e h k v m E))
    (λ z head E w.
    (plan_branches a S z head e h k v m E (λ t. t) (λ j. j), plan_entries a S z head e h k v m E (λ t. t) (λ j. j)))
