-- Document 01's table for remove on a sound arena, with the definition's own counts: 8 and 9 exactly where "more needed than free", 8
-- before 9, and 6 exactly where the key is not there. The names that stand in the counts play no part.
use Rattle.std.proofs.Common.{◌≡◌, ℕ, false, List, sym, ◌∙◌}
use Rattle.layout.specs.declared.Shape.{Shape}
use Rattle.layout.specs.Header.{Header}
use Rattle.trie.specs.Trie.{Map}
use Rattle.trie.specs.Cells.{Taken}
use Rattle.arena.specs.Sound.{Sound}
use Rattle.arena.specs.Holds.{Holds}
use Rattle.grafts.proofs.CaseLaws.{has_key}
use Rattle.replies.proofs.Tables.{Held, HeaderNumbered}
use Rattle.grants.proofs.TableLaws.{UpdateWhen}
use Rattle.grants.proofs.MeansLaws as grants
use Rattle.removes.specs.Calls.{remove_of}
use Rattle.removes.proofs.MapLaws.{takes}
use Rattle.removes.proofs.RoomLaws.{removal_found, removal_branches, removal_entries}
use Rattle.removes.proofs.RemoveLaws.{writer}

-- what a removal of the key from the map takes
abbrev pub needs : Shape → ℕ → ℕ → Map ℕ → Taken
needs z h k m = takes z (λ t. t) (λ j. j) h k m

-- m is the map that edition e holds, where it is held
pub exactly_numbered : (a : List ℕ) → Sound a → (e h k : ℕ) (m : Map ℕ) → ((z : Shape) → Header a z → Held z a e → Holds z a e m)
    → HeaderNumbered a a (λ z. UpdateWhen z a e (has_key z h k m ≡ false) (needs z h k m).branches (needs z h k m).entries)
    (remove_of a e h k)
exactly_numbered a S e h k m holds =
    grants.exactly_numbered (writer a e h k) S m holds (λ z. has_key z h k m ≡ false) (λ z. (needs z h k m).branches)
    (λ z. (needs z h k m).entries)
    (λ z head E. let q = removal_found a S z head e h k m E in (λ n. sym q ∙ n, λ n. q ∙ n))
    (λ z head E w.
    (removal_branches a S z head e h k m E w (λ t. t) (λ j. j), removal_entries a S z head e h k m E w (λ t. t) (λ j. j)))
