-- What remove promises: an update (grants/Terms) whose answer and words are those of specs/Calls.antt and whose step is the trie's
-- remove. What stands in quotes is document 01's.
use Rattle.std.specs.Prelude.{ℕ, List, Result}
use Rattle.segments.specs.Segments.{segment}
use Rattle.trie.specs.Trie.{remove}
use Rattle.trie.specs.Cells.{remove_takes}
use Rattle.layout.specs.declared.Shape.{Shape}
use Rattle.grants.specs.Terms.{Step, Updates}
use Rattle.removes.specs.Calls.{remove_of}
use Rattle.replies.specs.declared.Refusal.{Refusal}
use Rattle.replies.specs.declared.Updated.{Updated}

-- the key taken out: "one branch cell for each branch left on the path in the result, and one entry cell for each chain entry that
-- stood before the removed one; an empty result takes none"
abbrev pub remove_step : ℕ → ℕ → Shape → Step
remove_step h k z =
    record {
      makes = λ b f m. remove (segment z.bits) z.depths b f h k m;
      takes = λ b f m. remove_takes (segment z.bits) z.depths b f h k m;
    }

abbrev pub Removes : List ℕ → ℕ → ℕ → ℕ → Result Updated Refusal → List ℕ → Type 0
Removes a e h k r b = Updates a e (remove_step h k) (remove_of a e h k) r b
