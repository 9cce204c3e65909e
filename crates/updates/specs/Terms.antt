-- What insert and change promise: an update (grants/Terms) whose answer and words are those of specs/Calls.antt and whose step is
-- the trie's insert. What stands in quotes is document 01's.
use Rattle.std.specs.Prelude.{ℕ, List, Result}
use Rattle.segments.specs.Segments.{segment}
use Rattle.trie.specs.declared.Entry.{Entry}
use Rattle.trie.specs.Trie.{insert, updated}
use Rattle.trie.specs.Cells.{insert_takes}
use Rattle.layout.specs.declared.Shape.{Shape}
use Rattle.chains.specs.Chains.{an_entry}
use Rattle.grants.specs.Terms.{Step, Updates}
use Rattle.updates.specs.Calls.{insert_of, change_of}
use Rattle.replies.specs.declared.Refusal.{Refusal}
use Rattle.replies.specs.declared.Updated.{Updated}

-- the entry x put in: "one branch cell for each branch on the new entry's path in the result, one cell for the entry, and one for
-- each chain entry that stood before a replaced one"
abbrev pub insert_step : Entry → Shape → Step
insert_step x z =
    record {
      makes = λ b f m. updated (insert (segment z.bits) z.depths b f x m);
      takes = λ b f m. insert_takes (segment z.bits) z.depths b f x m;
    }

abbrev pub Inserts : List ℕ → ℕ → ℕ → ℕ → ℕ → Result Updated Refusal → List ℕ → Type 0
Inserts a e h k v r b = Updates a e (insert_step (an_entry h k v)) (insert_of a e h k v) r b

abbrev pub Changes : List ℕ → ℕ → ℕ → ℕ → ℕ → Result Updated Refusal → List ℕ → Type 0
Changes a e h k v r b = Updates a e (insert_step (an_entry h k v)) (change_of a e h k v) r b
