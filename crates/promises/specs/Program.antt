-- Any program that keeps the contracts, known by them alone, with the calls that document 01's cheats are about. That there is one is
-- `a_program` in proofs/ProgramLaws.antt.
use Rattle.std.specs.Prelude.{ℕ, ◌≡◌, List, Result}
use Rattle.trie.specs.Entry.{Word64}
use Rattle.chains.specs.Chains.{an_entry}
use Rattle.makes.specs.Terms.{Formats, MakesNew}
use Rattle.updates.specs.Terms.{Inserts}
use Rattle.removes.specs.Terms.{Removes}
use Rattle.drops.specs.Terms.{Drops}
use Rattle.looks.specs.Terms.{Gets}
use Rattle.replies.specs.declared.Refusal.{Refusal}
use Rattle.replies.specs.declared.Updated.{Updated}
use Rattle.replies.specs.declared.CellCounts.{CellCounts}

-- an answer and the arena's words afterwards, of which the contract holds
pub record Did (A : Type 0) (Contract : A → List ℕ → Type 0) : Type 0 where
  pub answer : A
  pub words : List ℕ
  pub meets : Contract answer words

-- what is inserted are 64-bit words
pub record Program : Type 0 where
  pub format : (a : List ℕ) (degree branches entries editions : ℕ) → Did (Result (Unit {0}) Refusal) (λ r b. Formats a degree branches entries editions r b)
  pub new_edition : (a : List ℕ) → Did (Result ℕ Refusal) (λ r b. MakesNew a r b)
  pub insert : (a : List ℕ) (e h k v : ℕ) → Word64 (an_entry h k v) → Did (Result Updated Refusal) (λ r b. Inserts a e h k v r b)
  pub remove : (a : List ℕ) (e h k : ℕ) → Did (Result Updated Refusal) (λ r b. Removes a e h k r b)
  pub drop : (a : List ℕ) (e : ℕ) → Did (Result CellCounts Refusal) (λ r b. Drops a e r b)
  pub get : (a : List ℕ) (e h k : ℕ) → Did (Result ℕ Refusal) (λ r b. Gets a e h k r × (b ≡ a))
