-- What insert, change, remove and drop promise where nothing of the words that their own definitions compute is believed: the number by
-- document 01's table, and of a contract all but its first field. The outcome there is taken to be whatever the call left.
use Rattle.std.specs.Prelude.{ℕ, ◌<◌, ◌≡◌, Bool, false, List, Result, Err}
use Rattle.trie.specs.Trie.{Map}
use Rattle.trie.specs.Names.{forget}
use Rattle.trie.specs.Cells.{Taken}
use Rattle.layout.specs.declared.Shape.{Shape}
use Rattle.replies.specs.declared.Refusal.{Refusal}
use Rattle.replies.specs.Answers as A
use Rattle.replies.specs.Outcomes.{leaves}
use Rattle.replies.proofs.Tables.{HeaderNumbered}
use Rattle.grants.specs.Terms.{Step, NewEdition, Updates}
use Rattle.grants.proofs.TableLaws.{UpdateWhen}
use Rattle.chains.specs.Chains.{an_entry}
use Rattle.grafts.proofs.CaseLaws.{has_key}
use Rattle.updates.specs.Terms.{insert_step}
use Rattle.updates.proofs.TestLaws.{NotThere}
use Rattle.updates.proofs.ExactLaws as updates
use Rattle.removes.specs.Terms.{remove_step}
use Rattle.removes.proofs.ExactLaws as removes
use Rattle.drops.specs.Terms.{DropsTo}
use Rattle.drops.proofs.NumberLaws.{DropWhen}
use Rattle.settled.specs.Alike.{Alike}
use Rattle.replies.specs.declared.Updated.{Updated}
use Rattle.replies.specs.Answers.{took}
use Rattle.replies.specs.declared.CellCounts.{CellCounts}

-- by what 6 says, what the update takes and what it makes
pub record UpdateTold (a : List ℕ) (e : ℕ) (Lacks : Shape → Type 0) (takes : Shape → Taken) (step : Shape → Step) (r : Result Updated Refusal) (b : List ℕ)
    : Type 0 where
  pub number : HeaderNumbered a a (λ z. UpdateWhen z a e (Lacks z) (takes z).branches (takes z).entries) (leaves (A.update_answer r) b)
  pub means : Updates a e step (leaves (A.update_answer r) b) r b

-- insert, and change where `change` is true, of an edition that holds m
abbrev pub InsertTold : List ℕ → (e h k v : ℕ) → Bool → Map ℕ → Result Updated Refusal → List ℕ → Type 0
InsertTold a e h k v change m =
    UpdateTold a e (λ z. NotThere change (has_key z h k m)) (λ z. updates.needs z h k v m) (insert_step (an_entry h k v))

abbrev pub RemoveTold : List ℕ → (e h k : ℕ) → Map ℕ → Result Updated Refusal → List ℕ → Type 0
RemoveTold a e h k m = UpdateTold a e (λ z. has_key z h k m ≡ false) (λ z. removes.needs z h k m) (remove_step h k)

pub record DropTold (a : List ℕ) (e : ℕ) (r : Result CellCounts Refusal) (b : List ℕ) : Type 0 where
  pub number : HeaderNumbered a a (DropWhen a e) (leaves (A.cells_answer r) b)
  pub means : DropsTo a e (leaves (A.cells_answer r) b) r b

-- two outcomes in which the same free cells were taken for the same places
abbrev pub SameNames : {z : Shape} {a b b' : List ℕ} {step : Step} {m : Map ℕ} {s branches entries : ℕ}
    → NewEdition z a b step m s branches entries → NewEdition z a b' step m s branches entries → Type 0
SameNames {branches = x} {entries = y} N N' =
    ((i : ℕ) → i < x → N.branch_names i ≡ N'.branch_names i) × ((i : ℕ) → i < y → N.entry_names i ≡ N'.entry_names i)

-- Two outcomes of an update of the map m agree but for docs/EXCEPTIONS.md: the answer is one, a refusal's words are one, the new editions
-- are one trie but for its names, and where the same free cells were taken for the same places the arenas are alike.
pub record Agree (z : Shape) (a : List ℕ) (step : Step) (m : Map ℕ) (r : Result Updated Refusal) (b : List ℕ) (r' : Result Updated Refusal) (b' : List ℕ) : Type 0 where
  pub same_answer : r ≡ r'
  pub same_refusal : (why : Refusal) → r ≡ Err why → b ≡ b'
  pub same_trie : (s branches entries : ℕ) → r ≡ took s branches entries → (N : NewEdition z a b step m s branches entries)
      → (N' : NewEdition z a b' step m s branches entries) → forget N.result ≡ forget N'.result
  pub alike : (s branches entries : ℕ) → r ≡ took s branches entries → (N : NewEdition z a b step m s branches entries)
      → (N' : NewEdition z a b' step m s branches entries) → SameNames N N' → Alike z b b'
