-- What an update leaves to be seen by the public calls that look: the new edition differs from the old one in one key.
use Rattle.std.specs.Prelude.{ℕ, ◌≡◌, List, length, Result}
use Rattle.trie.specs.declared.Entry.{Entry}
use Rattle.trie.specs.Entry.{Got}
use Rattle.trie.specs.Listing.{lookup, Once}
use Rattle.replies.specs.Answers.{number_answer}
use Rattle.replies.specs.Outcomes.{leaves}
use Rattle.looks.specs.Calls.{value_found, list_from}
use Rattle.looks.specs.Terms.{Gets, Lists}
use Rattle.replies.specs.declared.Refusal.{Refusal}

-- Edition s of the arena b answers for hash h and key k what g says, and for every other what edition e of the arena a answers. What it
-- lists, from any place and into any output, is a list of entries with no key twice, which says of every key what get answers, and of
-- this one what g says.
pub record Follows (a b : List ℕ) (e s h k : ℕ) (g : Got) : Type 0 where
  pub same : (r : Result ℕ Refusal) → Gets b s h k r → number_answer r ≡ value_found g
  pub other : (h' k' : ℕ) → ((h ≡ h') × (k ≡ k') → ⊥) → (r r' : Result ℕ Refusal) → Gets a e h' k' r → Gets b s h' k' r' → r ≡ r'
  pub listed : List Entry
  pub once : Once listed
  pub says : (h' k' : ℕ) (r : Result ℕ Refusal) → Gets b s h' k' r → number_answer r ≡ value_found (lookup h' k' listed)
  pub shows : lookup h k listed ≡ g
  pub lists : (place : ℕ) (out : List ℕ) (r : Result ℕ Refusal) (out' : List ℕ) → Lists b s place out r out'
      → leaves (number_answer r) out' ≡ list_from (length listed) listed place out
