-- What size, in use, get, list and equal promise: the answer and every word that they leave, as specs/Calls.antt says, and what
-- that means. Get needs only that the slot holds a map; list and equal, that the rules can build it, as in a sound arena they all are.
use Rattle.std.specs.Prelude.{ℕ, ◌≡◌, List, Result, Ok, Bool}
use Rattle.segments.specs.Segments.{segment}
use Rattle.trie.specs.Trie.{Map, size, get, listing, equal}
use Rattle.layout.specs.declared.Shape.{Shape}
use Rattle.layout.specs.Header.{Header}
use Rattle.arena.specs.Sound.{Sound, reached_of}
use Rattle.replies.specs.Answers.{number_answer, truth_answer, cells_answer, cell_counts, truth_value}
use Rattle.replies.specs.Outcomes.{leaves}
use Rattle.arena.specs.Holds.{Holds, Shelves}
use Rattle.looks.specs.Calls.{size_of, in_use_of, get_of, value_found, list_of, list_from, equal_of}
use Rattle.replies.specs.declared.Refusal.{Refusal}
use Rattle.replies.specs.declared.CellCounts.{CellCounts}

pub record Sizes (a : List ℕ) (e : ℕ) (r : Result ℕ Refusal) : Type 0 where
  pub result : number_answer r ≡ size_of a e
  pub shown : (z : Shape) → Header a z → (m : Map ℕ) → Holds z a e m → r ≡ Ok (size m)

pub record Uses (a : List ℕ) (r : Result CellCounts Refusal) : Type 0 where
  pub result : cells_answer r ≡ in_use_of a
  pub reached : (s : Sound a) → r ≡ cell_counts (reached_of s.shape s.cells.reached 0) (reached_of s.shape s.cells.reached 1)

pub record Gets (a : List ℕ) (e h k : ℕ) (r : Result ℕ Refusal) : Type 0 where
  pub result : number_answer r ≡ get_of a e h k
  pub shown : (z : Shape) → Header a z → (m : Map ℕ) → Holds z a e m → number_answer r ≡ value_found (get (segment z.bits) z.depths h k m)

pub record Lists (a : List ℕ) (e place : ℕ) (out : List ℕ) (r : Result ℕ Refusal) (out' : List ℕ) : Type 0 where
  pub outcome : leaves (number_answer r) out' ≡ list_of a e place out
  pub shown : (z : Shape) → Header a z → (m : Map ℕ) → Shelves z a e m → leaves (number_answer r) out' ≡ list_from (size m) (listing m) place out

pub record Compares (a : List ℕ) (e f : ℕ) (r : Result Bool Refusal) : Type 0 where
  pub result : truth_answer r ≡ equal_of a e f
  pub shown :
      (z : Shape) → Header a z → (m n : Map ℕ) → Shelves z a e m → Shelves z a f n
      → truth_answer r ≡ truth_value (equal (segment z.bits) z.depths m n)
