-- What format, new edition and share promise: the answer and every word that they leave, as specs/Calls.antt says, and what that
-- means.
use Rattle.std.specs.Prelude.{ℕ, ◌≡◌, List, Result, Ok}
use Rattle.trie.specs.Trie.{Map, empty}
use Rattle.layout.specs.declared.Shape.{Shape}
use Rattle.layout.specs.Header.{Header}
use Rattle.arena.specs.Sound.{Sound}
use Rattle.replies.specs.Answers.{unit_answer, number_answer}
use Rattle.replies.specs.Outcomes.{leaves}
use Rattle.arena.specs.Holds.{Holds, Keeps}
use Rattle.makes.specs.Calls.{format_of, new_edition_of, share_of}
use Rattle.replies.specs.declared.Refusal.{Refusal}

pub record Formats (a : List ℕ) (degree branches entries editions : ℕ) (r : Result (Unit {0}) Refusal) (b : List ℕ) : Type 0 where
  pub outcome : leaves (unit_answer r) b ≡ format_of a degree branches entries editions
  pub sound : r ≡ (Ok tt) → Sound b
  pub no_edition : r ≡ (Ok tt) → (z : Shape) → Header b z → (e : ℕ) (m : Map ℕ) → Holds z b e m → ⊥

pub record MakesNew (a : List ℕ) (r : Result ℕ Refusal) (b : List ℕ) : Type 0 where
  pub outcome : leaves (number_answer r) b ≡ new_edition_of a
  pub sound : Sound a → Sound b
  pub kept : Keeps a b
  pub new : (z : Shape) → Header a z → (e : ℕ) → r ≡ Ok e → Holds z b e empty

pub record Shares (a : List ℕ) (e : ℕ) (r : Result ℕ Refusal) (b : List ℕ) : Type 0 where
  pub outcome : leaves (number_answer r) b ≡ share_of a e
  pub sound : Sound a → Sound b
  pub kept : Keeps a b
  pub new : (z : Shape) → Header a z → (m : Map ℕ) → Holds z a e m → (f : ℕ) → r ≡ Ok f → Holds z b f m
