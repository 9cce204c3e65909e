-- What may happen to an arena: a format that answered 0, then any public calls in any order, on any arguments and with any other
-- words lent, refusals included. Of a call nothing is known but that its contract holds.
use Rattle.std.specs.Prelude.{ℕ, ◌≡◌, List, [], ◌∷◌, Result, Ok, Bool}
use Rattle.makes.specs.Terms.{Formats, MakesNew, Shares}
use Rattle.updates.specs.Terms.{Inserts, Changes}
use Rattle.removes.specs.Terms.{Removes}
use Rattle.drops.specs.Terms.{Drops}
use Rattle.looks.specs.Terms.{Sizes, Uses, Gets, Lists, Compares}
use Rattle.checks.specs.Terms.{Checks}
use Rattle.replies.specs.declared.Refusal.{Refusal}
use Rattle.replies.specs.declared.Updated.{Updated}
use Rattle.replies.specs.Answers.{cell_counts}
use Rattle.replies.specs.declared.CellCounts.{CellCounts}

-- a public call: its arguments, then its answer; for list and check the other words lent, before and after
pub data Call : Type 0 where
  formats : (degree branches entries editions : ℕ) → Result (Unit {0}) Refusal → Call
  makes_new : Result ℕ Refusal → Call
  shares : (e : ℕ) → Result ℕ Refusal → Call
  inserts : (e h k v : ℕ) → Result Updated Refusal → Call
  changes : (e h k v : ℕ) → Result Updated Refusal → Call
  removes : (e h k : ℕ) → Result Updated Refusal → Call
  drops : (e : ℕ) → Result CellCounts Refusal → Call
  sizes : (e : ℕ) → Result ℕ Refusal → Call
  uses : Result CellCounts Refusal → Call
  gets : (e h k : ℕ) → Result ℕ Refusal → Call
  lists : (e place : ℕ) (out : List ℕ) → Result ℕ Refusal → (out' : List ℕ) → Call
  compares : (e f : ℕ) → Result Bool Refusal → Call
  checks : (work : List ℕ) → Result (Unit {0}) Refusal → (work' : List ℕ) → Call

-- the call met its contract, and the arena's words went from a to b; a call that reads is lent them shared, so they stay
unfoldable pub Meets : Call → List ℕ → List ℕ → Type 0
Meets (formats degree branches entries editions r) a b = Formats a degree branches entries editions r b
Meets (makes_new r) a b = MakesNew a r b
Meets (shares e r) a b = Shares a e r b
Meets (inserts e h k v r) a b = Inserts a e h k v r b
Meets (changes e h k v r) a b = Changes a e h k v r b
Meets (removes e h k r) a b = Removes a e h k r b
Meets (drops e r) a b = Drops a e r b
Meets (sizes e r) a b = Sizes a e r × (b ≡ a)
Meets (uses r) a b = Uses a r × (b ≡ a)
Meets (gets e h k r) a b = Gets a e h k r × (b ≡ a)
Meets (lists e place out r out') a b = Lists a e place out r out' × (b ≡ a)
Meets (compares e f r) a b = Compares a e f r × (b ≡ a)
Meets (checks work r work') a b = Checks a work r work' × (b ≡ a)

-- calls one after the other
pub data Calls : List ℕ → List Call → List ℕ → Type 0 where
  no_call : (a : List ℕ) → Calls a [] a
  then : (a b d : List ℕ) (c : Call) (cs : List Call) → Meets c a b → Calls b cs d → Calls a (c ∷ cs) d

-- words that are an arena with such a past
pub record History (b : List ℕ) : Type 0 where
  pub lent : List ℕ
  pub degree : ℕ
  pub branches : ℕ
  pub entries : ℕ
  pub editions : ℕ
  pub formatted : List ℕ
  pub format : Formats lent degree branches entries editions (Ok tt) formatted
  pub calls : List Call
  pub made : Calls formatted calls b

-- What ends edition e: a drop of it that is done, and a format that is done, which "so ends every edition".
pub data Ends (e : ℕ) : Call → Type 0 where
  by_format : (degree branches entries editions : ℕ) → Ends e (formats degree branches entries editions (Ok tt))
  by_drop : (branches entries : ℕ) → Ends e (drops e (cell_counts branches entries))

-- none of the calls ends edition e
unfoldable pub Spared : ℕ → List Call → Type 0
Spared e [] = Unit {0}
Spared e (c ∷ cs) = (Ends e c → ⊥) × Spared e cs
