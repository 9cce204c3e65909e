-- A call leaves the words of its arena, or it is one of those that write them: a format that is done, a new edition, a share, an update, a
-- drop that is done.
use Prim.Native.Nat.{ℕ}
use mathlib.Core.Path.{◌≡◌}
use mathlib.Core.List.{List}
use Rattle.layout.specs.declared.Shape.{Shape}
use Rattle.replies.specs.declared.Refusal.{Refusal}
use Rattle.replies.specs.Outcomes.{Outcome}
use Rattle.grants.specs.Terms.{Step, Updates}
use Rattle.makes.specs.Terms.{Formats, MakesNew, Shares}
use Rattle.makes.proofs.NumberLaws.{format_Numbered}
use Rattle.drops.specs.Terms.{Drops}
use Rattle.drops.proofs.NumberLaws.{drop_numbered}
use Rattle.promises.specs.History.{Call, formats, makes_new, shares, inserts, changes, removes, drops, sizes, uses, gets, lists, compares, checks, Meets}
use Rattle.promises.proofs.AnswerLaws.{refused_same}
use Rattle.std.specs.Prelude.{Result, Ok, Err}
use Rattle.replies.specs.declared.Updated.{Updated}
use Rattle.replies.specs.Answers.{cell_counts}
use Rattle.replies.specs.declared.CellCounts.{CellCounts}

pub data Writes (a b : List ℕ) : Call → Type 0 where
  left : (c : Call) → b ≡ a → Writes a b c
  formatted : (g n m s : ℕ) → Formats a g n m s (Ok tt) b → Writes a b (formats g n m s (Ok tt))
  made : (r : Result ℕ Refusal) → MakesNew a r b → Writes a b (makes_new r)
  shared : (e : ℕ) (r : Result ℕ Refusal) → Shares a e r b → Writes a b (shares e r)
  updated : (c : Call) (e : ℕ) (step : Shape → Step) (o : Outcome) (r : Result Updated Refusal) → Updates a e step o r b → Writes a b c
  dropped : (e x y : ℕ) → Drops a e (cell_counts x y) b → Writes a b (drops e (cell_counts x y))

pub format_Refused : {a b : List ℕ} {g n m s : ℕ} (why : Refusal) → Formats a g n m s (Err why) b → b ≡ a
format_Refused {a} {b} {g} {n} {m} {s} why w = refused_same (format_Numbered a g n m s).refusal why w.outcome

pub writes : (c : Call) (a b : List ℕ) → Meets c a b → Writes a b c
unfolding Meets
writes (formats g n m s (Ok u)) a b w = formatted g n m s w
writes (formats g n m s (Err why)) a b w = left _ (format_Refused why w)
writes (makes_new r) a b w = made r w
writes (shares e r) a b w = shared e r w
writes (inserts e h k v r) a b w = updated _ e _ _ r w
writes (changes e h k v r) a b w = updated _ e _ _ r w
writes (removes e h k r) a b w = updated _ e _ _ r w
writes (drops e (Ok n)) a b w = dropped e n.branches n.entries w
writes (drops e (Err why)) a b w = left _ (refused_same (drop_numbered a e).refusal why w.outcome)
writes (sizes e r) a b w = left _ w.1
writes (uses r) a b w = left _ w.1
writes (gets e h k r) a b w = left _ w.1
writes (lists e place out r out') a b w = left _ w.1
writes (compares e f r) a b w = left _ w.1
writes (checks work r work') a b w = left _ w.1
