-- The contracts of insert, change, remove and drop say what document 01 tells: the number by its table, and what that means.
use Prim.Native.Nat.{ℕ}
use mathlib.Core.Path.{refl}
use mathlib.Core.Bool.{true, false}
use mathlib.Core.List.{List}
use Rattle.trie.specs.Trie.{Map}
use Rattle.trie.specs.Cells.{Taken}
use Rattle.layout.specs.declared.Shape.{Shape}
use Rattle.layout.specs.Header.{Header}
use Rattle.arena.specs.Sound.{Sound}
use Rattle.arena.specs.Holds.{Holds}
use Rattle.replies.specs.Outcomes.{Outcome}
use Rattle.replies.proofs.Tables.{HeaderNumbered, Held}
use Rattle.grants.specs.Terms.{Step, Updates}
use Rattle.grants.proofs.TableLaws.{UpdateWhen}
use Rattle.updates.specs.Terms.{Inserts, Changes}
use Rattle.updates.proofs.ExactLaws as updates
use Rattle.removes.specs.Terms.{Removes}
use Rattle.removes.proofs.ExactLaws as removes
use Rattle.drops.specs.Terms.{Drops}
use Rattle.drops.proofs.NumberLaws.{drop_numbered}
use Rattle.promises.specs.Told.{UpdateTold, InsertTold, RemoveTold, DropTold}
use Rattle.std.specs.Prelude.{Result}
use Rattle.replies.specs.declared.Refusal.{Refusal}
use Rattle.replies.specs.declared.Updated.{Updated}
use Rattle.replies.specs.declared.CellCounts.{CellCounts}

update_told : {a : List ℕ} {e : ℕ} {Lacks : Shape → Type 0} {takes : Shape → Taken} {step : Shape → Step} {o : Outcome} {r : Result Updated Refusal}
    {b : List ℕ} → HeaderNumbered a a (λ z. UpdateWhen z a e (Lacks z) (takes z).branches (takes z).entries) o
    → Updates a e step o r b → UpdateTold a e Lacks takes step r b
update_told N U =
    record {
      number = rw U.outcome N;
      means =
          record {
            outcome = refl;
            inside = U.inside;
            lowest = U.lowest;
            sound = U.sound;
            kept = U.kept;
            new = U.new;
            others = U.others;
          };
    }

module _ (a : List ℕ) (S : Sound a) (e : ℕ) (m : Map ℕ) (holds : (z : Shape) → Header a z → Held z a e → Holds z a e m) where
  pub insert_told : (h k v : ℕ) (r : Result Updated Refusal) (b : List ℕ) → Inserts a e h k v r b → InsertTold a e h k v false m r b
  insert_told h k v r b U = update_told (updates.exactly_numbered a S e h k v false m holds) U

  pub change_told : (h k v : ℕ) (r : Result Updated Refusal) (b : List ℕ) → Changes a e h k v r b → InsertTold a e h k v true m r b
  change_told h k v r b U = update_told (updates.exactly_numbered a S e h k v true m holds) U

  pub remove_told : (h k : ℕ) (r : Result Updated Refusal) (b : List ℕ) → Removes a e h k r b → RemoveTold a e h k m r b
  remove_told h k r b U = update_told (removes.exactly_numbered a S e h k m holds) U

pub drop_told : (a : List ℕ) (e : ℕ) (r : Result CellCounts Refusal) (b : List ℕ) → Drops a e r b → DropTold a e r b
drop_told a e r b D =
    record {
      number = rw D.outcome (drop_numbered a e);
      means = record { outcome = refl; inside = D.inside; sound = D.sound; kept = D.kept; gone = D.gone };
    }
