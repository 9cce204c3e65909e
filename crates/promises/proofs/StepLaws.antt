-- Names play no part in what a step of an update takes, nor in what it makes beyond those counted.
use Prim.Native.Nat.{ℕ, ◌<◌}
use mathlib.Core.Path.{◌≡◌, sym, ap, ◌∙◌}
use Rattle.segments.specs.Segments.{segment}
use Rattle.trie.specs.declared.Entry.{Entry}
use Rattle.trie.specs.Trie.{Map, updated}
use Rattle.trie.specs.Names.{rename_updated}
use Rattle.trie.proofs.RenameMaps.{rename-insert, rename-remove, rename-remove_takes, takes_any_names}
use Rattle.layout.specs.declared.Shape.{Shape}
use Rattle.grants.specs.Terms.{Step}
use Rattle.updates.specs.Terms.{insert_step}
use Rattle.removes.specs.Terms.{remove_step}
use Rattle.settled.proofs.NameLaws.{insert_same_names, remove_same_names}

abbrev pub Unnamed : Step → Type 0
Unnamed step = (g f g' f' : ℕ → ℕ) (m : Map ℕ) → step.takes g f m ≡ step.takes g' f' m

pub insert_Unnamed : (x : Entry) (z : Shape) → Unnamed (insert_step x z)
insert_Unnamed x z g f g' f' m = takes_any_names (segment z.bits) z.depths g f m g' f' x

pub remove_Unnamed : (h k : ℕ) (z : Shape) → Unnamed (remove_step h k z)
remove_Unnamed h k z g f g' f' m =
    let forgotten = rename-remove_takes {X = ℕ} (λ c. tt {0}) (segment z.bits) z.depths in
    sym (forgotten g f h k m) ∙ forgotten g' f' h k m

pub record Nameless (step : Step) : Type 0 where
  pub takes_same : Unnamed step
  pub makes_same : (g f g' f' : ℕ → ℕ) (m : Map ℕ) → ((i : ℕ) → i < (step.takes g f m).branches → g i ≡ g' i)
      → ((i : ℕ) → i < (step.takes g f m).entries → f i ≡ f' i) → step.makes g f m ≡ step.makes g' f' m
  pub forgets_same : (g f g' f' : ℕ → ℕ) (m : Map ℕ)
      → rename_updated {Y = Unit {0}} (λ c. tt) (step.makes g f m) ≡ rename_updated (λ c. tt) (step.makes g' f' m)

-- an insert into the empty map names a root branch, which is counted only where there is a depth
pub insert_Nameless : (x : Entry) (z : Shape) → 0 < z.depths → Nameless (insert_step x z)
unfolding rename_updated
insert_Nameless x z some =
    let seg = segment z.bits in
    let d = z.depths in
    record {
      takes_same = insert_Unnamed x z;
      makes_same = λ g f g' f' m p q. ap updated (insert_same_names seg d g f g' f' x m some p q);
      forgets_same =
          λ g f g' f' m. ap updated (rename-insert (λ c. tt) seg d g f x m ∙ sym (rename-insert (λ c. tt) seg d g' f' x m));
    }

pub remove_Nameless : (h k : ℕ) (z : Shape) → Nameless (remove_step h k z)
remove_Nameless h k z =
    let seg = segment z.bits in
    let d = z.depths in
    record {
      takes_same = remove_Unnamed h k z;
      makes_same = λ g f g' f' m p q. remove_same_names seg d g f g' f' h k m p q;
      forgets_same = λ g f g' f' m. rename-remove (λ c. tt) seg d g f h k m ∙ sym (rename-remove (λ c. tt) seg d g' f' h k m);
    }
