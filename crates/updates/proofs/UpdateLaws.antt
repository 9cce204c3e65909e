-- What insert and change leave is what their definitions say, and from that alone follows what they mean: on a sound arena a
-- refusal leaves the words as they are, and else the lowest free slot holds the edition with the entry put in it, all others stay
-- as they are, and the arena stays sound.
use Prim.Native.Nat.{ℕ}
use mathlib.Core.Path.{◌≡◌, ap, subst}
use mathlib.Core.Bool.{Bool, true, false}
use mathlib.Core.List.{List}
use Rattle.segments.specs.Segments.{segment}
use Rattle.layout.proofs.HeaderLaws.{Header-Lent}
use Rattle.trie.specs.declared.Entry.{Entry}
use Rattle.trie.specs.Entry.{Word64}
use Rattle.trie.specs.Trie.{Map, Updated, updated, not_there}
use Rattle.trie.specs.Built.{Built, inserted}
use Rattle.trie.specs.Names.{forget}
use Rattle.trie.proofs.RenameMaps.{rename-insert}
use Rattle.chains.specs.Chains.{an_entry}
use Rattle.replies.specs.Answers as A
use Rattle.replies.specs.Outcomes.{leaves}
use Rattle.grants.proofs.MeansLaws.{Writer, Builds, updates}
use Rattle.updates.specs.Calls.{plan_of, insert_of, change_of}
use Rattle.updates.specs.Terms.{insert_step, Inserts, Changes}
use Rattle.updates.proofs.TestLaws.{writing}
use Rattle.updates.proofs.InsideLaws.{write_kept}
use Rattle.updates.proofs.SlotLaws.{write_slot}
use Rattle.updates.proofs.RoomLaws.{write_Does}
use Rattle.std.specs.Prelude.{Result}
use Rattle.replies.specs.declared.Refusal.{Refusal}
use Rattle.replies.specs.declared.Updated as U

-- what can be built can be built with an entry more
insert_Builds : (x : Entry) → Word64 x → Builds (insert_step x)
insert_Builds x fits z b f m result t q =
    subst (λ (y : Map ℕ). Built (segment z.bits) z.depths (forget y)) (ap made q)
    (rw (rename-insert (λ (c : ℕ). tt {0}) (segment z.bits) z.depths b f x m) (inserted x fits t))
  where
    made : Updated ℕ → Map ℕ
    made (updated y) = y
    made not_there = m

-- insert and change, as writers
pub writer : (a : List ℕ) (e h k v : ℕ) (change : Bool) → Writer a e (insert_step (an_entry h k v)) (writing a e h k v change)
writer a e h k v change =
    record {
      inside = λ z head. write_kept (Header-Lent a z head) (an_entry h k v) (plan_of z a e h k);
      slot = λ z head. write_slot z a (an_entry h k v) (plan_of z a e h k);
      does = λ S z head m E there. write_Does a S z head e h k v m E change;
    }

-- THE CONTRACTS
pub inserts : (a : List ℕ) (e h k v : ℕ) → Word64 (an_entry h k v) → (r : Result U.Updated Refusal) (b : List ℕ)
    → leaves (A.update_answer r) b ≡ insert_of a e h k v → Inserts a e h k v r b
inserts a e h k v fits = updates (writer a e h k v false) (insert_Builds (an_entry h k v) fits)

pub changes : (a : List ℕ) (e h k v : ℕ) → Word64 (an_entry h k v) → (r : Result U.Updated Refusal) (b : List ℕ)
    → leaves (A.update_answer r) b ≡ change_of a e h k v → Changes a e h k v r b
changes a e h k v fits = updates (writer a e h k v true) (insert_Builds (an_entry h k v) fits)
