-- "Refusals for room are exact": on a sound arena insert, change and remove are refused for room exactly where the definition counts more
-- cells than are not in use.
use Prim.Native.Nat.{ℕ, ◌+◌, ◌<◌}
use mathlib.Core.Path.{◌≡◌, sym, ap, ◌∙◌}
use mathlib.Core.Bool.{true}
use mathlib.Core.List.{List}
use native.Mathlib.Omega.{arith}
use Rattle.trie.specs.Trie.{Map}
use Rattle.trie.specs.Cells.{Taken}
use Rattle.layout.specs.declared.Shape.{Shape}
use Rattle.layout.specs.Layout.{cells_of}
use Rattle.layout.specs.Header.{Header}
use Rattle.layout.specs.Columns.{columns}
use Rattle.layout.proofs.HeaderLaws.{Header-Lent, Header-once}
use Rattle.arena.specs.Sound.{Sound}
use Rattle.arena.specs.Holds.{Holds}
use Rattle.arena.proofs.Equivalent.{Header-degree}
use Rattle.arena.proofs.LocalLaws.{used_and_free}
use Rattle.arena.proofs.Shelved.{Local-in}
use Rattle.grafts.proofs.CaseLaws.{has_key}
use Rattle.replies.specs.declared.Refusal.TheVariants as Why
use Rattle.replies.specs.Answers as A
use Rattle.replies.proofs.Tables.{AllHeld, Held}
use Rattle.grants.specs.Terms.{Step}
use Rattle.grants.specs.Rooms.{free_cell_count}
use Rattle.grants.proofs.FreshLaws.{free_cell_count_lem}
use Rattle.grants.proofs.TestLaws.{Goes}
use Rattle.updates.specs.Terms.{Inserts, Changes}
use Rattle.updates.proofs.TestLaws.{insert_wants}
use Rattle.updates.proofs.ExactLaws as updates
use Rattle.removes.specs.Terms.{Removes}
use Rattle.removes.proofs.ExactLaws as removes
use Rattle.chains.specs.Chains.{an_entry}
use Rattle.promises.specs.Spends.{Rooms}
use Rattle.promises.specs.Told.{UpdateTold}
use Rattle.promises.proofs.StepLaws.{Unnamed, insert_Unnamed, remove_Unnamed}
use Rattle.promises.proofs.AnswerLaws.{update_is, Refused-is}
use Rattle.promises.proofs.ToldLaws.{change_told, insert_told, remove_told}
use Rattle.std.specs.Prelude.{Result}
use Rattle.replies.specs.declared.Refusal.{Refusal}
use Rattle.replies.specs.Answers.{took}
use Rattle.replies.specs.declared.Updated.{Updated}

module _ (a : List ℕ) (S : Sound a) (z : Shape) (h : Header a z) where
  -- a cell is in use or free
  pub used_or_free : (k : ℕ) → k < 2 → (columns z a).used k + free_cell_count z a k ≡ cells_of z k
  used_or_free k l =
      let I = (Local-in a S z h).1 in
      omega (arith, used_and_free I (Header-degree h) k l, free_cell_count_lem (Header-Lent a z h) I k l)

  pub rooms : (e : ℕ) (Lacks : Shape → Type 0) (takes : Shape → Taken) (step : Shape → Step) (r : Result Updated Refusal) (b : List ℕ)
      → UpdateTold a e Lacks takes step r b → ((s x y : ℕ) → r ≡ took s x y → takes z ≡ record { branches = x; entries = y })
      → Goes z a e (Lacks z) → Rooms z a (takes z) r
  unfolding cells_of
  rooms e Lacks takes step r b T counted goes =
      let told = T.number.exactly z h in
      let number : (u : Result Updated Refusal) → r ≡ u → (A.update_answer r).number ≡ (A.update_answer u).number = λ u q. ap (λ (w : Result Updated Refusal). (A.update_answer w).number) q in
      let f0 : (columns z a).used 0 + free_cell_count z a 0 ≡ z.branches = used_or_free 0 (omega arith) in
      let f1 : (columns z a).used 1 + free_cell_count z a 1 ≡ z.entries = used_or_free 1 (omega arith) in
      record {
        no_branches = (
          λ q. let w = (told 8).0 (number _ q) in omega (arith, w.1, f0),
          λ l. Refused-is r Why.NoBranchCells ((told 8).1 (goes, omega arith)),
        );
        no_entries = (
          λ q. let w = (told 9).0 (number _ q) in (omega (arith, w.1, f0), omega (arith, w.2, f1)),
          λ (l, m). Refused-is r Why.NoEntryCells ((told 9).1 (goes, omega arith, omega arith)),
        );
        done = (
          λ (s, q). let w = (told 0).0 (number _ q) in (omega (arith, w.1, f0), omega (arith, w.2, f1)),
          λ (l, m).
              let (s, x, y, q) = update_is r ((told 0).1 (goes, omega arith, omega arith)) in
              (s, q ∙ ap (λ (t : Taken). took s t.branches t.entries) (sym (counted s x y q))),
        );
      }

  -- with the definition's own counts, of which names are no part
  module _ (e : ℕ) (m : Map ℕ) (H : Holds z a e m) (some : AllHeld z a → ⊥) (r : Result Updated Refusal) (b : List ℕ) where
    update_Rooms : {Lacks : Shape → Type 0} {step : Shape → Step} → Unnamed (step z) → (Lacks z → ⊥)
        → UpdateTold a e Lacks (λ y. (step y).takes (λ t. t) (λ j. j) m) step r b → Rooms z a ((step z).takes (λ t. t) (λ j. j) m) r
    update_Rooms {step = step} same wants T =
        rooms e _ (λ y. (step y).takes (λ t. t) (λ j. j) m) step r b T
        (λ s x y q.
        let N = T.means.new S z h m H s x y q in
        same (λ t. t) (λ j. j) N.branch_names N.entry_names m ∙ N.counts)
        ((H.slot, H.held), wants, some)

    fits : (y : Shape) → Header a y → Held y a e → Holds y a e m
    fits y j w = rw (Header-once a y z j h) H

  pub insert_Rooms : (e j k v : ℕ) (m : Map ℕ) → Holds z a e m → (AllHeld z a → ⊥) → (r : Result Updated Refusal) (b : List ℕ)
      → Inserts a e j k v r b → Rooms z a (updates.needs z j k v m) r
  insert_Rooms e j k v m H some r b U =
      update_Rooms e m H some r b (insert_Unnamed (an_entry j k v) z) (insert_wants (has_key z j k m))
      (insert_told a S e m (fits e m H some r b) j k v r b U)

  pub change_Rooms : (e j k v : ℕ) (m : Map ℕ) → Holds z a e m → has_key z j k m ≡ true → (AllHeld z a → ⊥) → (r : Result Updated Refusal) (b : List ℕ)
      → Changes a e j k v r b → Rooms z a (updates.needs z j k v m) r
  change_Rooms e j k v m H there some r b U =
      update_Rooms e m H some r b (insert_Unnamed (an_entry j k v) z)
      (λ (c, n). let d : ◌≡◌ {A = ℕ} 0 1 = cc in omega arith)
      (change_told a S e m (fits e m H some r b) j k v r b U)

  pub remove_Rooms : (e j k : ℕ) (m : Map ℕ) → Holds z a e m → has_key z j k m ≡ true → (AllHeld z a → ⊥) → (r : Result Updated Refusal) (b : List ℕ)
      → Removes a e j k r b → Rooms z a (removes.needs z j k m) r
  remove_Rooms e j k m H there some r b U =
      update_Rooms e m H some r b (remove_Unnamed j k z)
      (λ n. let d : ◌≡◌ {A = ℕ} 0 1 = cc in omega arith)
      (remove_told a S e m (fits e m H some r b) j k r b U)
