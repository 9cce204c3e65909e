-- On a sound arena the reading pass says exactly what an update of an edition takes: where there are a free slot and as many cells,
-- the writing is done to its end, and it comes to the edition with the entry put in it.
use Prim.Native.Nat.{ℕ, ◌<◌, ◌≤◌}
use mathlib.Core.Path.{◌≡◌, refl, sym, ◌∙◌}
use mathlib.Core.Bool.{Bool}
use mathlib.Core.List.{List}
use native.Mathlib.Omega.{arith}
use lib.ListN.{length}
use Rattle.segments.specs.Segments.{segment}
use Rattle.layout.specs.declared.Shape.{Shape}
use Rattle.layout.specs.Layout.{Lent}
use Rattle.layout.specs.Header.{Header}
use Rattle.layout.specs.Columns.{word_of_slot, columns}
use Rattle.layout.proofs.HeaderLaws.{Header-Lent}
use Rattle.trie.specs.Trie.{Map}
use Rattle.trie.specs.Cells.{insert_takes}
use Rattle.trie.proofs.CellLaws.{insert_most}
use Rattle.arena.specs.Sound.{Sound}
use Rattle.arena.specs.Local.{Local}
use Rattle.arena.specs.Holds.{Holds}
use Rattle.arena.proofs.Shelved.{Good, held_Shelves, shelf_canonical}
use Rattle.cells.specs.Mirrors.{one_more}
use Rattle.chains.specs.Chains.{an_entry}
use Rattle.grafts.proofs.CaseLaws.{has_key}
use Rattle.grants.proofs.FreshLaws.{names_of_branches, names_of_entries}
use Rattle.grants.proofs.MeansLaws.{Does}
use Rattle.updates.specs.declared.Plan.{Plan}
use Rattle.updates.specs.Calls.{plan_of}
use Rattle.updates.specs.Terms.{insert_step}
use Rattle.updates.proofs.TestLaws.{writing}
use Rattle.updates.proofs.MapLaws.{with_entry}
use Rattle.updates.proofs.PlanLaws.{Plans, plan_means}
use Rattle.updates.proofs.WriteLaws.{write_means}

module _ (a : List ℕ) (S : Sound a) (z : Shape) (head : Header a z) (e h k v : ℕ) (m : Map ℕ) (E : Holds z a e m) where
  lent : Lent z a
  lent = Header-Lent a z head

  good : Good z m
  good = shelf_canonical z a head.allowed e m (held_Shelves a S z head e m E)

  -- THE PLAN, for new cells of any names
  sound_plan : (b f : ℕ → ℕ) → Plans z a b f (an_entry h k v) m good ((columns z a).root e) (plan_of z a e h k)
  sound_plan b f = plan_means lent b f e h k v m good E.shows E.sized

  pub plan_branches : (b f : ℕ → ℕ)
      → (plan_of z a e h k).branches ≡ (insert_takes (segment z.bits) z.depths b f (an_entry h k v) m).branches
  plan_branches b f = (sound_plan b f).branches_is

  pub plan_entries : (b f : ℕ → ℕ)
      → one_more (plan_of z a e h k).tail.count ≡ (insert_takes (segment z.bits) z.depths b f (an_entry h k v) m).entries
  plan_entries b f = (sound_plan b f).more_is ∙ (sound_plan b f).entries_is

  pub plan_replaced : (plan_of z a e h k).replaced ≡ has_key z h k m
  plan_replaced = (sound_plan (λ t. 0) (λ u. 0)).replaced_is

  -- THE WRITING, where there are the cells and a slot is free
  pub write_Does : (change : Bool) {free : ℕ → List ℕ} → Local z (columns z a) (λ r. 0) free
      → (plan_of z a e h k).branches ≤ length (free 0) → one_more (plan_of z a e h k).tail.count ≤ length (free 1)
      → (s : ℕ) → s < z.slots → (word_of_slot z a s 0 ≡ 1 → ⊥)
      → Does z a free (insert_step (an_entry h k v) z) m (writing a e h k v change z) s
  write_Does change {free} local room_0 room_1 s ls away =
      let p : Plan = plan_of z a e h k in
      let bn : ℕ → ℕ = names_of_branches free p.branches in
      let fn : ℕ → ℕ = names_of_entries free in
      let P = sound_plan bn fn in
      let (b, done, W) = write_means lent local (an_entry h k v) p m good ((columns z a).root e) E.shows P room_0
      (omega (arith, P.more_is)) s ls away in
      record {
        after = b;
        result = with_entry z bn fn (an_entry h k v) m;
        done = done;
        makes = refl;
        counts = λ i. record { branches = sym (plan_branches bn fn) i; entries = sym (plan_entries bn fn) i };
        within_depths = rw (plan_branches bn fn) (insert_most (segment z.bits) z.depths bn fn m (an_entry h k v));
        written = W;
      }
