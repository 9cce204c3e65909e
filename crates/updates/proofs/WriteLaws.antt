-- What the writing of an update comes to on an arena in the local form, where its plan says what the trie's insert takes and
-- makes and as many cells are free: the new map in the free slot, what lived still there, and no other slot written.
use Prim.Native.Nat.{ℕ, suc, ◌≤◌, ◌<◌}
use mathlib.Core.Path.{◌≡◌, refl, sym, ap, ◌∙◌, subst}
use mathlib.Core.List.{List}
use native.Mathlib.Omega.{arith}
use lib.ListN.{length}
use Rattle.trie.specs.declared.Entry.{Entry}
use Rattle.layout.specs.declared.Shape.{Shape}
use Rattle.layout.specs.Layout.{Lent}
use Rattle.layout.specs.Columns.{columns}
use Rattle.trie.specs.Trie.{Map}
use Rattle.arena.specs.Shows.{ShowsChain, ShowsMap}
use Rattle.arena.specs.Local.{Local}
use Rattle.arena.proofs.Frames.{map_kept}
use Rattle.arena.proofs.Shelved.{Good}
use Rattle.cells.specs.Mirrors.{one_more}
use Rattle.cells.proofs.KeptLaws.{Kept-Lent}
use Rattle.cells.proofs.Made.{left, taking, Made}
use Rattle.chains.proofs.Meaning.{push_means}
use Rattle.replies.specs.Answers.{done_taking}
use Rattle.replies.specs.Outcomes.{leaves}
use Rattle.replies.proofs.AnswerLaws.{wrote_some}
use Rattle.grants.specs.Rooms.{held_to}
use Rattle.grants.proofs.CaseLaws.{hold_some}
use Rattle.grants.proofs.FreshLaws.{names_of_branches, names_of_entries, Written}
use Rattle.grants.proofs.RootLaws.{Rooted, path_Rooted, slot_means}
use Rattle.updates.specs.declared.Plan.{Plan}
use Rattle.updates.specs.Calls.{write_to}
use Rattle.updates.proofs.MapLaws.{with_entry, new_leaf, map_graft_means}
use Rattle.updates.proofs.PlanLaws.{Plans}
use Rattle.updates.proofs.WrittenWords.{leaf_wrote, root_wrote}

write_to_is : (z : Shape) (a : List ℕ) (x : Entry) (p : Plan) (s : ℕ) → ((leaf_wrote z a x p).at ≡ 0 → ⊥)
    → ((root_wrote z a x p).at ≡ 0 → ⊥)
    → write_to z a x p s
    ≡ held_to z s p.size p.branches (one_more p.tail.count) (root_wrote z a x p).at (root_wrote z a x p).words
unfolding write_to leaf_wrote root_wrote
write_to_is z a x p s some above = wrote_some _ _ _ some ∙ hold_some z s p.size _ _ _ above

-- WHAT IT COMES TO
module _ {z : Shape} {a : List ℕ} {free : ℕ → List ℕ} (l : Lent z a) (I : Local z (columns z a) (λ r. 0) free) (x : Entry)
    (p : Plan) (m : Map ℕ) (good : Good z m) (r : ℕ) (shown : ShowsMap (columns z a) m r)
    (P : Plans z a (names_of_branches free p.branches) (names_of_entries free) x m good r p)
    (room_0 : p.branches ≤ length (free 0)) (room_1 : p.tail.count < length (free 1)) where
  abbrev made : Map ℕ
  made = with_entry z (names_of_branches free p.branches) (names_of_entries free) x m

  abbrev leaf_free : ℕ → List ℕ
  leaf_free = left (taking 1 (suc p.tail.count)) free

  leaf_Made : Made z a free (taking 1 (suc p.tail.count)) (leaf_wrote z a x p)
      × ShowsChain (columns z (leaf_wrote z a x p).words)
      (new_leaf z (names_of_branches free p.branches) (names_of_entries free) x m good) (leaf_wrote z a x p).at
  unfolding leaf_wrote
  leaf_Made =
      rw P.leaf_is
      (push_means l I x p.length p.tail.count p.tail.from p.tail.rest P.copied P.behind P.shared
      (names_of_entries free) P.front_shown P.copied_length P.behind_length P.shared_shown P.length_is room_1
      (λ u lu. refl))

  root_made : Made z (leaf_wrote z a x p).words leaf_free (taking 0 p.branches) (root_wrote z a x p)
      × ShowsMap (columns z (root_wrote z a x p).words) made (root_wrote z a x p).at
  unfolding root_wrote
  root_made =
      let L = leaf_Made in
      map_graft_means (Kept-Lent L.0.kept l) (names_of_branches free p.branches) (names_of_entries free) x
      (leaf_wrote z a x p).at p.replaced m good p.root p.branches L.0.local
      (map_kept L.0.grow m p.root (subst (λ (q : ℕ). ShowsMap (columns z a) m q) (sym P.root_is) shown))
      L.1 P.replaced_is P.branches_is room_0
      (λ u lu. ap (names_of_branches free p.branches) (omega arith))

  rooted : Rooted z a free p.branches (one_more p.tail.count) made (root_wrote z a x p)
  rooted =
      let L = leaf_Made.0 in
      rw P.more_is (path_Rooted L.kept L.grow L.slots root_made.0 root_made.1)

  pub write_means : (s : ℕ) → s < z.slots → ((columns z a).held s ≡ 1 → ⊥)
      → (b : List ℕ) × (write_to z a x p s ≡ leaves (done_taking s p.branches (one_more p.tail.count)) b)
      × Written z a free p.branches (one_more p.tail.count) s
      (with_entry z (names_of_branches free p.branches) (names_of_entries free) x m) b
  write_means s ls away = (
    _,
    write_to_is z a x p s leaf_Made.0.some root_made.0.some,
    slot_means s p.size rooted l P.size_is ls away,
  )
