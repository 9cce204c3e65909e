-- What the writing of a removal comes to, whether a root is left or nothing: the map without the key in the slot, with the counts
-- that the reading pass says.
use Rattle.std.proofs.Common.{◌≡◌, ℕ, ◌<◌, ◌≤◌, List, length, ◌∙◌}
use Rattle.segments.specs.Segments.{segment}
use Rattle.layout.specs.declared.Shape.{Shape}
use Rattle.layout.specs.Layout.{Lent}
use Rattle.layout.specs.Columns.{columns}
use Rattle.trie.specs.Entry.{got}
use Rattle.trie.specs.Trie.{Map, empty, root, get}
use Rattle.arena.specs.Shows.{ShowsMap}
use Rattle.arena.specs.Local.{Local}
use Rattle.arena.proofs.Shelved.{Good}
use Rattle.replies.specs.Answers.{done_taking}
use Rattle.replies.specs.Outcomes.{leaves}
use Rattle.grants.proofs.CaseLaws.{hold_some}
use Rattle.grants.proofs.FreshLaws.{names_of_branches, names_of_entries, Written}
use Rattle.grants.proofs.RootLaws.{slot_means}
use Rattle.removes.specs.declared.Cut.{Cut}
use Rattle.removes.specs.Calls.{cut_to}
use Rattle.removes.proofs.CaseLaws.{cut_none, cut_goes}
use Rattle.removes.proofs.PlanLaws.{Cuts}
use Rattle.removes.proofs.WriteLaws.{none_Rooted, chain_made, root-Made, some_Rooted}

module _ {z : Shape} {a : List ℕ} {free : ℕ → List ℕ} (l : Lent z a) (I : Local z (columns z a) (λ r. 0) free) (h k v : ℕ)
    (p : Cut) (m : Map ℕ) (good : Good z m) (g : get (segment z.bits) z.depths h k m ≡ got v) (r : ℕ)
    (shown : ShowsMap (columns z a) m r) (room_0 : p.branches ≤ length (free 0)) (room_1 : p.tail.count ≤ length (free 1)) where
  pub cut_writes : (m' : Map ℕ) → Cuts z a (names_of_branches free p.branches) (names_of_entries free) h k m m' r p
      → (s : ℕ) → s < z.slots → ((columns z a).held s ≡ 1 → ⊥)
      → (b : List ℕ) × (cut_to z a h p s ≡ leaves (done_taking s p.branches p.tail.count) b)
      × Written z a free p.branches p.tail.count s m' b
  cut_writes empty P s ls away =
      (_, cut_none z a h p s P.empty_is, slot_means s p.size (none_Rooted l I h k v p m good g r shown room_0 room_1 P) l P.size_is ls away)
  cut_writes (root n) P s ls away = (
    _,
    cut_goes z a h p s P.empty_is (chain_made l I h k v p m good g r shown room_0 room_1 n P).enough ∙ hold_some z s p.size _ _ _ (root-Made l I h k v p m good g r shown room_0 room_1 n P).0.some,
    slot_means s p.size (some_Rooted l I h k v p m good g r shown room_0 room_1 n P) l P.size_is ls away,
  )
