-- What remove leaves is what its definition says, and from that alone follows what it means: on a sound arena a refusal leaves the
-- words as they are, and else the lowest free slot holds the edition with the entry taken out, all others stay as they are, and the
-- arena stays sound.
use Rattle.std.proofs.Common.{◌≡◌, ℕ, List, Result, sym, ap, ◌∙◌}
use Rattle.segments.specs.Segments.{segment}
use Rattle.layout.proofs.HeaderLaws.{Header-Lent}
use Rattle.trie.specs.Built.{removed}
use Rattle.trie.specs.Names.{rename_updated}
use Rattle.trie.proofs.RenameMaps.{rename-remove}
use Rattle.replies.specs.Answers.{update_answer}
use Rattle.replies.specs.Outcomes.{leaves}
use Rattle.grants.proofs.MeansLaws.{Writer, Builds, updates}
use Rattle.removes.specs.Calls.{the_cut, cut_of, remove_of}
use Rattle.removes.specs.Terms.{remove_step, Removes}
use Rattle.removes.proofs.CaseLaws.{removing}
use Rattle.removes.proofs.InsideLaws.{cut_Kept}
use Rattle.removes.proofs.SlotLaws.{cut_slot}
use Rattle.removes.proofs.RoomLaws.{removal_Does}
use Rattle.replies.specs.declared.Refusal.{Refusal}
use Rattle.replies.specs.declared.Updated.{Updated}

-- what can be built can be built with an entry less
remove_Builds : (h k : ℕ) → Builds (remove_step h k)
unfolding rename_updated
remove_Builds h k z b f m result t q =
    removed h k t
    (sym (rename-remove (λ (c : ℕ). tt {0}) (segment z.bits) z.depths b f h k m)
    ∙ ap (rename_updated (λ (c : ℕ). tt {0})) q)

-- remove, as a writer
pub writer : (a : List ℕ) (e h k : ℕ) → Writer a e (remove_step h k) (removing a e h k)
writer a e h k =
    record {
      inside = λ z head. cut_Kept (Header-Lent a z head) h (the_cut (cut_of z a e h k));
      slot = λ z head. cut_slot z a h (the_cut (cut_of z a e h k));
      does = λ S z head m E there. removal_Does a S z head e h k m E there;
    }

-- THE CONTRACT
pub removes : (a : List ℕ) (e h k : ℕ) (r : Result Updated Refusal) (b : List ℕ) → leaves (update_answer r) b ≡ remove_of a e h k → Removes a e h k r b
removes a e h k = updates (writer a e h k) (remove_Builds h k)
