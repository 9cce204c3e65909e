-- On a sound arena the reading pass says exactly what a removal from an edition takes: where there are a free slot and as many cells,
-- the writing is done to its end, and it comes to the edition with the entry taken out.
use Rattle.std.proofs.Common.{◌≡◌, ℕ, ◌<◌, ◌≤◌, true, List, length, sym, refl, ◌∙◌, arith, is_some}
use Rattle.segments.specs.Segments.{segment}
use Rattle.layout.specs.declared.Shape.{Shape}
use Rattle.layout.specs.Layout.{Lent}
use Rattle.layout.specs.Header.{Header}
use Rattle.layout.specs.Columns.{word_of_slot, columns}
use Rattle.layout.proofs.HeaderLaws.{Header-Lent}
use Rattle.layout.proofs.SizeLaws.{row_is_Right}
use Rattle.trie.specs.Entry.{Got, absent, got}
use Rattle.trie.specs.Trie.{Map, get}
use Rattle.trie.proofs.CellLaws.{remove_most}
use Rattle.arena.specs.Sound.{Sound}
use Rattle.arena.specs.Local.{Local}
use Rattle.arena.specs.Holds.{Holds}
use Rattle.arena.proofs.Shelved.{Good, held_Shelves, shelf_canonical}
use Rattle.grafts.proofs.CaseLaws.{has_key, is_absent}
use Rattle.grants.proofs.FreshLaws.{names_of_branches, names_of_entries}
use Rattle.grants.proofs.MeansLaws.{Does}
use Rattle.removes.specs.declared.Cut.{Cut}
use Rattle.removes.specs.Calls.{the_cut, cut_of}
use Rattle.removes.specs.Terms.{remove_step}
use Rattle.removes.proofs.CaseLaws.{removing}
use Rattle.removes.proofs.MapLaws.{takes, made_there}
use Rattle.removes.proofs.PlanLaws.{Cuts, cut_found, cut_means}
use Rattle.removes.proofs.CutLaws.{cut_writes}

module _ (a : List ℕ) (S : Sound a) (z : Shape) (head : Header a z) (e h k : ℕ) (m : Map ℕ) (E : Holds z a e m) where
  lent : Lent z a
  lent = Header-Lent a z head

  good : Good z m
  good = shelf_canonical z a head.allowed e m (held_Shelves a S z head e m E)

  pub removal_found : is_some (cut_of z a e h k) ≡ has_key z h k m
  removal_found = cut_found lent e h k m good E.shows

  -- WHERE THE KEY IS THERE
  module _ (there : is_some (cut_of z a e h k) ≡ true) where
    found_there : (v : ℕ) × (get (segment z.bits) z.depths h k m ≡ got v)
    found_there = by (get (segment z.bits) z.depths h k m) refl
      where
        by : (g : Got) → get (segment z.bits) z.depths h k m ≡ g → (v : ℕ) × (get (segment z.bits) z.depths h k m ≡ got v)
        by (got v) g = (v, g)
        by absent g =
            let n : ◌≡◌ {A = ℕ} 0 1 = cc (sym there ∙ is_absent removal_found g) in absurd (omega arith)

    -- what the reading pass says, for new cells of any names
    sound_cut : (b f : ℕ → ℕ)
        → (m' : Map ℕ) × Cuts z a b f h k m m' ((columns z a).root e) (the_cut (cut_of z a e h k))
    sound_cut b f =
        let (v, g) = found_there in
        let (m', q) = made_there (segment z.bits) b f h k z.depths v m (row_is_Right z head.allowed).some_depths g in
        (m', cut_means lent e h k m good E.shows b f v g m' q E.sized)

    pub removal_branches : (b f : ℕ → ℕ) → (the_cut (cut_of z a e h k)).branches ≡ (takes z b f h k m).branches
    removal_branches b f = (sound_cut b f).1.branches_is

    pub removal_entries : (b f : ℕ → ℕ) → (the_cut (cut_of z a e h k)).tail.count ≡ (takes z b f h k m).entries
    removal_entries b f = (sound_cut b f).1.before_is

    -- the writing, where there are the cells and a slot is free
    pub removal_Does : {free : ℕ → List ℕ} → Local z (columns z a) (λ r. 0) free
        → (the_cut (cut_of z a e h k)).branches ≤ length (free 0) → (the_cut (cut_of z a e h k)).tail.count ≤ length (free 1)
        → (s : ℕ) → s < z.slots → (word_of_slot z a s 0 ≡ 1 → ⊥) → Does z a free (remove_step h k z) m (removing a e h k z) s
    removal_Does {free} local room_0 room_1 s ls away =
        let p : Cut = the_cut (cut_of z a e h k) in
        let bn : ℕ → ℕ = names_of_branches free p.branches in
        let fn : ℕ → ℕ = names_of_entries free in
        let (v, g) = found_there in
        let (m', P) = sound_cut bn fn in
        let (b, done, W) = cut_writes lent local h k v p m good g ((columns z a).root e) E.shows room_0 room_1 m' P s ls away in
        record {
          after = b;
          result = m';
          done = done;
          makes = P.makes;
          counts = λ i. record { branches = sym (removal_branches bn fn) i; entries = sym (removal_entries bn fn) i };
          within_depths = rw (removal_branches bn fn) (remove_most (segment z.bits) z.depths bn fn m h k);
          written = W;
        }
