-- On an edition the reading pass says what the trie's own remove takes and makes: whether the key is there, and where it is the
-- counts, whether anything is left, the size afterwards, and the chains that the writers copy and share.
use Rattle.std.proofs.Common.{◌≡◌, ℕ, ◌-◌, List, ◌∷◌, ◌++◌, length, sym, refl, ap, ◌∙◌, arith, is_some}
use Rattle.segments.specs.Segments.{segment}
use Rattle.layout.specs.declared.Shape.{Shape}
use Rattle.layout.specs.Layout.{Lent}
use Rattle.layout.specs.Columns.{columns}
use Rattle.layout.proofs.SizeLaws.{row_is_Right}
use Rattle.trie.specs.Entry.{Word64, Got, absent, got}
use Rattle.trie.specs.Trie.{Item, Map, updated, get, size, list_remove_first}
use Rattle.trie.proofs.CellLaws.{remove_branches_left, remove_entries_there}
use Rattle.trie.proofs.CopyLaws.{copies, Parts}
use Rattle.trie.proofs.PathLaws.{chain_of}
use Rattle.arena.specs.Shows.{ShowsChain, ShowsMap}
use Rattle.arena.proofs.Shelved.{Good}
use Rattle.lookup.proofs.Meaning.{live_named}
use Rattle.lookup.proofs.SplitLaws.{split_rest, map_hit_there, map_hit_none}
use Rattle.chains.specs.Chains.{length_at}
use Rattle.chains.proofs.LengthLaws.{length_before}
use Rattle.grafts.proofs.CaseLaws.{has_key, is_there_lem, is_absent}
use Rattle.removes.specs.declared.Cut.{Cut}
use Rattle.removes.specs.Calls.{left_branches, is_none_left, cutting, the_cut, cut_of}
use Rattle.removes.proofs.CaseLaws.{end_of, cut_there, cut_absent}
use Rattle.removes.proofs.LeftLaws.{chain_under, chain_left, map_left}
use Rattle.removes.proofs.MapLaws.{without, takes, is_none, none_left, left_branches_lem, size_left}

-- what the cut p says of the map m below the root r and of the result m', for new cells of these names: `copied` are the entries that
-- are copied, `at` is the one that is taken out, and `shared` those that follow it
pub record Cuts (z : Shape) (a : List ℕ) (b f : ℕ → ℕ) (h k : ℕ) (m m' : Map ℕ) (r : ℕ) (p : Cut) : Type 0 where
  pub makes : without z b f h k m ≡ updated m'
  pub branches_is : p.branches ≡ (takes z b f h k m).branches
  pub before_is : p.tail.count ≡ (takes z b f h k m).entries
  pub empty_is : p.empty ≡ is_none m'
  pub size_is : p.size ≡ size m'
  pub root_is : p.root ≡ r
  pub copied : List (Item ℕ)
  pub at : Item ℕ
  pub shared : List (Item ℕ)
  pub front_shown : ShowsChain (columns z a) (copied ++ (at ∷ shared)) p.tail.from
  pub copied_length : length copied ≡ p.tail.count
  pub shared_shown : ShowsChain (columns z a) shared p.tail.rest
  pub leaf_is : list_remove_first f 0 h k (chain_of (segment z.bits) z.depths h m) ≡ copies f 0 copied ++ shared

module _ {z : Shape} {a : List ℕ} (l : Lent z a) (e h k : ℕ) (m : Map ℕ) (good : Good z m)
    (shown : ShowsMap (columns z a) m ((columns z a).root e)) where
  -- WHETHER THE KEY IS THERE
  pub cut_found : is_some (cut_of z a e h k) ≡ has_key z h k m
  cut_found = by (get (segment z.bits) z.depths h k m) refl
    where
      by : (g : Got) → get (segment z.bits) z.depths h k m ≡ g → is_some (cut_of z a e h k) ≡ has_key z h k m
      by (got v) g =
          let (q, y, s) = map_hit_there z a l.allowed Word64 h k m _ good shown v g in
          rw (cut_there z a e h k q y) (unfold cutting in (sym (is_there_lem v refl g)))
      by absent g =
          rw (cut_absent z a e h k (map_hit_none z a l.allowed Word64 h k m _ good shown g)) (sym (is_absent refl g))

  -- WHERE IT IS
  module _ (b f : ℕ → ℕ) (v : ℕ) (g : get (segment z.bits) z.depths h k m ≡ got v) (m' : Map ℕ)
      (q : without z b f h k m ≡ updated m') where
    pub cut_means : (columns z a).size e ≡ size m → Cuts z a b f h k m m' ((columns z a).root e) (the_cut (cut_of z a e h k))
    unfolding cutting
    cut_means sized =
        let (i, y, s) = map_hit_there z a l.allowed Word64 h k m _ good shown v g in
        let p : Parts h k (chain_under z h m) = s.parts in
        let left = map_left l e h k m good shown b f v g m' q p s.all_shown in
        let ahead : length_at z (columns z a) (end_of z a e h) - length_at z (columns z a) i ≡ length p.front
        = length_before z (columns z a) (live_named z a l.allowed) s in
        let some = (row_is_Right z l.allowed).some_depths in
        rw (cut_there z a e h k i y)
        (record {
          makes = q;
          branches_is =
              ap left_branches left
              ∙ left_branches_lem (segment z.bits) z.depths h _ m' (remove_branches_left (segment z.bits) z.depths b f m h k m' q);
          before_is = ahead ∙ sym (remove_entries_there (segment z.bits) z.depths b f m h k m' q v g p);
          empty_is = ap is_none_left left ∙ none_left _ m';
          size_is = omega (arith, sized, size_left (segment z.bits) b f h k z.depths m m' some good q);
          root_is = refl;
          copied = p.front;
          at = p.at;
          shared = p.rest;
          front_shown = rw p.whole at s.all_shown;
          copied_length = sym ahead;
          shared_shown = split_rest s;
          leaf_is = chain_left l e h k m good shown b f v g m' q p;
        })
