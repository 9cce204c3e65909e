-- On an edition the reading pass says what the trie's own remove leaves below the root, by the length of the chain that the entry
-- is taken out of.
use Rattle.std.proofs.Common.{◌≡◌, ℕ, ◌-◌, List, ◌++◌, length, sym, ap, ◌∙◌, arith, length-append}
use Rattle.segments.specs.Segments.{segment}
use Rattle.layout.specs.declared.Shape.{Shape}
use Rattle.layout.specs.Layout.{Lent}
use Rattle.layout.specs.Columns.{columns}
use Rattle.trie.specs.Entry.{got}
use Rattle.trie.specs.Trie.{Item, Map, updated, get, list_remove_first}
use Rattle.trie.proofs.CopyLaws.{copies, copies_length, Parts, removed_there, parts_length}
use Rattle.trie.proofs.PathLaws.{chain_of, get_chain}
use Rattle.arena.specs.Shows.{ShowsChain, ShowsMap}
use Rattle.arena.proofs.Shelved.{Good}
use Rattle.lookup.proofs.Meaning.{live_named}
use Rattle.chains.specs.Chains.{length_at}
use Rattle.chains.proofs.LengthLaws.{length_shown}
use Rattle.grafts.proofs.SeenLaws.{words_Celled}
use Rattle.prunes.specs.Prunes.{left_from}
use Rattle.prunes.proofs.MapLaws.{left_map, map_left_means}
use Rattle.removes.proofs.CaseLaws.{end_of}
use Rattle.removes.proofs.MapLaws.{without, takes}

-- the chain of a map where the path of a hash ends
abbrev pub chain_under : Shape → ℕ → Map ℕ → List (Item ℕ)
chain_under z h m = chain_of (segment z.bits) z.depths h m

module _ {z : Shape} {a : List ℕ} (l : Lent z a) (e h k : ℕ) (m : Map ℕ) (good : Good z m)
    (shown : ShowsMap (columns z a) m ((columns z a).root e)) where
  module _ (b f : ℕ → ℕ) (v : ℕ) (g : get (segment z.bits) z.depths h k m ≡ got v) (m' : Map ℕ)
      (q : without z b f h k m ≡ updated m') where
    pub chain_left : (p : Parts h k (chain_under z h m)) → list_remove_first f 0 h k (chain_under z h m) ≡ copies f 0 p.front ++ p.rest
    chain_left p = removed_there h k (chain_under z h m) f 0 v (sym (get_chain (segment z.bits) z.depths h k m) ∙ g) p

    pub map_left : Parts h k (chain_under z h m) → ShowsChain (columns z a) (chain_under z h m) (end_of z a e h)
        → left_from z (columns z a) h (length_at z (columns z a) (end_of z a e h) - 1) z.depths 0 ((columns z a).root e) ≡ left_map (takes z b f h k m).branches m'
    map_left p chain =
        map_left_means (words_Celled l) b f h k v m m' good g q _ shown (length_at z (columns z a) (end_of z a e h) - 1)
        (omega (
          arith,
          length_shown z (columns z a) (live_named z a l.allowed) (chain_under z h m) (end_of z a e h) chain,
          parts_length h k (chain_under z h m) p,
          ap length (chain_left p),
          length-append (copies f 0 p.front) p.rest,
          copies_length f 0 p.front,
        ))
