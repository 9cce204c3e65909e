-- Where the search of a shown chain finds a key, the chain is shown in two parts: what stands before the key, and from the key on.
-- The chain lengths in the cells tell how many stand before it.
use Prim.Native.Nat.{ℕ, zero, suc, ◌-◌, ◌≤◌, ◌<◌}
use mathlib.Core.Path.{◌≡◌, refl, sym, ◌∙◌}
use mathlib.Core.Bool.{true, false}
use mathlib.Core.List.{[], List, ◌∷◌}
use native.Mathlib.Omega.{arith}
use lib.ListN.{length}
use Rattle.cases.proofs.Cases.{split}
use Rattle.segments.specs.Segments.{segment}
use Rattle.layout.specs.declared.Shape.{Shape}
use Rattle.layout.specs.Layout.{names, Allowed}
use Rattle.layout.specs.Columns.{State, columns}
use Rattle.layout.proofs.SizeLaws.{small}
use Rattle.trie.specs.declared.Entry.{Entry}
use Rattle.trie.specs.Entry.{matches, absent, got}
use Rattle.trie.specs.Trie.{Item, Map, find, get}
use Rattle.trie.specs.Cells.{ahead}
use Rattle.trie.specs.Canon.{Canonical}
use Rattle.trie.proofs.ChainLaws.{find_hit, find_miss}
use Rattle.trie.proofs.CopyLaws.{Parts, parts_here, parts_later, parts_length}
use Rattle.trie.proofs.PathLaws.{find_none, chain_of, get_chain}
use Rattle.arena.specs.Shows.{ShowsChain, ShowsMap}
use Rattle.arena.proofs.Few.{chain_few, columns_live}
use Rattle.lookup.specs.Lookup.{names_kind, entry_at, longest, path_end, hit_from}
use Rattle.lookup.proofs.FindLaws.{kind_other, hit_ends, hit_here, hit_later}
use Rattle.lookup.proofs.Meaning.{live_named, chain_named, chain_test, map_path_shows}
use Rattle.std.specs.Prelude.{Some, None}

-- the chain xs is shown from r on, and from q on its part that begins with the key
pub record Split (σ : State) (h k : ℕ) (xs : List (Item ℕ)) (r q : ℕ) : Type 0 where
  pub parts : Parts h k xs
  pub all_shown : ShowsChain σ xs r
  pub rest_shown : ShowsChain σ (parts.at ∷ parts.rest) q

-- a shown chain's first cell has its length
pub chain_mark : (σ : State) (xs : List (Item ℕ)) (r : ℕ) → ShowsChain σ xs r → 0 < length xs → σ.mark r ≡ length xs
unfolding ShowsChain
chain_mark σ [] r c l = absurd (omega arith)
chain_mark σ (x ∷ xs) r c l = c.2

module _ {σ : State} {h k : ℕ} {xs : List (Item ℕ)} {r q : ℕ} (s : Split σ h k xs r q) where
  pub split_mark : σ.mark q ≡ suc (length s.parts.rest)
  split_mark = chain_mark σ (s.parts.at ∷ s.parts.rest) q s.rest_shown (omega arith)

  pub front_mark : σ.mark r ≡ length xs
  front_mark = chain_mark σ xs r s.all_shown (omega (arith, parts_length h k xs s.parts))

  -- how many stand before the key
  pub split_ahead : σ.mark r - σ.mark q ≡ ahead h k xs
  split_ahead = omega (arith, split_mark, front_mark, parts_length h k xs s.parts, s.parts.ahead_is)

  -- what stands behind it
  pub split_rest : ShowsChain σ s.parts.rest (σ.kid q 0)
  split_rest = unfold ShowsChain in s.rest_shown.3

-- WHERE WHAT LIVES IS A CELL
module _ (z : Shape) (σ : State) (live : (r : ℕ) → 0 < σ.count r → names z r ≡ true) (h k : ℕ) where
  -- a search that is long enough finds a key that stands there
  pub hit_shown : (n : ℕ) (xs : List (Item ℕ)) (r v : ℕ) → ShowsChain σ xs r → length xs ≤ n → find h k xs ≡ got v
      → (q : ℕ) × (hit_from z σ h k n r ≡ Some q) × Split σ h k xs r q
  hit_shown n [] r v c l e = let f : ◌≡◌ {A = ℕ} 0 1 = cc (find_none ℕ h k) in absurd (omega arith)
  hit_shown zero (x ∷ xs) r v c l e = absurd (omega arith)
  hit_shown (suc n) (x ∷ xs) r v c l e =
      let y : names_kind z 1 r ≡ true = chain_named z σ live (x ∷ xs) r c (omega arith) in
      let same : matches h k (entry_at σ r) ≡ matches h k x.entry = chain_test z σ live h k x xs r c in
      split (matches h k x.entry)
      (λ m. (r, hit_here z σ h k n r y (same ∙ m), here m))
      (λ m.
      let next : ShowsChain σ xs (σ.kid r 0) = unfold ShowsChain in c.3 in
      let w = hit_shown n xs (σ.kid r 0) v next (omega arith) (sym (find_miss h k x xs m) ∙ e) in
      (w.0, hit_later z σ h k n r y (same ∙ m) ∙ w.1, later m w.0 w.2))
    where
      here : matches h k x.entry ≡ true → Split σ h k (x ∷ xs) r r
      here m = record { parts = parts_here h k x xs m; all_shown = c; rest_shown = unfold parts_here in c }

      later : matches h k x.entry ≡ false → (q : ℕ) → Split σ h k xs (σ.kid r 0) q → Split σ h k (x ∷ xs) r q
      later m q s =
          record {
            parts = parts_later h k x xs m s.parts;
            all_shown = c;
            rest_shown = unfold parts_later in s.rest_shown;
          }

  -- and nothing where the key is not there, however long it is
  pub hit_none : (n : ℕ) (xs : List (Item ℕ)) (r : ℕ) → ShowsChain σ xs r → find h k xs ≡ absent
      → hit_from z σ h k n r ≡ None
  hit_none n [] r c e =
      let none : r ≡ 0 = unfold ShowsChain in c in hit_ends z σ h k n r (kind_other z 1 r (λ o. omega arith))
  hit_none zero (x ∷ xs) r c e = unfold hit_from in refl
  hit_none (suc n) (x ∷ xs) r c e =
      let y : names_kind z 1 r ≡ true = chain_named z σ live (x ∷ xs) r c (omega arith) in
      let same : matches h k (entry_at σ r) ≡ matches h k x.entry = chain_test z σ live h k x xs r c in
      split (matches h k x.entry)
      (λ m. let f : ◌≡◌ {A = ℕ} 0 1 = cc (find_hit h k x xs m) in absurd (omega arith))
      (λ m.
      let next : ShowsChain σ xs (σ.kid r 0) = unfold ShowsChain in c.3 in
      hit_later z σ h k n r y (same ∙ m) ∙ hit_none n xs (σ.kid r 0) next (sym (find_miss h k x xs m) ∙ e))

-- ON WORDS: the search below the root of a canonical map
module _ (z : Shape) (a : List ℕ) (w : Allowed z) (W : Entry → Type 0) (h k : ℕ) (m : Map ℕ) (r : ℕ)
    (fit : Canonical (segment z.bits) W z.depths m) (c : ShowsMap (columns z a) m r) where
  abbrev chain_in : List (Item ℕ)
  chain_in = chain_of (segment z.bits) z.depths h m

  abbrev end : ℕ
  end = path_end z (columns z a) h z.depths 0 r

  pub map_hit_there : (v : ℕ) → get (segment z.bits) z.depths h k m ≡ got v
      → (q : ℕ) × (hit_from z (columns z a) h k (longest z) (path_end z (columns z a) h z.depths 0 r) ≡ Some q)
      × Split (columns z a) h k (chain_of (segment z.bits) z.depths h m) (path_end z (columns z a) h z.depths 0 r) q
  map_hit_there v e =
      let s : ShowsChain (columns z a) chain_in end = map_path_shows z a w W h m r fit c in
      hit_shown z (columns z a) (live_named z a w) h k (longest z) chain_in end v s
      (chain_few z (columns z a) (columns_live z a (omega (arith, (small z w).degree_low))) chain_in end s)
      (sym (get_chain (segment z.bits) z.depths h k m) ∙ e)

  pub map_hit_none : get (segment z.bits) z.depths h k m ≡ absent
      → hit_from z (columns z a) h k (longest z) (path_end z (columns z a) h z.depths 0 r) ≡ None
  map_hit_none e =
      hit_none z (columns z a) (live_named z a w) h k (longest z) chain_in end (map_path_shows z a w W h m r fit c)
      (sym (get_chain (segment z.bits) z.depths h k m) ∙ e)
