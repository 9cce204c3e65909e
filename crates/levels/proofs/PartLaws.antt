-- What the parts of a node show if they pass: an entry its chain, which stands where a hash is exhausted or is a single, and a row
-- of a branch the nodes that its children show, whose paths go on from the branch's own.
use Rattle.std.proofs.Common.{◌≡◌, ℕ, zero, suc, ◌+◌, ◌^◌, ◌<◌, true, ◌⊎◌, List, [], ◌∷◌, length, Option, sym, ap, ◌∙◌, subst, inl, inr, ⊎_elim, arith}
use Rattle.segments.specs.Segments.{segment}
use Rattle.trie.specs.declared.Entry.{Entry}
use Rattle.trie.specs.Entry.{Word64}
use Rattle.trie.specs.Trie.{Kids, none, kid, leaf, Item, listing_node, listing_kids}
use Rattle.trie.specs.Canon.{AllKids, Busy, AllItems, Distinct, NonEmpty, In, Canon, Under as Goes}
use Rattle.layout.specs.declared.Shape.{Shape}
use Rattle.layout.specs.Columns.{State}
use Rattle.arena.specs.Shows.{bitmap, behind, ShowsChain, Shows, ShowsRow}
use Rattle.audits.specs.Audits.{is_live}
use Rattle.audits.proofs.Shown.{ChainAt}
use Rattle.levels.specs.declared.Seen.{Seen}
use Rattle.levels.specs.Levels.{Under, closed}
use Rattle.levels.proofs.Paths.{path_of, asked, SeenAs}
use Rattle.levels.proofs.Children.{chain_length, kids_length, From, From-Above}
use Rattle.levels.proofs.PrefixLaws.{prefix_path, path_Under}
use Rattle.levels.proofs.LeadLaws.{closed_says, segment_at, Child}

module _ (z : Shape) (σ : State) where
  -- ENTRIES. A hash of the chain goes along the path of its front.
  abbrev pub path : ℕ → ℕ → List ℕ
  path t m = path_of z.bits t (σ.plain m 0)

  along : (t r : ℕ) (e : Entry) → (e.hash ≡ σ.plain r 0) × Word64 e → In (segment z.bits) Word64 (path t r) e
  along t r e w =
      (subst (λ (h : ℕ). Goes (segment z.bits) (path t r) h) (sym w.0) (path_Under z.bits t (σ.plain r 0)), w.1)

  all_along : (t r : ℕ) (xs : List (Item ℕ)) → AllItems (λ e. (e.hash ≡ σ.plain r 0) × Word64 e) xs
      → AllItems (In (segment z.bits) Word64 (path t r)) xs
  unfolding AllItems
  all_along t r [] w = tt
  all_along t r (x ∷ xs) w = (along t r x.entry w.0, all_along t r xs w.1)

  chain_Canon : (Q : Kids ℕ → Type 0) (n t r : ℕ) (xs : List (Item ℕ)) → 0 < length xs
      → AllItems (λ e. (e.hash ≡ σ.plain r 0) × Word64 e) xs → Distinct xs → (length xs ≡ 1) ⊎ (n ≡ 0)
      → Canon (segment z.bits) Word64 Q n (path t r) (leaf xs)
  unfolding Canon AllItems NonEmpty
  chain_Canon Q n t r [] some one d w = absurd (omega arith)
  chain_Canon Q zero t r (x ∷ xs) some one d w = (tt, all_along t r (x ∷ xs) one, d)
  chain_Canon Q (suc n) t r (x ∷ []) some one d w = along t r x.entry one.0
  chain_Canon Q (suc n) t r (x ∷ (y ∷ xs)) some one d w = absurd (⊎_elim (λ e. omega arith) (λ e. omega arith) w)

  chain_Shows : (t r : ℕ) (xs : List (Item ℕ)) → 0 < length xs → ShowsChain σ xs r → Shows σ (leaf xs) t r
  unfolding Shows
  chain_Shows t r [] some c = absurd (omega arith)
  chain_Shows t r (x ∷ xs) some c = c

  chain_mark : (r : ℕ) (xs : List (Item ℕ)) → 0 < length xs → ShowsChain σ xs r → σ.mark r ≡ length xs
  unfolding ShowsChain
  chain_mark r [] some c = absurd (omega arith)
  chain_mark r (x ∷ xs) some c = c.2

  pub entry_shows : (n t r s : ℕ) → n + t ≡ z.depths → is_live z σ 1 r ≡ true → ChainAt z σ r → σ.mark r ≡ s
      → (s ≡ 1) ⊎ (t ≡ z.depths) → SeenAs z σ n t r r s
  unfolding listing_node
  entry_shows n t r s d live c m w =
      let len : length c.items ≡ s = sym (chain_mark r c.items c.some c.shows) ∙ m in
      record {
        node = leaf c.items;
        shows = chain_Shows t r c.items c.some c.shows;
        canon =
            chain_Canon (asked t) n t r c.items c.some c.one_hash c.distinct
            (⊎_elim (λ e. inl (len ∙ e)) (λ e. inr (omega arith)) w);
        size = chain_length c.items ∙ len;
        lead = live;
      }

  -- ROWS. The children that n places of the branch r show from place k on; d depths are left below it.
  abbrev pub Below : ℕ → ℕ → ℕ → Kids ℕ → Type 0
  Below d t l ks = AllKids (λ g m. Canon (segment z.bits) Word64 Busy d (g ∷ path t l) m) ks

  pub record RowAs (d t r l k low bits size s : ℕ) : Type 0 where
    pub kids : Kids ℕ
    pub shows : (f : ℕ → ℕ) → ((j : ℕ) → f j ≡ σ.kid r (k + j)) → ShowsRow σ kids t f
    pub canon : Below d t l kids
    pub from : From low kids
    pub map_is : σ.plain r 0 ≡ bits + bitmap kids
    pub size_is : size + length (listing_kids kids) ≡ s
    pub room : (t ≡ 0) ⊎ (1 < s)

  pub row_ends : (d t r l k low bits size m s : ℕ) → ((j : ℕ) → σ.kid r (k + j) ≡ 0) → closed σ t r l bits size ≡ Under m s
      → RowAs d t r l k low bits size s
  unfolding ShowsRow AllKids From bitmap listing_kids
  row_ends d t r l k low bits size m s over e =
      let w = closed_says σ t r l bits size m s e in
      record {
        kids = none;
        shows = λ f h j. h j ∙ over j;
        canon = tt;
        from = tt;
        map_is = omega (arith, w.0);
        size_is = omega (arith, w.3);
        room = ⊎_elim (λ y. inl y) (λ y. inr (omega (arith, w.3))) w.1;
      }

  child_Canon : (d t l : ℕ) (look : ℕ → Option Seen) {r n k low bits size m s : ℕ} (c : Child look z σ t r l n k low bits size m s)
      (v : SeenAs z σ d (suc t) (σ.kid r k) c.lead c.many)
      → Canon (segment z.bits) Word64 Busy d (segment_at z σ t c.lead ∷ path t l) v.node
  unfolding path_of asked
  child_Canon d t l look c v =
      subst (λ (p : List ℕ). Canon (segment z.bits) Word64 Busy d (segment_at z σ t c.lead ∷ p) v.node)
      (prefix_path z t (σ.plain l 0) (σ.plain c.lead 0) c.prefix) v.canon

  pub row_goes : (d t r l n k low bits size m s : ℕ) (look : ℕ → Option Seen) (c : Child look z σ t r l n k low bits size m s)
      → SeenAs z σ d (suc t) (σ.kid r k) c.lead c.many
      → RowAs d t r l (suc k) (suc (segment_at z σ t c.lead)) (bits + 2 ^ segment_at z σ t c.lead) (size + c.many) s
      → RowAs d t r l k low bits size s
  unfolding ShowsRow AllKids From bitmap
  row_goes d t r l n k low bits size m s look c v b =
      let g : ℕ = segment_at z σ t c.lead in
      record {
        kids = kid g v.node b.kids;
        shows =
            λ f h.
            let first : σ.kid r k ≡ f 0 = sym (h 0 ∙ ap (σ.kid r) (omega arith)) in (
              subst (λ (q : ℕ). Shows σ v.node (suc t) q) first v.shows,
              b.shows (behind f) (λ j. h (suc j) ∙ ap (σ.kid r) (omega arith)),
            );
        canon = (child_Canon d t l look c v, b.canon);
        from = (c.low_le, From-Above g b.kids b.from);
        map_is = omega (arith, b.map_is);
        size_is = omega (arith, b.size_is, v.size, kids_length g v.node b.kids);
        room = b.room;
      }
