-- What a reference shows if the tests of this crate see it: a node of a trie that the rules can build, with as many entries as
-- are seen. An entry shows its chain, which stands where a hash is exhausted or is a single; a branch shows the nodes that its
-- children show, whose paths go on from its own.
use Rattle.std.proofs.Common.{◌≡◌, ℕ, zero, suc, ◌+◌, ◌^◌, ◌<◌, ◌≤◌, true, eqb, ◌⊎◌, [], ◌∷◌, length, Option, sym, ap, ◌∙◌, subst, inl, inr, ⊎_elim, arith, eqb-true}
use Rattle.cases.proofs.Cases.{eq?, lt?}
use Rattle.trie.specs.Trie.{Node, leaf, branch, Kids, none, kid, listing_chain, listing_node, listing_kids}
use Rattle.trie.specs.Canon.{Asc, Some, Big, Busy, Canon}
use Rattle.layout.specs.declared.Shape.{Shape}
use Rattle.layout.specs.Layout.{kind_of, cell_of}
use Rattle.layout.specs.Columns.{State}
use Rattle.layout.proofs.OffsetLaws.{names_says}
use Rattle.arena.specs.Shows.{Shows, ShowsRow}
use Rattle.audits.specs.Audits.{none_from, is_live}
use Rattle.audits.proofs.AllLaws.{all_says}
use Rattle.audits.proofs.Shown.{ChainAt}
use Rattle.audits.proofs.LiveLaws.{live_cell}
use Rattle.levels.specs.declared.Seen.{Seen}
use Rattle.levels.specs.Levels.{Under, seen_entry, row_from, see_from}
use Rattle.levels.proofs.Paths.{asked, SeenAs}
use Rattle.levels.proofs.Children.{kids_length, From-Asc}
use Rattle.levels.proofs.PartLaws.{entry_shows, RowAs, row_ends, row_goes}
use Rattle.levels.proofs.LeadLaws.{no_Fault, see_says, entry_says, segment_at, row_says, branch_says, seen_lead}

-- an only child of a branch with two or more entries is no single
big : (m : Node ℕ) → 1 < length (listing_node m) → Big m
unfolding Big listing_node listing_chain
big (leaf []) l = absurd (omega arith)
big (leaf (x ∷ [])) l = absurd (omega arith)
big (leaf (x ∷ (y ∷ xs))) l = tt
big (branch c ks) l = tt

-- BRANCHES, where every entry in use has its chain, and no branch has children beyond the degree
module _ (z : Shape) (σ : State) (chains : (r : ℕ) → is_live z σ 1 r ≡ true → ChainAt z σ r)
    (clip : (q j : ℕ) → z.degree ≤ j → kind_of q ≡ 0 → σ.kid q j ≡ 0) where
  module _ (d t r l : ℕ) (look : ℕ → Option Seen) (even : kind_of r ≡ 0)
      (below : (q m s : ℕ) → look q ≡ Under m s → SeenAs z σ d (suc t) q m s) where
    over : (n k : ℕ) → n + k ≡ z.degree → none_from (σ.kid r) k n ≡ true → (j : ℕ) → σ.kid r (k + j) ≡ 0
    over n k e off j =
        ⊎_elim
        (λ i. eqb-true _ _ (all_says (λ (i : ℕ). eqb (σ.kid r i) 0) k n off (k + j) (omega arith) (omega arith)))
        (λ i. clip r (k + j) (omega arith) even)
        (lt? j n)

    row_shows : (n k low bits size m s : ℕ) → n + k ≡ z.degree → row_from look z σ t r l n k low bits size ≡ Under m s
        → RowAs z σ d t r l k low bits size s
    unfolding row_from
    row_shows zero k low bits size m s e w =
        row_ends z σ d t r l k low bits size m s (λ j. clip r (k + j) (omega arith) even) w
    row_shows (suc n) k low bits size m s e w =
        ⊎_elim
        (λ y. row_ends z σ d t r l k low bits size m s (over (suc n) k e y.0) y.1)
        (λ c.
        row_goes z σ d t r l n k low bits size m s look c (below (σ.kid r k) c.lead c.many c.seen)
        (row_shows n (suc k) (suc (segment_at z σ t c.lead)) (bits + 2 ^ segment_at z σ t c.lead) (size + c.many) m s
        (omega arith) c.next))
        (row_says look z σ t r l n k low bits size m s w)

  -- what is asked of the children: some, and below the root two or more entries
  row_asked : (t r s : ℕ) (ks : Kids ℕ) → ShowsRow σ ks t (σ.kid r) → (σ.kid r 0 ≡ 0 → ⊥) → length (listing_kids ks) ≡ s
      → (t ≡ 0) ⊎ (1 < s) → asked t ks
  unfolding asked Some Busy ShowsRow listing_kids
  row_asked t r s none w nz e room = absurd (nz (w 0))
  row_asked zero r s (kid g m ks) w nz e room = tt
  row_asked (suc t) r s (kid g m none) w nz e room =
      big m (⊎_elim (λ y. absurd (omega arith)) (λ y. omega (arith, kids_length g m none)) room)
  row_asked (suc t) r s (kid g m (kid i l ks)) w nz e room = tt

  branch_shows : (d t r l s : ℕ) → is_live z σ 0 r ≡ true → σ.mark r ≡ t → (σ.kid r 0 ≡ 0 → ⊥) → is_live z σ 1 l ≡ true
      → RowAs z σ d t r l 0 0 0 0 s → SeenAs z σ (suc d) t r l s
  unfolding Shows Canon listing_node
  branch_shows d t r l s live mark nz lead b =
      let v = live_cell z σ 0 r live in
      let row : ShowsRow σ b.kids t (σ.kid r) = b.shows (σ.kid r) (λ j. ap (σ.kid r) (omega arith)) in
      let sized : length (listing_kids b.kids) ≡ s = omega (arith, b.size_is) in
      let asc : Asc b.kids = From-Asc 0 b.kids b.from in
      record {
        node = branch (cell_of r) b.kids;
        shows = (omega (arith, v.0, (names_says z r v.1).low), v.2, mark, omega (arith, b.map_is), asc, row);
        canon = (row_asked t r s b.kids row nz sized b.room, asc, b.canon);
        size = sized;
        lead = lead;
      }

  seen_entry_lem : (n t r l s : ℕ) → n + t ≡ z.depths → is_live z σ 1 r ≡ true → seen_entry z σ t r ≡ Under l s
      → SeenAs z σ n t r l s
  seen_entry_lem n t r l s e live w =
      let v = entry_says z σ t r l s w in
      subst (λ (m : ℕ). SeenAs z σ n t r m s) v.0 (entry_shows z σ n t r s e live (chains r live) v.1 v.2)

  -- NODES
  pub seen_shows : (n t r l s : ℕ) → n + t ≡ z.depths → see_from z σ n t r ≡ Under l s → SeenAs z σ n t r l s
  unfolding see_from
  seen_shows zero t r l s e w =
      ⊎_elim (λ y. seen_entry_lem 0 t r l s e y.0 y.1) (λ y. no_Fault y.2) (see_says z σ _ t r l s w)
  seen_shows (suc n) t r l s e w =
      ⊎_elim
      (λ y. seen_entry_lem (suc n) t r l s e y.0 y.1)
      (λ y.
      let v = branch_says (see_from z σ n (suc t)) z σ t r l s y.2 in
      branch_shows n t r l s y.0 y.1 v.0 (seen_lead z σ (suc n) t r l s w)
      (row_shows n t r l (see_from z σ n (suc t)) (live_cell z σ 0 r y.0).0
      (λ q m p x. seen_shows n (suc t) q m p (omega arith) x) z.degree 0 0 0 0 l s (omega arith) v.2))
      (see_says z σ _ t r l s w)

  -- a child of a branch that is seen is seen
  row_kid : (look : ℕ → Option Seen) (t r l n k low bits size m s j : ℕ) → row_from look z σ t r l n k low bits size ≡ Under m s
      → k ≤ j → j < k + n → (σ.kid r j ≡ 0 → ⊥) → (p : ℕ) × (q : ℕ) × (look (σ.kid r j) ≡ Under p q)
  row_kid look t r l zero k low bits size m s j e u v nz = absurd (omega arith)
  row_kid look t r l (suc n) k low bits size m s j e u v nz =
      ⊎_elim
      (λ w. absurd (nz (eqb-true _ _ (all_says (λ (i : ℕ). eqb (σ.kid r i) 0) k (suc n) w.0 j u v))))
      (λ c.
      ⊎_elim
      (λ i. (c.lead, c.many, ap (λ (p : ℕ). look (σ.kid r p)) (sym i) ∙ c.seen))
      (λ i.
      row_kid look t r l n (suc k) (suc (segment_at z σ t c.lead)) (bits + 2 ^ segment_at z σ t c.lead) (size + c.many)
      m s j c.next (omega arith) (omega arith) nz)
      (eq? k j))
      (row_says look z σ t r l n k low bits size m s e)

  pub seen_kid : (n t r l s k : ℕ) → is_live z σ 0 r ≡ true → see_from z σ (suc n) t r ≡ Under l s → k < z.degree
      → (σ.kid r k ≡ 0 → ⊥) → (m : ℕ) × (q : ℕ) × (see_from z σ n (suc t) (σ.kid r k) ≡ Under m q)
  unfolding see_from
  seen_kid n t r l s k live e u nz =
      ⊎_elim
      (λ w. absurd (omega (arith, (live_cell z σ 0 r live).0, (live_cell z σ 1 r w.0).0)))
      (λ w.
      row_kid (see_from z σ n (suc t)) t r l z.degree 0 0 0 0 l s k
      (branch_says (see_from z σ n (suc t)) z σ t r l s w.2).2 (omega arith) (omega arith) nz)
      (see_says z σ _ t r l s e)

  -- a node that is seen is an entry, or a branch at its depth
  pub seen_below : (n t r l s : ℕ) → see_from z σ n t r ≡ Under l s
      → (is_live z σ 1 r ≡ true) ⊎ ((is_live z σ 0 r ≡ true) × (σ.mark r ≡ t))
  unfolding see_from
  seen_below zero t r l s e = ⊎_elim (λ w. inl w.0) (λ w. inr (w.0, w.1)) (see_says z σ _ t r l s e)
  seen_below (suc n) t r l s e = ⊎_elim (λ w. inl w.0) (λ w. inr (w.0, w.1)) (see_says z σ _ t r l s e)
