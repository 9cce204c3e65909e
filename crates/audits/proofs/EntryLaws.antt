-- Where the tests of all entries and of their keys pass, every entry in use shows a chain: by induction on the chain length in
-- its cell. And where the entries in use show chains and the free ones are 0, the tests pass.
use Prim.Native.Nat.{ℕ, zero, suc, ◌≤◌, ◌<◌}
use mathlib.Core.Path.{◌≡◌, refl, sym, subst, ◌∙◌}
use mathlib.Core.Bool.{true}
use mathlib.Core.List.{[], List, ◌∷◌}
use mathlib.Core.Logic.{⊎_elim}
use native.Mathlib.Omega.{arith}
use lib.ListN.{length}
use Rattle.cases.proofs.Cases.{eq?}
use Rattle.layout.specs.declared.Shape.{Shape}
use Rattle.layout.specs.Layout.{reference, cell_of, cells_of, kind_of, Allowed}
use Rattle.layout.specs.Columns.{State, columns}
use Rattle.layout.proofs.SizeLaws.{small}
use Rattle.layout.proofs.OffsetLaws.{names_says, cells_entry}
use Rattle.trie.specs.declared.Entry.{Entry}
use Rattle.trie.specs.Entry.{Word64, Got, absent, got}
use Rattle.trie.specs.Trie.{Item, item, find}
use Rattle.trie.specs.Canon.{AllItems, Distinct}
use Rattle.arena.specs.Shows.{ShowsChain}
use Rattle.arena.proofs.Few.{chain_few, columns_live}
use Rattle.lookup.specs.Lookup.{names_kind, entry_at, longest, hit_from}
use Rattle.lookup.proofs.Meaning.{live_named, chain_named}
use Rattle.lookup.proofs.SplitLaws.{hit_shown, hit_none}
use Rattle.audits.specs.Audits.{is_live, entry_right, key_right, EntriesFit, entries_right, keys_right}
use Rattle.audits.proofs.AllLaws.{all_below}
use Rattle.audits.proofs.Shown.{ChainAt}
use Rattle.audits.proofs.LiveLaws.{live_is, live_cell}
use Rattle.audits.proofs.StepLaws.{key_free, key_once}
use Rattle.audits.proofs.LinkLaws.{nowhere_not, Followed, linked_end, linked_on, used_says, used_is, free_is, key_says}
use Rattle.std.specs.Prelude.{None}

-- what is said of a chain's entries may be said in other words
all_also : (P Q : Entry → Type 0) (xs : List (Item ℕ)) → ((e : Entry) → P e → Q e) → AllItems P xs → AllItems Q xs
unfolding AllItems
all_also P Q [] f h = tt
all_also P Q (x ∷ xs) f h = (f x.entry h.0, all_also P Q xs f h.1)

module _ (z : Shape) (a : List ℕ) (w : Allowed z) where
  abbrev σ : State
  σ = columns z a

  few_shown : (xs : List (Item ℕ)) (r : ℕ) → ShowsChain σ xs r → length xs ≤ z.entries
  few_shown = chain_few z σ (columns_live z a (omega (arith, (small z w).degree_low)))

  -- an entry in use is the one of its number
  number : (r : ℕ) → is_live z σ 1 r ≡ true → (cell_of r < z.entries) × (reference 1 (cell_of r) ≡ r)
  number r e =
      let l = live_cell z σ 1 r e in
      let k = l.0 in
      let c = names_says z r l.1 in
      let n : cells_of z (kind_of r) ≡ z.entries = cells_entry z (kind_of r) (λ o. omega arith) in
      (omega (arith, c.number), omega (arith, c.low))

  -- FROM THE TESTS. A chain of one entry, and one entry before a chain.
  last_chain : (r : ℕ) → is_live z σ 1 r ≡ true → Word64 (entry_at σ r) → σ.kid r 0 ≡ 0 → σ.mark r ≡ 1 → ChainAt z σ r
  unfolding ShowsChain AllItems Distinct
  last_chain r e fit o m =
      let xs : List (Item ℕ) = item (cell_of r) (entry_at σ r) ∷ [] in
      let s : ShowsChain σ xs r = (sym (number r e).1, (live_cell z σ 1 r e).2, m, o, refl, refl, refl) in
      record {
        items = xs;
        shows = s;
        some = omega arith;
        few = few_shown xs r s;
        one_hash = ((refl, fit), tt);
        distinct = (unfold find in refl, tt);
      }

  -- no entry of the chain behind r has r's hash and key
  not_behind : (r : ℕ) → 0 < σ.count r → key_right z σ r ≡ true → (xs : List (Item ℕ)) → ShowsChain σ xs (σ.kid r 0)
      → find (σ.plain r 0) (σ.plain r 1) xs ≡ absent
  not_behind r l e xs s = by (find (σ.plain r 0) (σ.plain r 1) xs) refl
    where
      by : (g : Got) → find (σ.plain r 0) (σ.plain r 1) xs ≡ g → find (σ.plain r 0) (σ.plain r 1) xs ≡ absent
      by absent q = q
      by (got v) q =
          let n = σ.kid r 0 in
          let t = hit_shown z σ (live_named z a w) (σ.plain r 0) (σ.plain r 1) (longest z) xs n v s (few_shown xs n s) q in
          absurd (nowhere_not _ t.0 (key_says z σ r l e) t.1)

  longer_chain : (r : ℕ) → is_live z σ 1 r ≡ true → Word64 (entry_at σ r) → key_right z σ r ≡ true → Followed z σ r
      → ChainAt z σ (σ.kid r 0) → ChainAt z σ r
  unfolding ShowsChain AllItems Distinct
  longer_chain r e fit key f c = by c.items c.shows c.some c.one_hash c.distinct
    where
      by : (xs : List (Item ℕ)) → ShowsChain σ xs (σ.kid r 0) → 0 < length xs
          → AllItems (λ x. (x.hash ≡ σ.plain (σ.kid r 0) 0) × Word64 x) xs → Distinct xs → ChainAt z σ r
      by [] s l h d = absurd (omega arith)
      by (y ∷ ys) s l h d =
          let xs : List (Item ℕ) = item (cell_of r) (entry_at σ r) ∷ (y ∷ ys) in
          let m : σ.mark (σ.kid r 0) ≡ suc (length ys) = s.2 in
          let t : ShowsChain σ xs r
          = (sym (number r e).1, (live_cell z σ 1 r e).2, omega (arith, f.shorter), s, refl, refl, refl) in
          record {
            items = xs;
            shows = t;
            some = omega arith;
            few = few_shown xs r t;
            one_hash = ((refl, fit), all_also _ _ (y ∷ ys) (λ x p. (p.0 ∙ f.same_hash, p.1)) h);
            distinct = (not_behind r (live_cell z σ 1 r e).2 key (y ∷ ys) s, d);
          }

  pub chain_shown : entries_right z σ ≡ true → keys_right z σ ≡ true → EntriesFit z σ
      → (r : ℕ) → is_live z σ 1 r ≡ true → ChainAt z σ r
  unfolding entries_right keys_right
  chain_shown ee ke fit r e = go (σ.mark r) r refl e
    where
      entry_ok : (r : ℕ) → is_live z σ 1 r ≡ true → entry_right z σ r ≡ true
      entry_ok r e =
          let n = number r e in
          subst (λ (x : ℕ). entry_right z σ x ≡ true) n.1
          (all_below (λ i. entry_right z σ (reference 1 i)) z.entries ee (cell_of r) n.0)

      key_ok : (r : ℕ) → is_live z σ 1 r ≡ true → key_right z σ r ≡ true
      key_ok r e =
          let n = number r e in
          subst (λ (x : ℕ). key_right z σ x ≡ true) n.1
          (all_below (λ i. key_right z σ (reference 1 i)) z.entries ke (cell_of r) n.0)

      fits : (r : ℕ) → is_live z σ 1 r ≡ true → Word64 (entry_at σ r)
      fits r e = let n = number r e in subst (λ (x : ℕ). Word64 (entry_at σ x)) n.1 (fit (cell_of r) n.0)

      go : (n r : ℕ) → σ.mark r ≡ n → is_live z σ 1 r ≡ true → ChainAt z σ r
      go zero r m e =
          ⊎_elim
          (λ o. last_chain r e (fits r e) o.0 o.1)
          (λ f. absurd (omega (arith, f.shorter)))
          (used_says z σ r (live_cell z σ 1 r e).2 (entry_ok r e))
      go (suc n) r m e =
          ⊎_elim
          (λ o. last_chain r e (fits r e) o.0 o.1)
          (λ f. longer_chain r e (fits r e) (key_ok r e) f (go n (σ.kid r 0) (omega (arith, f.shorter)) f.live))
          (used_says z σ r (live_cell z σ 1 r e).2 (entry_ok r e))

  -- TO THE TESTS. What stands behind the first entry of a chain.
  pub chain_next : (r : ℕ) → ChainAt z σ r → (σ.kid r 0 ≡ 0 → ⊥) → Followed z σ r
  unfolding ShowsChain AllItems
  chain_next r c ne = by c.items c.shows c.some c.one_hash
    where
      by : (xs : List (Item ℕ)) → ShowsChain σ xs r → 0 < length xs
          → AllItems (λ x. (x.hash ≡ σ.plain r 0) × Word64 x) xs → Followed z σ r
      by [] s l h = absurd (omega arith)
      by (x ∷ []) s l h = absurd (ne s.3)
      by (x ∷ (y ∷ ys)) s l h =
          let n = σ.kid r 0 in
          let t : ShowsChain σ (y ∷ ys) n = s.3 in
          record {
            live = live_is z σ 1 n (chain_named z σ (live_named z a w) (y ∷ ys) n t (omega arith)) t.1;
            shorter = omega (arith, s.2, t.2);
            same_hash = t.4 ∙ h.1.0.0;
          }

  chain_last : (r : ℕ) → ChainAt z σ r → σ.kid r 0 ≡ 0 → σ.mark r ≡ 1
  unfolding ShowsChain
  chain_last r c o = by c.items c.shows c.some
    where
      by : (xs : List (Item ℕ)) → ShowsChain σ xs r → 0 < length xs → σ.mark r ≡ 1
      by [] s l = absurd (omega arith)
      by (x ∷ []) s l = s.2
      by (x ∷ (y ∷ ys)) s l = absurd (omega (arith, s.3.0))

  pub entry_right_of : (r : ℕ) → names_kind z 1 r ≡ true
      → (σ.count r ≡ 0 → (k : ℕ) → (σ.kid r k ≡ 0) × (σ.plain r k ≡ 0)) → (0 < σ.count r → ChainAt z σ r)
      → entry_right z σ r ≡ true
  entry_right_of r n free used =
      ⊎_elim
      (λ o. free_is z σ r o (free o))
      (λ nz.
      let l : 0 < σ.count r = omega arith in
      let c = used l in
      used_is z σ r l
      (⊎_elim
      (λ o. linked_end z σ r o (chain_last r c o))
      (λ ne. linked_on z σ r ne (chain_next r c ne))
      (eq? (σ.kid r 0) 0)))
      (eq? (σ.count r) 0)

  -- the search behind the first entry of a chain, for its hash and key
  chain_Nowhere : (r : ℕ) → ChainAt z σ r
      → hit_from z σ (σ.plain r 0) (σ.plain r 1) (longest z) (σ.kid r 0) ≡ None
  unfolding ShowsChain Distinct
  chain_Nowhere r c = by c.items c.shows c.some c.distinct
    where
      by : (xs : List (Item ℕ)) → ShowsChain σ xs r → 0 < length xs → Distinct xs
          → hit_from z σ (σ.plain r 0) (σ.plain r 1) (longest z) (σ.kid r 0) ≡ None
      by [] s l d = absurd (omega arith)
      by (x ∷ xs) s l d =
          hit_none z σ (live_named z a w) (σ.plain r 0) (σ.plain r 1) (longest z) xs (σ.kid r 0) s.3
          ((λ i. find (s.4 i) (s.5 i) xs) ∙ d.0)

  pub key_right_of : (r : ℕ) → (0 < σ.count r → ChainAt z σ r) → key_right z σ r ≡ true
  key_right_of r used =
      ⊎_elim
      (λ o. key_free z σ r _ refl o)
      (λ nz. key_once z σ r _ refl _ _ _ nz refl refl refl (chain_Nowhere r (used (omega arith))))
      (eq? (σ.count r) 0)
