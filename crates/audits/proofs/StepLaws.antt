-- The tests of cells as the code makes them: what each word that was read says of a test, and what is left of a loop.
use Prim.Native.Nat.{ℕ, zero, suc, ◌+◌, ◌-◌, ◌^◌, ◌≤◌, ◌<◌}
use mathlib.Core.Path.{◌≡◌, refl, sym, ap, subst, ◌∙◌}
use mathlib.Core.Bool.{Bool, true, false}
use mathlib.Core.List.{List}
use mathlib.Core.Logic.{⊎_elim}
use lib.Dec.{eqb, ltb}
use borrow.Author.Tests.{eq-eqb, ne_eqb, lt-ltb, le-ltb}
use native.Mathlib.Omega.{arith}
use Rattle.cases.proofs.Cases.{eq?}
use Rattle.counts.specs.Counts.{ind, sum_to}
use Rattle.counts.proofs.CountLaws.{ind_same, ind_other, cnt_le}
use Rattle.layout.specs.declared.Shape.{Shape}
use Rattle.layout.specs.Layout.{reference, kind_of, cells_of}
use Rattle.layout.specs.Columns.{State, columns, word, plain_place}
use Rattle.layout.proofs.OffsetLaws.{names_is, cells_branch, cells_entry}
use Rattle.layout.proofs.ColumnLaws.{plain_in}
use Rattle.trie.specs.Entry.{Word64}
use Rattle.lookup.specs.Lookup.{names_kind, entry_at, longest, hit_from}
use Rattle.lookup.proofs.FindLaws.{kind_says, kind_is, entry_word}
use Rattle.audits.specs.Audits.{all_from, none_from, is_live, free_branch, free_entry, one_more, linked_to, linked, entry_right, key_right, branch_right, idle, walk, chain_right}
use Rattle.audits.proofs.AllLaws.{all_on, all_stops}
use Rattle.std.specs.Prelude.{Option, Some, None, is_none}

-- REFERENCES. That of a cell names it, and one that names no cell is of no kind.
pub cell_named : (z : Shape) (k i r : ℕ) → k < 2 → i < cells_of z k → r ≡ reference k i → names_kind z k r ≡ true
cell_named z k i r lk l e =
    let kind : kind_of r ≡ k = omega arith in
    kind_is z k r (names_is z r (record { low = omega arith; number = rw kind (omega arith) })) kind

pub entry_cell : (z : Shape) (i r : ℕ) → i < z.entries → r ≡ reference 1 i → names_kind z 1 r ≡ true
entry_cell z i r l e = cell_named z 1 i r (omega arith) (omega (arith, cells_entry z 1 (λ q. omega arith))) e

pub branch_cell : (z : Shape) (i r : ℕ) → i < z.branches → r ≡ reference 0 i → names_kind z 0 r ≡ true
branch_cell z i r l e = cell_named z 0 i r (omega arith) (omega (arith, cells_branch z 0 refl)) e

-- a branch's bitmap
pub bitmap_word : (z : Shape) (a : List ℕ) (r : ℕ) → names_kind z 0 r ≡ true → word z a r 2 ≡ (columns z a).plain r 0
bitmap_word z a r e =
    let k = (kind_says z 0 r e).1 in
    sym (plain_in z a r 0 (rw k (omega arith)) ∙ ap (λ (i : ℕ). word z a r (plain_place i + 0)) k)

-- an entry's words, which were read
pub entry_fits : (z : Shape) (a : List ℕ) (r h k v : ℕ) → names_kind z 1 r ≡ true → h ≡ word z a r 3 → k ≡ word z a r 4
    → v ≡ word z a r 5 → h < 2 ^ 64 → k < 2 ^ 64 → v < 2 ^ 64 → Word64 (entry_at (columns z a) r)
entry_fits z a r h k v e eh ek ev lh lk lv =
    record {
      hash_fits = rw (← (eh ∙ sym (entry_word z a r 0 e (omega arith)))) lh;
      key_fits = rw (← (ek ∙ sym (entry_word z a r 1 e (omega arith)))) lk;
      value_fits = rw (← (ev ∙ sym (entry_word z a r 2 e (omega arith)))) lv;
    }

pub fits_on : (σ : State) (i r : ℕ) → r ≡ reference 1 i → Word64 (entry_at σ r)
    → ((j : ℕ) → j < i → Word64 (entry_at σ (reference 1 j))) → (j : ℕ) → j < i + 1 → Word64 (entry_at σ (reference 1 j))
fits_on σ i r e w h j l =
    ⊎_elim
    (λ q. let same : reference 1 j ≡ r = omega arith in subst (λ (x : ℕ). Word64 (entry_at σ x)) (sym same) w)
    (λ ne. h j (omega arith))
    (eq? j i)

-- LOOPS. A test of many numbers, from its start on and after one that holds.
pub all_first : (p : ℕ → Bool) (n : ℕ) → all_from p 0 n ≡ all_from p 0 (n - 0)
all_first p n = let e : n ≡ n - 0 = omega arith in ap (all_from p 0) e

all_next : (p : ℕ → Bool) (i n : ℕ) → i < n → p i ≡ true → all_from p i (n - i) ≡ all_from p (i + 1) (n - (i + 1))
all_next p i n l t = let e : suc i ≡ i + 1 = omega arith in all_on p i n l t ∙ ap (λ (j : ℕ). all_from p j (n - j)) e

-- over the words of a row
module _ (f : ℕ → ℕ) (i n v : ℕ) (l : i < n) (q : v ≡ f i) where
  pub none_on : v ≡ 0 → none_from f i (n - i) ≡ none_from f (i + 1) (n - (i + 1))
  none_on e = all_next (λ k. eqb (f k) 0) i n l (eq-eqb (f i) 0 (sym q ∙ e))

  pub none_stops : (v ≡ 0 → ⊥) → none_from f i (n - i) ≡ false
  none_stops ne = all_stops (λ k. eqb (f k) 0) i n l (ne_eqb (f i) 0 (λ e. ne (q ∙ e)))

-- over the cells of kind k, by a test of references
module _ (t : ℕ → Bool) (k i n r : ℕ) (b : Bool) (l : i < n) (e : r ≡ reference k i) (q : b ≡ t r) where
  pub cells_on : b ≡ true → all_from (λ j. t (reference k j)) i (n - i) ≡ all_from (λ j. t (reference k j)) (i + 1) (n - (i + 1))
  cells_on y = all_next (λ j. t (reference k j)) i n l (ap t (sym e) ∙ sym q ∙ y)

  pub cells_stop : b ≡ false → all_from (λ j. t (reference k j)) i (n - i) ≡ false
  cells_stop y = all_stops (λ j. t (reference k j)) i n l (ap t (sym e) ∙ sym q ∙ y)

-- BRANCHES, by the count c, the depth m and the bitmap b
module _ (z : Shape) (σ : State) (r c : ℕ) (ec : c ≡ σ.count r) where
  pub branch_used : (m : ℕ) → (c ≡ 0 → ⊥) → m ≡ σ.mark r → ltb m z.depths ≡ branch_right z σ r
  unfolding branch_right
  branch_used m ne em = rw (ne_eqb (σ.count r) 0 (λ q. ne (ec ∙ q)), em)

  pub branch_free : c ≡ 0 → branch_right z σ r ≡ free_branch z σ r
  unfolding branch_right
  branch_free e = rw (eq-eqb (σ.count r) 0 (sym ec ∙ e))

  pub branch_marked : (b : ℕ) → c ≡ 0 → b ≡ σ.plain r 0 → (b ≡ 0 → ⊥) → branch_right z σ r ≡ false
  unfolding free_branch
  branch_marked b e eb ne = branch_free e ∙ rw (ne_eqb (σ.plain r 0) 0 (λ q. ne (eb ∙ q)))

  pub branch_empty : (b : ℕ) (t : Bool) → c ≡ 0 → b ≡ σ.plain r 0 → b ≡ 0 → t ≡ none_from (σ.kid r) 0 (z.degree - 0)
      → t ≡ branch_right z σ r
  unfolding free_branch
  branch_empty b t e eb e0 et =
      et ∙ sym (all_first (λ k. eqb (σ.kid r k) 0) z.degree)
      ∙ sym (branch_free e ∙ rw (eq-eqb (σ.plain r 0) 0 (sym eb ∙ e0)))

-- ENTRIES. What may stand behind the entry r: n, by its count c.
module _ (z : Shape) (σ : State) (r n : ℕ) where
  pub linked_not : names_kind z 1 n ≡ false → linked_to z σ r n ≡ false
  unfolding linked_to is_live
  linked_not e = rw e

  module _ (c : ℕ) (e : names_kind z 1 n ≡ true) (ec : c ≡ σ.count n) where
    pub linked_free : c ≡ 0 → linked_to z σ r n ≡ false
    unfolding linked_to is_live
    linked_free q = rw (e, le-ltb 0 (σ.count n) (omega arith))

    module _ (ne : c ≡ 0 → ⊥) (m k : ℕ) (b : Bool) (em : m ≡ σ.mark r) (ek : k ≡ σ.mark n) (eb : b ≡ one_more m k) where
      one_more_lem : one_more (σ.mark r) (σ.mark n) ≡ b
      one_more_lem = sym (rw (em, ek) at eb)

      pub linked_apart : b ≡ false → linked_to z σ r n ≡ false
      unfolding linked_to is_live
      linked_apart q = rw (e, lt-ltb 0 (σ.count n) (omega arith), one_more_lem, q)

      pub linked_hash : (g h : ℕ) → b ≡ true → g ≡ σ.plain n 0 → h ≡ σ.plain r 0 → eqb g h ≡ linked_to z σ r n
      unfolding linked_to is_live
      linked_hash g h q eg eh = rw (e, lt-ltb 0 (σ.count n) (omega arith), one_more_lem, q, eg, eh)

-- the entry r, by its next n
module _ (z : Shape) (σ : State) (r n : ℕ) (en : n ≡ σ.kid r 0) where
  pub linked_last : (m : ℕ) → n ≡ 0 → m ≡ σ.mark r → eqb m 1 ≡ linked z σ r
  unfolding linked
  linked_last m e em = rw (eq-eqb (σ.kid r 0) 0 (sym en ∙ e), em)

  pub linked_next : (b : Bool) → (n ≡ 0 → ⊥) → b ≡ linked_to z σ r n → b ≡ linked z σ r
  unfolding linked
  linked_next b ne eb = rw (ne_eqb (σ.kid r 0) 0 (λ q. ne (en ∙ q)), ← en) eb

-- by its count c
module _ (z : Shape) (σ : State) (r c : ℕ) (ec : c ≡ σ.count r) where
  pub entry_used : (b : Bool) → (c ≡ 0 → ⊥) → b ≡ linked z σ r → b ≡ entry_right z σ r
  unfolding entry_right
  entry_used b ne eb = rw (ne_eqb (σ.count r) 0 (λ q. ne (ec ∙ q))) eb

  pub entry_free : c ≡ 0 → entry_right z σ r ≡ free_entry σ r
  unfolding entry_right
  entry_free e = rw (eq-eqb (σ.count r) 0 (sym ec ∙ e))

  pub key_free : c ≡ 0 → key_right z σ r ≡ true
  unfolding key_right
  key_free e = rw (eq-eqb (σ.count r) 0 (sym ec ∙ e))

  pub key_used : (n h k : ℕ) (t : Option ℕ) → (c ≡ 0 → ⊥) → n ≡ σ.kid r 0 → h ≡ σ.plain r 0 → k ≡ σ.plain r 1
      → hit_from z σ h k (longest z) n ≡ t → key_right z σ r ≡ is_none t
  unfolding key_right
  key_used n h k t ne en eh ek et = rw (ne_eqb (σ.count r) 0 (λ q. ne (ec ∙ q)), ← en, ← eh, ← ek, et)

  pub key_twice : (n h k q : ℕ) → (c ≡ 0 → ⊥) → n ≡ σ.kid r 0 → h ≡ σ.plain r 0 → k ≡ σ.plain r 1
      → hit_from z σ h k (longest z) n ≡ Some q → key_right z σ r ≡ false
  key_twice n h k q ne en eh ek et = key_used n h k (Some q) ne en eh ek et

  pub key_once : (n h k : ℕ) → (c ≡ 0 → ⊥) → n ≡ σ.kid r 0 → h ≡ σ.plain r 0 → k ≡ σ.plain r 1
      → hit_from z σ h k (longest z) n ≡ None → key_right z σ r ≡ true
  key_once n h k ne en eh ek et = key_used n h k None ne en eh ek et

-- a free entry cell, by its words in the order of the test
module _ (σ : State) (r n : ℕ) (en : n ≡ σ.kid r 0) where
  pub free_next : (n ≡ 0 → ⊥) → free_entry σ r ≡ false
  unfolding free_entry
  free_next ne = rw (ne_eqb (σ.kid r 0) 0 (λ q. ne (en ∙ q)))

  module _ (e : n ≡ 0) (h : ℕ) (eh : h ≡ σ.plain r 0) where
    pub free_hash : (h ≡ 0 → ⊥) → free_entry σ r ≡ false
    unfolding free_entry
    free_hash ne = rw (eq-eqb (σ.kid r 0) 0 (sym en ∙ e), ne_eqb (σ.plain r 0) 0 (λ q. ne (eh ∙ q)))

    module _ (e0 : h ≡ 0) (k : ℕ) (ek : k ≡ σ.plain r 1) where
      pub free_key : (k ≡ 0 → ⊥) → free_entry σ r ≡ false
      unfolding free_entry
      free_key ne =
          rw (
            eq-eqb (σ.kid r 0) 0 (sym en ∙ e),
            eq-eqb (σ.plain r 0) 0 (sym eh ∙ e0),
            ne_eqb (σ.plain r 1) 0 (λ q. ne (ek ∙ q)),
          )

      pub free_value : (v : ℕ) → k ≡ 0 → v ≡ σ.plain r 2 → eqb v 0 ≡ free_entry σ r
      unfolding free_entry
      free_value v e1 ev =
          rw (
            eq-eqb (σ.kid r 0) 0 (sym en ∙ e),
            eq-eqb (σ.plain r 0) 0 (sym eh ∙ e0),
            eq-eqb (σ.plain r 1) 0 (sym ek ∙ e1),
            ev,
          )

-- FREE CHAINS. How many of the first i cells of kind k are free, with one more: c is its count.
module _ (σ : State) (k i r c n : ℕ) (er : r ≡ reference k i) (ec : c ≡ σ.count r)
    (en : n ≡ sum_to i (λ j. ind 0 (σ.count (reference k j)))) where
  here : c ≡ σ.count (reference k i)
  here = ec ∙ ap σ.count er

  pub count_free : (m : ℕ) → c ≡ 0 → m ≡ n + 1 → m ≡ sum_to (i + 1) (λ j. ind 0 (σ.count (reference k j)))
  unfolding sum_to
  count_free m e em =
      let s : i + 1 ≡ suc i = omega arith in
      rw s (omega (arith, ind_same 0 (σ.count (reference k i)) (sym here ∙ e)))

  pub count_used : (m : ℕ) → (c ≡ 0 → ⊥) → m ≡ n → m ≡ sum_to (i + 1) (λ j. ind 0 (σ.count (reference k j)))
  unfolding sum_to
  count_used m ne em =
      let s : i + 1 ≡ suc i = omega arith in
      rw s (omega (arith, ind_other 0 (σ.count (reference k i)) (λ q. ne (here ∙ q))))

pub few_free : (σ : State) (k i : ℕ) → sum_to i (λ j. ind 0 (σ.count (reference k j))) ≤ i
few_free σ k i = cnt_le i (λ j. σ.count (reference k j)) 0

-- a walk with n cells to go through, by the count c of the first
module _ (z : Shape) (σ : State) (k : ℕ) where
  pub walk_not : (n r : ℕ) → 0 < n → names_kind z k r ≡ false → walk z σ k n r ≡ false
  unfolding walk
  walk_not zero r l e = absurd (omega arith)
  walk_not (suc n) r l e = rw e

  pub walk_used : (n r c : ℕ) → 0 < n → names_kind z k r ≡ true → c ≡ σ.count r → (c ≡ 0 → ⊥) → walk z σ k n r ≡ false
  unfolding walk
  walk_used zero r c l e ec ne = absurd (omega arith)
  walk_used (suc n) r c l e ec ne = rw (e, ne_eqb (σ.count r) 0 (λ q. ne (ec ∙ q)))

  pub walk_on : (n r c m : ℕ) → 0 < n → names_kind z k r ≡ true → c ≡ σ.count r → c ≡ 0 → m ≡ σ.mark r
      → walk z σ k n r ≡ walk z σ k (n - 1) m
  unfolding walk
  walk_on zero r c m l e ec q em = absurd (omega arith)
  walk_on (suc n) r c m l e ec q em =
      let s : n ≡ suc n - 1 = omega arith in
      rw (e, eq-eqb (σ.count r) 0 (sym ec ∙ q), ← em) (ap (λ (i : ℕ). walk z σ k i m) s)

  pub walk_over : (n r : ℕ) → n ≡ 0 → walk z σ k n r ≡ eqb r 0
  unfolding walk
  walk_over n r e = rw e

  -- the word u for the cells in use among d, of which n are free
  module _ (u d n : ℕ) (eu : u ≡ σ.used k) (ed : d ≡ cells_of z k) (en : n ≡ idle z σ k) where
    pub chain_wrong : (u ≡ d - n → ⊥) → chain_right z σ k ≡ false
    unfolding chain_right
    chain_wrong ne = rw (ne_eqb (σ.used k) (cells_of z k - idle z σ k) (λ q. ne (omega arith)))

    pub chain_walk : (f : ℕ) (b : Bool) → u ≡ d - n → f ≡ σ.first k → b ≡ walk z σ k n f → b ≡ chain_right z σ k
    unfolding chain_right
    chain_walk f b q ef eb = rw (eq-eqb (σ.used k) (cells_of z k - idle z σ k) (omega arith), ← ef, ← en) eb
