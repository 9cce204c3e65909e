-- What a writer does to the words is a step on the columns: each of its stores changes one column at one place, and the stores
-- to the references or to the other words of a cell together change that cell's row.
use Prim.Native.Nat.{ℕ, zero, suc, ◌+◌, ◌-◌, ◌^◌, ◌≤◌, ◌<◌}
use mathlib.Core.Path.{◌≡◌, refl, sym, ap, ◌∙◌, fun_ext}
use mathlib.Core.Bool.{true, false, cond}
use mathlib.Core.List.{List}
use mathlib.Core.Logic.{⊎_elim}
use native.Mathlib.Omega.{arith}
use lib.Dec.{ltb}
use lib.ListN.{length, set}
use borrow.Author.Tests.{eq-eqb, ne_eqb, lt-ltb, le-ltb}
use Rattle.cases.proofs.Cases.{eq?, lt?}
use Rattle.counts.specs.Counts.{upd, upd2, upd_row}
use Rattle.counts.proofs.CountLaws.{upd_same, upd_other, row_same, row_other, place_same, place_other}
use Rattle.trie.specs.declared.Entry.{Entry}
use Rattle.layout.specs.declared.Shape.{Shape}
use Rattle.layout.specs.Layout.{kind_of, total, names, Lent}
use Rattle.layout.specs.Columns.{State, word, by_kind, kid_place, plains_of, plain_place, refs, columns, word_set, state, set_first, set_used, set_count, set_mark, set_kid, set_plain}
use Rattle.layout.proofs.SizeLaws.{small}
use Rattle.layout.proofs.ColumnLaws.{has_low, has_kid, has_plain, count_store, mark_store, kid_store, plain_store, first_store, used_store}
use Rattle.arena.specs.Steps.{take_state, fill_state, give_state}
use Rattle.arena.proofs.RefLaws.{names-refs, refs_branch, refs_entry}
use Rattle.cells.specs.Mirrors.{share_words, unshare_words, takeable, cell_taken, take_words, fill_entry_words, row_words, fill_branch_words, put_in_words, take_out_words, blank_words, give_back_words}
use Rattle.cells.specs.Frame.{Kept}
use Rattle.cells.proofs.TakeLaws.{takeable_says}
use Rattle.cells.proofs.KeptLaws.{Kept-Lent, word_kept, kind_Kept}

-- a cell of an arena holds references, as the degree is not 0
pub Lent-degree : {z : Shape} {a : List ℕ} → Lent z a → 0 < z.degree
Lent-degree {z} l = omega (arith, small z l.allowed)

pub Lent-refs : {z : Shape} {a : List ℕ} → Lent z a → (r : ℕ) → names z r ≡ true → 0 < refs z r
Lent-refs {z} l r n = (names-refs z (Lent-degree l) r).0 n

-- ROWS. A row of references is that of a reference and zeros, or the words of a list; an entry's other words are three.
unfoldable pub one : ℕ → ℕ → ℕ
one v zero = v
one v (suc k) = 0

unfoldable pub three : ℕ → ℕ → ℕ → ℕ → ℕ
three h k v zero = h
three h k v (suc zero) = k
three h k v (suc (suc zero)) = v
three h k v (suc (suc (suc j))) = 0

unfoldable pub row_up_to : ℕ → (ℕ → ℕ) → ℕ → ℕ
row_up_to n row k = cond (ltb k n) (row k) 0

-- a row whose first n places were overwritten
unfoldable over : ℕ → (ℕ → ℕ) → (ℕ → ℕ) → ℕ → ℕ
over zero row f = f
over (suc n) row f = upd (over n row f) n (row n)

over_in : (n : ℕ) (row : ℕ → ℕ) (f : ℕ → ℕ) (k : ℕ) → k < n → over n row f k ≡ row k
unfolding over
over_in zero row f k l = absurd (omega arith)
over_in (suc n) row f k l =
    ⊎_elim
    (λ e. upd_same (over n row f) n (row n) k e ∙ ap row (sym e))
    (λ ne. upd_other (over n row f) n (row n) k ne ∙ over_in n row f k (omega arith))
    (eq? k n)

over_out : (n : ℕ) (row : ℕ → ℕ) (f : ℕ → ℕ) (k : ℕ) → n ≤ k → over n row f k ≡ f k
unfolding over
over_out zero row f k l = refl
over_out (suc n) row f k l = upd_other (over n row f) n (row n) k (λ e. omega arith) ∙ over_out n row f k (omega arith)

over_all : (n : ℕ) (row : ℕ → ℕ) (f : ℕ → ℕ) → ((k : ℕ) → n ≤ k → f k ≡ 0) → over n row f ≡ row_up_to n row
unfolding row_up_to
over_all n row f clip =
    fun_ext
    (λ k.
    ⊎_elim
    (λ l. rw (lt-ltb k n l) (over_in n row f k l))
    (λ l. rw (le-ltb k n l) (over_out n row f k l ∙ clip k l))
    (lt? k n))

-- one and three places over a row that is 0 behind them
one_over : (f : ℕ → ℕ) (v : ℕ) → ((k : ℕ) → 1 ≤ k → f k ≡ 0) → (k : ℕ) → upd f 0 v k ≡ one v k
unfolding one
one_over f v clip zero = upd_same f 0 v 0 refl
one_over f v clip (suc k) = upd_other f 0 v (suc k) (λ e. omega arith) ∙ clip (suc k) (omega arith)

three_over : (f : ℕ → ℕ) (h k v : ℕ) → ((j : ℕ) → 3 ≤ j → f j ≡ 0) → (j : ℕ) → upd (upd (upd f 0 h) 1 k) 2 v j ≡ three h k v j
unfolding three
three_over f h k v clip zero =
    upd_other (upd (upd f 0 h) 1 k) 2 v 0 (λ e. omega arith) ∙ upd_other (upd f 0 h) 1 k 0 (λ e. omega arith) ∙ upd_same f 0 h 0 refl
three_over f h k v clip (suc zero) =
    upd_other (upd (upd f 0 h) 1 k) 2 v 1 (λ e. omega arith) ∙ upd_same (upd f 0 h) 1 k 1 refl
three_over f h k v clip (suc (suc zero)) = upd_same (upd (upd f 0 h) 1 k) 2 v 2 refl
three_over f h k v clip (suc (suc (suc j))) =
    upd_other (upd (upd f 0 h) 1 k) 2 v (suc (suc (suc j))) (λ e. omega arith)
    ∙ upd_other (upd f 0 h) 1 k (suc (suc (suc j))) (λ e. omega arith)
    ∙ upd_other f 0 h (suc (suc (suc j))) (λ e. omega arith)
    ∙ clip (suc (suc (suc j))) (omega arith)

-- a table has the row that it has, and a store to a place of a new row changes that row
row_itself : (g : ℕ → ℕ → ℕ) (c : ℕ) → g ≡ upd_row g c (g c)
row_itself g c =
    fun_ext
    (λ d. ⊎_elim (λ e. ap g e ∙ sym (row_same g c (g c) d e)) (λ ne. sym (row_other g c (g c) d ne)) (eq? d c))

row_place : (g : ℕ → ℕ → ℕ) (c : ℕ) (f : ℕ → ℕ) (k v : ℕ) → upd2 (upd_row g c f) c k v ≡ upd_row g c (upd f k v)
row_place g c f k v =
    fun_ext
    (λ d.
    ⊎_elim
    (λ e.
    place_same (upd_row g c f) c k v d e
    ∙ ap (λ (x : ℕ → ℕ). upd x k v) (row_same g c f d e)
    ∙ sym (row_same g c (upd f k v) d e))
    (λ ne. place_other (upd_row g c f) c k v d ne ∙ row_other g c f d ne ∙ sym (row_other g c (upd f k v) d ne))
    (eq? d c))

-- READINGS. Words that are an arena's, with what their columns are.
record Reads (z : Shape) (a : List ℕ) (σ : State) : Type 0 where
  pub lent : Lent z a
  pub reads : columns z a ≡ σ

reads_all : {z : Shape} {a : List ℕ} → Lent z a → Reads z a (columns z a)
reads_all l = record { lent = l; reads = refl }

reads_as : {z : Shape} {a : List ℕ} {σ τ : State} → σ ≡ τ → Reads z a σ → Reads z a τ
reads_as e R = record { lent = R.lent; reads = R.reads ∙ e }

-- STORES
module _ {z : Shape} {a : List ℕ} {σ : State} (R : Reads z a σ) where
  stored : {b : List ℕ} (step : State → State) → Kept z a b → columns z b ≡ step (columns z a) → Reads z b (step σ)
  stored step K e = record { lent = Kept-Lent K R.lent; reads = e ∙ ap step R.reads }

  abbrev long : total z ≤ length a
  long = R.lent.long

  abbrev wide : 3 ≤ z.stride
  wide = R.lent.allowed.wide

  count_to : (r v : ℕ) → names z r ≡ true → Reads z (word_set z a r 0 v) (set_count σ r v)
  count_to r v n =
      stored (λ x. set_count x r v) (word_kept z a r 0 v (has_low z r 0 n (omega arith))) (count_store z a long wide r v n)

  mark_to : (r v : ℕ) → names z r ≡ true → Reads z (word_set z a r 1 v) (set_mark σ r v)
  mark_to r v n =
      stored (λ x. set_mark x r v) (word_kept z a r 1 v (has_low z r 1 n (omega arith))) (mark_store z a long wide r v n)

  kid_to : (r k v : ℕ) → k < refs z r → Reads z (word_set z a r (kid_place (kind_of r) + k) v) (set_kid σ r k v)
  kid_to r k v l = stored (λ x. set_kid x r k v) (word_kept z a r _ v (has_kid z r k l)) (kid_store z a long wide r v k l)

  plain_to : (r k v : ℕ) → names z r ≡ true → k < plains_of (kind_of r)
      → Reads z (word_set z a r (plain_place (kind_of r) + k) v) (set_plain σ r k v)
  plain_to r k v n l =
      stored (λ x. set_plain x r k v) (word_kept z a r _ v (has_plain z r k n l)) (plain_store z a long wide r v n k l)

  first_to : (k v : ℕ) → k < 2 → Reads z (set a (8 + k) v) (set_first σ k v)
  first_to k v l =
      stored (λ x. set_first x k v) (kind_Kept z a (8 + k) v (omega arith) (omega arith)) (first_store z a long wide k v l)

  used_to : (k v : ℕ) → k < 2 → Reads z (set a (10 + k) v) (set_used σ k v)
  used_to k v l =
      stored (λ x. set_used x k v) (kind_Kept z a (10 + k) v (omega arith) (omega arith)) (used_store z a long wide k v l)

-- ROWS BEING WRITTEN
abbrev kid_row : State → ℕ → (ℕ → ℕ) → State
kid_row σ r f = state σ.first σ.used σ.held σ.root σ.size σ.count σ.mark (upd_row σ.kid r f) σ.plain

abbrev plain_row : State → ℕ → (ℕ → ℕ) → State
plain_row σ r d = state σ.first σ.used σ.held σ.root σ.size σ.count σ.mark σ.kid (upd_row σ.plain r d)

module _ {z : Shape} {a : List ℕ} (σ : State) (r : ℕ) where
  kids_begin : Reads z a σ → Reads z a (kid_row σ r (σ.kid r))
  kids_begin =
      let e = row_itself σ.kid r in
      reads_as (λ i. state σ.first σ.used σ.held σ.root σ.size σ.count σ.mark (e i) σ.plain)

  plains_begin : Reads z a σ → Reads z a (plain_row σ r (σ.plain r))
  plains_begin =
      let e = row_itself σ.plain r in
      reads_as (λ i. state σ.first σ.used σ.held σ.root σ.size σ.count σ.mark σ.kid (e i))

  -- word p of the cell is place k of the row
  kid_in : (f : ℕ → ℕ) (k p v : ℕ) → k < refs z r → p ≡ kid_place (kind_of r) + k
      → Reads z a (kid_row σ r f) → Reads z (word_set z a r p v) (kid_row σ r (upd f k v))
  kid_in f k p v l e R =
      let q = row_place σ.kid r f k v in
      rw e
      (reads_as (λ i. state σ.first σ.used σ.held σ.root σ.size σ.count σ.mark (q i) σ.plain)
      (kid_to R r k v l))

  plain_in : (d : ℕ → ℕ) (k p v : ℕ) → names z r ≡ true → k < plains_of (kind_of r) → p ≡ plain_place (kind_of r) + k
      → Reads z a (plain_row σ r d) → Reads z (word_set z a r p v) (plain_row σ r (upd d k v))
  plain_in d k p v n l e R =
      let q = row_place σ.plain r d k v in
      rw e
      (reads_as (λ i. state σ.first σ.used σ.held σ.root σ.size σ.count σ.mark σ.kid (q i))
      (plain_to R r k v n l))

-- what lies behind a row is 0
module _ (z : Shape) (a : List ℕ) (r k : ℕ) where
  no_kid : refs z r ≤ k → (columns z a).kid r k ≡ 0
  no_kid l = rw (le-ltb k (refs z r) l)

  no_plain : plains_of (kind_of r) ≤ k → (columns z a).plain r k ≡ 0
  no_plain l = rw (le-ltb k (plains_of (kind_of r)) l)

-- SHARE AND UNSHARE
pub share_none : (z : Shape) (a : List ℕ) (r : ℕ) → names z r ≡ false → share_words z a r ≡ a
unfolding share_words
share_none z a r n = rw n

-- a count that cannot rise stays
pub share_full : (z : Shape) (a : List ℕ) (r : ℕ) → names z r ≡ true → 2 ^ 64 - 1 ≤ (columns z a).count r → share_words z a r ≡ a
unfolding share_words
share_full z a r n full = rw (n, le-ltb (word z a r 0) (2 ^ 64 - 1) full)

pub share_columns : (z : Shape) (a : List ℕ) (r : ℕ) → Lent z a → names z r ≡ true → (columns z a).count r < 2 ^ 64 - 1
    → columns z (share_words z a r) ≡ set_count (columns z a) r ((columns z a).count r + 1)
unfolding share_words
share_columns z a r l n few = rw (n, lt-ltb (word z a r 0) (2 ^ 64 - 1) few) (count_to (reads_all l) r (word z a r 0 + 1) n).reads

pub unshare_columns : (z : Shape) (a : List ℕ) (r : ℕ) → Lent z a → names z r ≡ true
    → columns z (unshare_words z a r) ≡ set_count (columns z a) r ((columns z a).count r - 1)
unshare_columns z a r l n = (count_to (reads_all l) r (word z a r 0 - 1) n).reads

-- TAKE
module _ (z : Shape) (a : List ℕ) (k : ℕ) where
  pub take_columns : Lent z a → k < 2 → takeable z a k (by_kind a 8 k) ≡ true
      → columns z (take_words z a k) ≡ take_state (columns z a) k ((columns z a).first k)
  unfolding take_words cell_taken
  take_columns l lk t =
      let r = by_kind a 8 k in
      let n = (takeable_says z a k r t).named in
      rw t
      (used_to (first_to (mark_to (count_to (reads_all l) r 1 n) r 0 n) k (word z a r 1) lk) k (by_kind a 10 k + 1) lk).reads

-- FILL
pub fill_entry_columns : (z : Shape) (a : List ℕ) (r l n : ℕ) (x : Entry) → Lent z a → names z r ≡ true → kind_of r ≡ 1
    → columns z (fill_entry_words z a r l n x) ≡ fill_state (columns z a) r l (one n) (three x.hash x.key x.value)
unfolding fill_entry_words
fill_entry_columns z a r l n x lent e o =
    let h = x.hash in
    let k = x.key in
    let v = x.value in
    let σ = columns z a in
    let f = σ.kid r in
    let d = σ.plain r in
    let refs_1 : refs z r ≡ 1 = refs_entry z r (Lent-refs lent r e) o in
    let σ₁ = set_mark σ r l in
    let R₁ = mark_to (reads_all lent) r l e in
    let R₂ = kid_in σ₁ r f 0 2 n (omega arith) (omega arith) (kids_begin σ₁ r R₁) in
    let σ₂ = kid_row σ₁ r (upd f 0 n) in
    let R₃ = plain_in σ₂ r d 0 3 h e (omega arith) (omega arith) (plains_begin σ₂ r R₂) in
    let R₄ = plain_in σ₂ r (upd d 0 h) 1 4 k e (omega arith) (omega arith) R₃ in
    let R₅ = plain_in σ₂ r (upd (upd d 0 h) 1 k) 2 5 v e (omega arith) (omega arith) R₄ in
    let kids = fun_ext (one_over f n (λ j lj. no_kid z a r j (omega arith))) in
    let plains = fun_ext (three_over d h k v (λ j lj. no_plain z a r j (omega arith))) in
    R₅.reads ∙ (λ i. fill_state σ r l (kids i) (plains i))

kids_in : {z : Shape} {a : List ℕ} (σ : State) (r : ℕ) (f : ℕ → ℕ) (row : ℕ → ℕ) (n : ℕ) → kind_of r ≡ 0 → n ≤ refs z r
    → Reads z a (kid_row σ r f) → Reads z (row_words z r row n a) (kid_row σ r (over n row f))
unfolding row_words over
kids_in σ r f row zero o l R = R
kids_in σ r f row (suc n) o l R =
    kid_in σ r (over n row f) n (3 + n) (row n) (omega arith) (omega arith) (kids_in σ r f row n o (omega arith) R)

pub fill_branch_columns : (z : Shape) (a : List ℕ) (r t bm : ℕ) (row : ℕ → ℕ) → Lent z a → names z r ≡ true → kind_of r ≡ 0
    → columns z (fill_branch_words z a r t bm row) ≡ fill_state (columns z a) r t (row_up_to z.degree row) (one bm)
unfolding fill_branch_words
fill_branch_columns z a r t bm row lent e o =
    let σ = columns z a in
    let f = σ.kid r in
    let d = σ.plain r in
    let refs_all : refs z r ≡ z.degree = refs_branch z r (Lent-refs lent r e) o in
    let σ₁ = set_mark σ r t in
    let R₁ = mark_to (reads_all lent) r t e in
    let R₂ = plain_in σ₁ r d 0 2 bm e (omega arith) (omega arith) (plains_begin σ₁ r R₁) in
    let σ₂ = plain_row σ₁ r (upd d 0 bm) in
    let R₃ = kids_in σ₂ r f row z.degree o (omega arith) (kids_begin σ₂ r R₂) in
    let kids = over_all z.degree row f (λ j lj. no_kid z a r j (omega arith)) in
    let plains = fun_ext (one_over d bm (λ j lj. no_plain z a r j (omega arith))) in
    R₃.reads ∙ (λ i. fill_state σ r t (kids i) (plains i))

-- TAKE OUT
pub put_in_columns : (z : Shape) (a : List ℕ) (r k v : ℕ) → Lent z a → k < refs z r
    → columns z (put_in_words z a r k v) ≡ set_kid (columns z a) r k v
put_in_columns z a r k v lent l = (kid_to (reads_all lent) r k v l).reads

pub take_out_columns : (z : Shape) (a : List ℕ) (r k : ℕ) → Lent z a → k < refs z r
    → columns z (take_out_words z a r k) ≡ set_kid (columns z a) r k 0
take_out_columns z a r k lent l = put_in_columns z a r k 0 lent l

-- GIVE BACK
one_blank : (k : ℕ) → one 0 k ≡ 0
unfolding one
one_blank zero = refl
one_blank (suc k) = refl

three_blank : (k : ℕ) → three 0 0 0 k ≡ 0
unfolding three
three_blank zero = refl
three_blank (suc zero) = refl
three_blank (suc (suc zero)) = refl
three_blank (suc (suc (suc k))) = refl

blank_in : (z : Shape) (a : List ℕ) (r : ℕ) → Lent z a → names z r ≡ true
    → Reads z (blank_words z a r) (plain_row (columns z a) r (λ k. 0))
unfolding blank_words
blank_in z a r lent e =
    let σ = columns z a in
    let d = σ.plain r in
    let R = plains_begin σ r (reads_all lent) in
    ⊎_elim
    (λ o.
    let R₂ = plain_in σ r d 0 2 0 e (omega arith) (omega arith) R in
    let q : upd d 0 0 ≡ (λ (k : ℕ). 0) = fun_ext (λ k. one_over d 0 (λ j lj. no_plain z a r j (omega arith)) k ∙ one_blank k) in
    rw (eq-eqb (kind_of r) 0 o) (reads_as (λ i. plain_row σ r (q i)) R₂))
    (λ ne.
    let R₃ = plain_in σ r d 0 3 0 e (omega arith) (omega arith) R in
    let R₄ = plain_in σ r (upd d 0 0) 1 4 0 e (omega arith) (omega arith) R₃ in
    let R₅ = plain_in σ r (upd (upd d 0 0) 1 0) 2 5 0 e (omega arith) (omega arith) R₄ in
    let q : upd (upd (upd d 0 0) 1 0) 2 0 ≡ (λ (k : ℕ). 0)
    = fun_ext (λ k. three_over d 0 0 0 (λ j lj. no_plain z a r j (omega arith)) k ∙ three_blank k) in
    rw (ne_eqb (kind_of r) 0 ne) (reads_as (λ i. plain_row σ r (q i)) R₅))
    (eq? (kind_of r) 0)

pub give_back_columns : (z : Shape) (a : List ℕ) (r : ℕ) → Lent z a → names z r ≡ true
    → columns z (give_back_words z a r) ≡ give_state (columns z a) r
unfolding give_back_words
give_back_columns z a r lent e =
    let q = kind_of r in
    let R = mark_to (count_to (blank_in z a r lent e) r 0 e) r (by_kind a 8 q) e in
    (used_to (first_to R q r (omega arith)) q (by_kind a 10 q - 1) (omega arith)).reads
