-- No cell is entered twice, whatever the words are: so a release takes time linear in the cells that it frees and their words. A
-- cell is given back once for each time that it is entered, and its count is then 0, which it was not before, and no count ever
-- rises. For an entry this is plain, since it is given back at once. A branch is counted once until it is given back, since a
-- release from a depth on writes no count and no depth of a branch that stands above.
use Prim.Native.Nat.{ℕ, zero, suc, ◌+◌, ◌-◌, ◌≤◌, ◌<◌}
use mathlib.Core.Path.{◌≡◌, refl, sym, ap, ◌∙◌}
use mathlib.Core.Bool.{true, cond}
use mathlib.Core.List.{List}
use mathlib.Core.Logic.{⊎_elim}
use native.Mathlib.Omega.{arith}
use borrow.Author.Tests.{eq-eqb, ne_eqb}
use lib.Dec.{eqb}
use Rattle.cases.proofs.Cases.{split, eq?, lt?}
use Rattle.counts.specs.Counts.{upd, ind, sum_to}
use Rattle.counts.proofs.CountLaws.{upd_same, upd_other, ind_le, ind_other, sum_add, sum_ext, sum_mono, sum_one, sum_zero}
use Rattle.layout.specs.declared.Shape.{Shape}
use Rattle.layout.specs.Layout.{kind_of, names, Lent}
use Rattle.layout.specs.Columns.{State, word, refs, columns}
use Rattle.arena.specs.Sound.{top}
use Rattle.arena.specs.Local.{cell}
use Rattle.arena.proofs.RefLaws.{refs_inside, cell_yes, num-branches, num-entries}
use Rattle.lookup.specs.Lookup.{names_kind}
use Rattle.lookup.proofs.FindLaws.{kind_says}
use Rattle.cells.specs.Mirrors.{unshare_words, take_out_words, give_back_words}
use Rattle.cells.proofs.KeptLaws.{Kept-Lent, take_out_Kept, give_back_Kept}
use Rattle.cells.proofs.StepColumns.{Lent-degree, Lent-refs, unshare_columns, take_out_columns, give_back_columns}
use Rattle.releases.specs.Releases.{is_last, less_words, chain_from, row_from, at_place, release_from}
use Rattle.releases.specs.Entered.{chain_entered, row_entered, entered_of, unnamed_of, entered_by, times_entered, unnamed}
use Rattle.releases.proofs.CaseLaws.{entry_place, branch_place, last_says, less_shared, less_none, place_says}
use Rattle.releases.proofs.KeptLaws.{release_Kept, row_kept}

-- From the words a to the words b: m more cells have the count 0, each cell counted as g has it; no count rises; and no branch
-- that stands above depth t has another count or depth.
record Once (g : ℕ → ℕ) (z : Shape) (t : ℕ) (a : List ℕ) (m : ℕ) (b : List ℕ) : Type 0 where
  pub counted : unnamed_of g z b ≡ unnamed_of g z a + m
  pub falls : (c : ℕ) → word z b c 0 ≤ word z a c 0
  pub above : (c : ℕ) → kind_of c ≡ 0 → word z a c 1 < t → (word z b c 0 ≡ word z a c 0) × (word z b c 1 ≡ word z a c 1)

Once-none : (g : ℕ → ℕ) (z : Shape) (t : ℕ) (a : List ℕ) → Once g z t a 0 a
Once-none g z t a = record { counted = omega arith; falls = λ c. omega arith; above = λ c ev l. (refl, refl) }

Once-trans : {g : ℕ → ℕ} {z : Shape} {t m n : ℕ} {a b c : List ℕ} → Once g z t a m b → Once g z t b n c → Once g z t a (m + n) c
Once-trans P Q =
    record {
      counted = omega (arith, P.counted, Q.counted);
      falls = λ x. omega (arith, P.falls x, Q.falls x);
      above =
          λ x ev l.
          let p = P.above x ev l in
          let q = Q.above x ev (omega (arith, p.1)) in
          (q.0 ∙ p.0, q.1 ∙ p.1);
    }

-- after a step that enters none
once_after : {g : ℕ → ℕ} {z : Shape} {t m : ℕ} {a b c : List ℕ} → Once g z t a 0 b → Once g z t b m c → Once g z t a m c
once_after {m = m} P Q = let e : 0 + m ≡ m = omega arith in rw e at (Once-trans P Q)

Once-higher : {g : ℕ → ℕ} {z : Shape} {t m : ℕ} {a b : List ℕ} → Once g z (suc t) a m b → Once g z t a m b
Once-higher P = record { counted = P.counted; falls = P.falls; above = λ c ev l. P.above c ev (omega arith) }

-- THE CELLS WITH COUNT 0
both_some : (x y : ℕ) → 0 < x → 0 < y → eqb x 0 ≡ eqb y 0
both_some x y lx ly = rw (ne_eqb x 0 (λ e. omega arith), ne_eqb y 0 (λ e. omega arith))

module _ (g : ℕ → ℕ) (z : Shape) (a : List ℕ) where
  -- as many as before where every count that was 0 is 0 and no other is
  same_unnamed : (b : List ℕ) → ((c : ℕ) → eqb (word z b c 0) 0 ≡ eqb (word z a c 0) 0) → unnamed_of g z b ≡ unnamed_of g z a
  unfolding unnamed_of
  same_unnamed b e = sum_ext (top z) _ _ (λ c l. rw (e c))

  -- and the cell r more where its count, and no other, became 0
  more_unnamed : (b : List ℕ) (r : ℕ) → r < top z → names z r ≡ true → (word z a r 0 ≡ 0 → ⊥) → word z b r 0 ≡ 0
      → ((c : ℕ) → (c ≡ r → ⊥) → word z b c 0 ≡ word z a c 0) → unnamed_of g z b ≡ unnamed_of g z a + g r
  unfolding unnamed_of
  more_unnamed b r l n some none same =
      let f : (List ℕ → ℕ → ℕ) = λ w c. cond (names z c) (cond (eqb (word z w c 0) 0) (g c) 0) 0 in
      let before : f a r ≡ 0 = rw (n, ne_eqb (word z a r 0) 0 some) in
      let after : f b r ≡ g r = rw (n, eq-eqb (word z b r 0) 0 none) in
      omega (arith, sum_one (top z) (f a) (f b) r l (λ c ne. rw (same c ne)), before, after)

  -- never more than all cells
  unnamed_le : (f : ℕ → ℕ) → ((c : ℕ) → names z c ≡ true → g c ≤ f c) → unnamed_of g z a ≤ sum_to (top z) f
  unfolding unnamed_of
  unnamed_le f le =
      sum_mono (top z) _ f
      (λ c.
      split (names z c)
      (λ n. split (eqb (word z a c 0) 0) (λ e. rw (n, e) (le c n)) (λ e. rw (n, e) (omega arith)))
      (λ n. rw n (omega arith)))

-- of one cell, at most that one
ind_once : (n c : ℕ) → sum_to n (λ r. ind c r) ≤ 1
unfolding sum_to
ind_once zero c = omega arith
ind_once (suc n) c =
    ⊎_elim
    (λ e. omega (arith, sum_zero n (λ r. ind c r) (λ r l. ind_other c r (λ q. omega arith)), ind_le c n))
    (λ ne. omega (arith, ind_once n c, ind_other c n ne))
    (eq? n c)

one_unnamed : (z : Shape) (a : List ℕ) (c : ℕ) → unnamed_of (ind c) z a ≤ 1
one_unnamed z a c = omega (arith, unnamed_le (ind c) z a (λ r. ind c r) (λ r n. omega arith), ind_once (top z) c)

all_unnamed : {z : Shape} {a : List ℕ} → Lent z a → (b : List ℕ) → unnamed z b ≤ z.branches + z.entries
all_unnamed {z} l b =
    let d = Lent-degree l in
    let one : (c : ℕ) → names z c ≡ true → 1 ≤ cell z 0 c + cell z 1 c
    = λ c n.
    let some = Lent-refs l c n in
    ⊎_elim
    (λ e. omega (arith, cell_yes z 0 c some e))
    (λ ne. omega (arith, cell_yes z 1 c some (omega arith)))
    (eq? (kind_of c) 0) in
    omega (
      arith,
      unnamed_le (λ c. 1) z b (λ c. cell z 0 c + cell z 1 c) one,
      sum_add (top z) (λ c. cell z 0 c) (λ c. cell z 1 c),
      num-branches z d,
      num-entries z d,
    )

-- THE STEPS. What is written is a cell that was tested: no branch above depth t.
module _ (g : ℕ → ℕ) {z : Shape} {a : List ℕ} (l : Lent z a) (t r : ℕ) where
  out_once : (k : ℕ) → k < refs z r → Once g z t a 0 (take_out_words z a r k)
  out_once k lk =
      let e = take_out_columns z a r k l lk in
      let count : (c : ℕ) → word z (take_out_words z a r k) c 0 ≡ word z a c 0 = λ c. ap (λ (s : State). s.count c) e in
      record {
        counted = omega (arith, same_unnamed g z a (take_out_words z a r k) (λ c. rw (count c)));
        falls = λ c. omega (arith, count c);
        above = λ c ev m. (count c, ap (λ (s : State). s.mark c) e);
      }

  module _ (named : names z r ≡ true) (low : kind_of r ≡ 0 → t ≤ word z a r 1) where
    -- so it is none of them
    apart : (c : ℕ) → kind_of c ≡ 0 → word z a c 1 < t → c ≡ r → ⊥
    apart c ev m e = omega (arith, low (rw (sym e) ev), ap (λ (x : ℕ). word z a x 1) e)

    shared_Once : 1 < word z a r 0 → Once g z t a 0 (unshare_words z a r)
    shared_Once two =
        let b = unshare_words z a r in
        let f = (columns z a).count in
        let v = word z a r 0 - 1 in
        let e = unshare_columns z a r l named in
        let count : (c : ℕ) → word z b c 0 ≡ upd f r v c = λ c. ap (λ (s : State). s.count c) e in
        let at : (c : ℕ) → c ≡ r → word z b c 0 + 1 ≡ word z a c 0
        = λ c q. omega (arith, count c, upd_same f r v c q, ap (λ (x : ℕ). word z a x 0) q) in
        let off : (c : ℕ) → (c ≡ r → ⊥) → word z b c 0 ≡ word z a c 0 = λ c ne. count c ∙ upd_other f r v c ne in
        let test : (c : ℕ) → eqb (word z b c 0) 0 ≡ eqb (word z a c 0) 0
        = λ c.
        ⊎_elim
        (λ q.
        let same : word z a c 0 ≡ word z a r 0 = ap (λ (x : ℕ). word z a x 0) q in
        both_some (word z b c 0) (word z a c 0) (omega (arith, at c q)) (omega arith))
        (λ ne. rw (off c ne))
        (eq? c r) in
        record {
          counted = omega (arith, same_unnamed g z a b test);
          falls = λ c. ⊎_elim (λ q. omega (arith, at c q)) (λ ne. omega (arith, off c ne)) (eq? c r);
          above = λ c ev m. (off c (apart c ev m), ap (λ (s : State). s.mark c) e);
        }

    less_Once : Once g z t a 0 (less_words z a r)
    less_Once =
        ⊎_elim
        (λ two. rw (less_shared z a r two) (shared_Once two))
        (λ few. rw (less_none z a r few) (Once-none g z t a))
        (lt? 1 (word z a r 0))

    give_Once : word z a r 0 ≡ 1 → Once g z t a (g r) (give_back_words z a r)
    give_Once one =
        let b = give_back_words z a r in
        let e = give_back_columns z a r l named in
        let f = (columns z a).count in
        let count : (c : ℕ) → word z b c 0 ≡ upd f r 0 c = λ c. ap (λ (s : State). s.count c) e in
        let off : (c : ℕ) → (c ≡ r → ⊥) → word z b c 0 ≡ word z a c 0 = λ c ne. count c ∙ upd_other f r 0 c ne in
        record {
          counted =
              more_unnamed g z a b r (refs_inside z r (Lent-refs l r named)) named (λ o. omega arith)
              (count r ∙ upd_same f r 0 r refl) off;
          falls =
              λ c. ⊎_elim (λ q. omega (arith, count c, upd_same f r 0 c q)) (λ ne. omega (arith, off c ne)) (eq? c r);
          above =
              λ c ev m.
              (off c (apart c ev m), ap (λ (s : State). s.mark c) e ∙ upd_other (columns z a).mark r _ c (apart c ev m));
        }

-- CHAINS, from any depth on
chain_Once : (g : ℕ → ℕ) {z : Shape} (t n r : ℕ) (a : List ℕ) → Lent z a
    → Once g z t a (chain_entered g z n r a) (chain_from z n r a)
unfolding chain_entered chain_from
chain_Once g {z} t zero r a l = Once-none g z t a
chain_Once g {z} t (suc n) r a l =
    split (names_kind z 1 r)
    (λ e.
    let (named, od) = kind_says z 1 r e in
    let some = entry_place z r e in
    let w = take_out_words z a r 0 in
    let lent : Lent z w = Kept-Lent (take_out_Kept z a r 0 some) l in
    split (is_last z a r)
    (λ f.
    let one : word z w r 0 ≡ 1 = ap (λ (s : State). s.count r) (take_out_columns z a r 0 l some) ∙ last_says z a r f in
    rw (e, f)
    (once_after (out_once g l t r 0 some)
    (Once-trans (give_Once g lent t r named (λ ev. omega arith) one)
    (chain_Once g t n ((columns z a).kid r 0) (give_back_words z w r) (Kept-Lent (give_back_Kept z w r named) lent)))))
    (λ f. rw (e, f) (less_Once g l t r named (λ ev. omega arith))))
    (λ e. rw e (Once-none g z t a))

-- BRANCHES. What lets go of the children stays below the branch.
row_Once : (g : ℕ → ℕ) {z : Shape} (n t r m : ℕ) (a : List ℕ) → Lent z a
    → ((q : ℕ) (b : List ℕ) → Lent z b → Once g z (suc t) b (entered_of g z n (suc t) q b) (release_from z n (suc t) q b))
    → names_kind z 0 r ≡ true → m ≤ z.degree
    → Once g z (suc t) a (row_entered g z (release_from z n (suc t)) (entered_of g z n (suc t)) r m a)
    (row_from (release_from z n (suc t)) z r m a)
unfolding row_entered row_from
row_Once g {z} n t r zero a l on e lm = Once-none g z (suc t) a
row_Once g {z} n t r (suc m) a l on e lm =
    let b = row_from (release_from z n (suc t)) z r m a in
    let lk = branch_place z r m e (omega arith) in
    let lent : Lent z b = Kept-Lent (row_kept (release_from z n (suc t)) z r m a (release_Kept z n (suc t)) e (omega arith)) l in
    Once-trans (row_Once g n t r m a l on e (omega arith))
    (once_after (out_once g lent (suc t) r m lk) (on _ _ (Kept-Lent (take_out_Kept z b r m lk) lent)))

release_Once : (g : ℕ → ℕ) {z : Shape} (n t r : ℕ) (a : List ℕ) → Lent z a
    → Once g z t a (entered_of g z n t r a) (release_from z n t r a)
unfolding entered_of release_from
release_Once g {z} zero t r a l =
    split (names_kind z 1 r) (λ e. rw e (chain_Once g t z.entries r a l)) (λ e. rw e (Once-none g z t a))
release_Once g {z} (suc n) t r a l =
    split (names_kind z 1 r)
    (λ e. rw e (chain_Once g t z.entries r a l))
    (λ e.
    split (at_place z (columns z a) t r)
    (λ p.
    let (here, at) = place_says z (columns z a) t r p in
    let (named, ev) = kind_says z 0 r here in
    split (is_last z a r)
    (λ f.
    let b = row_from (release_from z n (suc t)) z r z.degree a in
    let lent : Lent z b
    = Kept-Lent (row_kept (release_from z n (suc t)) z r z.degree a (release_Kept z n (suc t)) here (omega arith)) l in
    let R = row_Once g n t r z.degree a l (release_Once g n (suc t)) here (omega arith) in
    let still = R.above r ev (omega arith) in
    rw (e, p, f)
    (Once-trans (Once-higher R)
    (give_Once g lent t r named (λ y. omega (arith, still.1)) (still.0 ∙ last_says z a r f))))
    (λ f. rw (e, p, f) (less_Once g l t r named (λ y. omega arith))))
    (λ p. rw (e, p) (Once-none g z t a)))

-- EACH ENTERING MAKES ONE MORE COUNT 0, and none rises
module _ {z : Shape} {a : List ℕ} (n t r : ℕ) (l : Lent z a) where
  pub entered_once : unnamed z (release_from z n t r a) ≡ unnamed z a + entered_by z n t r a
  entered_once = (release_Once (λ c. 1) n t r a l).counted

  pub counts_fall : (c : ℕ) → word z (release_from z n t r a) c 0 ≤ word z a c 0
  counts_fall = (release_Once (λ c. 1) n t r a l).falls

  -- so no cell is entered twice
  pub never_twice : (c : ℕ) → times_entered z n t r a c ≤ 1
  never_twice c =
      omega (arith, (release_Once (ind c) n t r a l).counted, one_unnamed z (release_from z n t r a) c)

  -- and no more cells are entered than there are
  pub entered_few : entered_by z n t r a ≤ z.branches + z.entries
  entered_few =
      omega (arith, entered_once, all_unnamed l (release_from z n t r a))
