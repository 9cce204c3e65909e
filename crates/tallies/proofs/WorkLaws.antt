-- The work words stand for the cells: each cell has one of its own, and each work word is that of a cell. What is added to them
-- in turns is added in one, and a store to the work word of a cell is one more for that cell alone.
use Prim.Native.Nat.{ℕ, ◌+◌, ◌-◌, ◌≤◌, ◌<◌}
use mathlib.Core.Path.{◌≡◌, refl, sym, ap, ◌∙◌}
use mathlib.Core.Bool.{true, false}
use mathlib.Core.List.{List, ◌++◌}
use mathlib.Core.Logic.{⊎_elim}
use native.Mathlib.Numerals.{add-one}
use native.Mathlib.Omega.{arith}
use borrow.Author.Tests.{eq-eqb, ne_eqb}
use lib.ListN.{length, get_or, set, length-set, replicate, length-replicate, drop, get_or-append}
use lib.Seq.{get_or-set_same, get_or-set_other}
use Rattle.std.proofs.Common.{length-append, length-drop}
use Rattle.std.proofs.lemmas.List.{get_or-append_right, get_or-drop, get_or-replicate}
use Rattle.cases.proofs.Cases.{eq?, lt?}
use Rattle.counts.specs.Counts.{ind, sum_to, times}
use Rattle.counts.proofs.CountLaws.{ind_same, ind_other, cnt_le, sum_le}
use Rattle.layout.specs.declared.Shape.{Shape}
use Rattle.layout.specs.Layout.{reference, kind_of, cell_of, names}
use Rattle.layout.proofs.OffsetLaws.{names_says, cells_branch, cells_entry}
use Rattle.arena.proofs.RefLaws.{names_of}
use Rattle.tallies.specs.Tallies.{work_words, work_place, Works, Low, Adds}

-- WHERE A WORK WORD STANDS
module _ (z : Shape) where
  pub work_branch : (r : ℕ) → kind_of r ≡ 0 → work_place z r ≡ cell_of r
  unfolding work_place
  work_branch r e = rw (eq-eqb (kind_of r) 0 e)

  pub work_entry : (r : ℕ) → (kind_of r ≡ 0 → ⊥) → work_place z r ≡ z.branches + cell_of r
  unfolding work_place
  work_entry r ne = rw (ne_eqb (kind_of r) 0 ne)

  pub work_below : (r : ℕ) → names z r ≡ true → work_place z r < work_words z
  work_below r n =
      let w = names_says z r n in
      ⊎_elim
      (λ e. omega (arith, work_branch r e, w.number, cells_branch z (kind_of r) e))
      (λ ne. omega (arith, work_entry r ne, w.number, cells_entry z (kind_of r) ne))
      (eq? (kind_of r) 0)

  pub work_once : (q r : ℕ) → names z q ≡ true → names z r ≡ true → work_place z q ≡ work_place z r → q ≡ r
  work_once q r m n s =
      let v = names_says z q m in
      let w = names_says z r n in
      let a = v.low in
      let b = w.low in
      ⊎_elim
      (λ (d : kind_of q ≡ 0).
      ⊎_elim
      (λ (e : kind_of r ≡ 0). omega (arith, work_branch q d, work_branch r e))
      (λ (ne : kind_of r ≡ 0 → ⊥).
      absurd (omega (arith, work_branch q d, work_entry r ne, v.number, cells_branch z (kind_of q) d)))
      (eq? (kind_of r) 0))
      (λ (nd : kind_of q ≡ 0 → ⊥).
      ⊎_elim
      (λ (e : kind_of r ≡ 0).
      absurd (omega (arith, work_entry q nd, work_branch r e, w.number, cells_branch z (kind_of r) e)))
      (λ (ne : kind_of r ≡ 0 → ⊥). omega (arith, work_entry q nd, work_entry r ne))
      (eq? (kind_of r) 0))
      (eq? (kind_of q) 0)

  pub work_of : (j : ℕ) → j < work_words z → (r : ℕ) × (names z r ≡ true) × (work_place z r ≡ j)
  work_of j l =
      ⊎_elim
      (λ (b : j < z.branches). (
        reference 0 j,
        names_of z 0 j (omega arith) (omega (arith, cells_branch z 0 refl)),
        omega (arith, work_branch (reference 0 j) (omega arith)),
      ))
      (λ (b : z.branches ≤ j).
      let i = j - z.branches in (
        reference 1 i,
        names_of z 1 i (omega arith) (omega (arith, cells_entry z 1 (λ y. omega arith))),
        omega (arith, work_entry (reference 1 i) (λ y. omega arith)),
      ))
      (lt? j z.branches)

-- WHAT IS ADDED. Nothing; twice; a sum, one place after the other
module _ (z : Shape) where
  pub adds_none : (g : ℕ → ℕ) (w : List ℕ) → ((q : ℕ) → names z q ≡ true → g q ≡ 0) → Adds z g w w
  adds_none g w h =
      record { same_length = refl; first = λ r n. omega (arith, h r n); rest = λ j l. refl }

  pub Adds-twice : (f g h : ℕ → ℕ) (u v w : List ℕ) → Adds z f u v → Adds z g v w → ((q : ℕ) → h q ≡ f q + g q) → Adds z h u w
  Adds-twice f g h u v w a b e =
      record {
        same_length = b.same_length ∙ a.same_length;
        first = λ r n. omega (arith, b.first r n, a.first r n, e r);
        rest = λ j l. b.rest j l ∙ a.rest j l;
      }

  sum_more : (k : ℕ) (f : ℕ → ℕ) → sum_to (k + 1) f ≡ sum_to k f + f k
  unfolding sum_to
  sum_more k f = rw add-one

  pub Adds-none_yet : (f : ℕ → ℕ → ℕ) (w : List ℕ) → Adds z (λ q. sum_to 0 (f q)) w w
  unfolding sum_to
  Adds-none_yet f w = adds_none (λ q. 0) w (λ q n. refl)

  pub Adds-next : (f : ℕ → ℕ → ℕ) (g : ℕ → ℕ) (k : ℕ) (u v w : List ℕ) → Adds z (λ q. sum_to k (f q)) u v → Adds z g v w
      → ((q : ℕ) → g q ≡ f q k) → Adds z (λ q. sum_to (k + 1) (f q)) u w
  Adds-next f g k u v w a b e =
      Adds-twice (λ q. sum_to k (f q)) g (λ q. sum_to (k + 1) (f q)) u v w a b (λ q. omega (arith, sum_more k (f q), e q))

  Adds-Low : (g : ℕ → ℕ) (m n p : ℕ) (u v : List ℕ) → Low z m u → Adds z g u v → ((q : ℕ) → g q ≤ n) → m + n ≤ p → Low z p v
  Adds-Low g m n p u v l a h b = λ r k. omega (arith, l r k, a.first r k, h r)

  pub times-Low : (f : ℕ → ℕ) (k m n p : ℕ) (u v : List ℕ) → Low z m u → Adds z (times k f) u v → k ≤ n → m + n ≤ p → Low z p v
  times-Low f k m n p u v l a h b = Adds-Low (times k f) m n p u v l a (λ q. omega (arith, cnt_le k f q)) b

  pub cells_low : (f : ℕ → ℕ → ℕ) (i d m p : ℕ) (u v : List ℕ) → Low z m u → Adds z (λ q. sum_to i (λ j. times d (f j) q)) u v
      → i ≤ 4194304 → d ≤ 64 → m + 268435456 ≤ p → Low z p v
  cells_low f i d m p u v l a h k b =
      Adds-Low (λ q. sum_to i (λ j. times d (f j) q)) m 268435456 p u v l a
      (λ q. omega (arith, sum_le i (λ j. times d (f j) q) 64 (λ j. omega (arith, cnt_le d (f j) q)))) b

  pub Works-Low : (f : ℕ → ℕ) (n : ℕ) (u v : List ℕ) → Works z f u v → ((q : ℕ) → f q ≤ n) → Low z n v
  Works-Low f n u v a h = λ r k. omega (arith, a.first r k, h r)

  pub Works-long : (f : ℕ → ℕ) (u v : List ℕ) → Works z f u v → work_words z ≤ length u → work_words z ≤ length v
  Works-long f u v a l = omega (arith, a.same_length)

  pub Works-Adds : (f g h : ℕ → ℕ) (u v w : List ℕ) → Works z f u v → Adds z g v w → ((q : ℕ) → h q ≡ f q + g q) → Works z h u w
  Works-Adds f g h u v w a b e =
      record {
        same_length = b.same_length ∙ a.same_length;
        first = λ r n. omega (arith, b.first r n, a.first r n, e r);
        rest = λ j l. b.rest j l ∙ a.rest j l;
      }

-- ONE MORE, for the cell that r names or for none
module _ (z : Shape) (r : ℕ) (w : List ℕ) where
  pub adds_one : (i : ℕ) → i ≡ work_place z r → names z r ≡ true → work_words z ≤ length w
      → Adds z (λ q. ind q r) w (set w i (get_or w i 0 + 1))
  adds_one i e n l =
      let v = get_or w i 0 + 1 in
      let b = work_below z r n in
      record {
        same_length = length-set w i v;
        first =
            λ q m.
            ⊎_elim
            (λ (s : r ≡ q).
            let t : work_place z q ≡ i = ap (work_place z) (sym s) ∙ sym e in
            ap (λ (j : ℕ). get_or (set w i v) j 0) t
            ∙ get_or-set_same w i v 0 (omega arith)
            ∙ omega (arith, ap (λ (j : ℕ). get_or w j 0) t, ind_same q r s))
            (λ (ne : r ≡ q → ⊥).
            get_or-set_other w i (work_place z q) v 0 (λ s. ne (sym (work_once z q r m n (s ∙ e))))
            ∙ omega (arith, ind_other q r ne))
            (eq? r q);
        rest = λ j g. get_or-set_other w i j v 0 (λ s. omega arith);
      }

  pub Adds-no_cell : names z r ≡ false → Adds z (λ q. ind q r) w w
  Adds-no_cell n =
      adds_none z (λ q. ind q r) w
      (λ q m.
      ind_other q r (λ e. let x : names z r ≡ true = ap (names z) e ∙ m in let y : ◌≡◌ {A = ℕ} 0 1 = cc in omega arith))

-- ALL ZEROS. The words in front are 0, and those behind them are as they were.
pub Works-zeros : (z : Shape) (u v : List ℕ) → work_words z ≤ length u → v ≡ replicate (work_words z) 0
    → Works z (λ r. 0) u (v ++ drop (work_words z) u)
Works-zeros z u v l e =
    let n = work_words z in
    let m : length v ≡ n = ap length e ∙ length-replicate n 0 in
    record {
      same_length = length-append v (drop n u) ∙ omega (arith, m, length-drop n u, l);
      first =
          λ r k.
          let p = work_below z r k in
          get_or-append v (drop n u) 0 (work_place z r) (omega arith)
          ∙ rw e (get_or-replicate n (work_place z r) 0 0 p);
      rest =
          λ j g.
          get_or-append_right v (drop n u) n j 0 m g
          ∙ get_or-drop n u (j - n) 0
          ∙ ap (λ (i : ℕ). get_or u i 0) {x = n + (j - n)} {y = j} (omega arith);
    }
