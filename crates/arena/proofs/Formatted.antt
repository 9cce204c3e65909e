-- An arena in which every word of a slot and every count is 0, and whose free cells are chained in ascending order, meets the
-- local form with nothing in hand: no word names a cell, and all cells are free.
use Prim.Native.Nat.{ℕ, zero, suc, ◌+◌, ◌-◌, ◌≤◌, ◌<◌}
use mathlib.Core.Path.{◌≡◌, refl, sym, ap, ◌∙◌}
use mathlib.Core.Bool.{cond}
use mathlib.Core.Logic.{⊎_elim}
use mathlib.Core.List.{[], List, ◌∷◌}
use native.Mathlib.Omega.{arith}
use borrow.Author.Tests.{eq-eqb, ne_eqb, lt-ltb, le-ltb}
use lib.Dec.{ltb}
use lib.ListN.{length}
use Rattle.cases.proofs.Cases.{eq?, lt?}
use Rattle.counts.specs.Counts.{ind, times, among}
use Rattle.counts.proofs.CountLaws.{ind_same, ind_other, sum_zero}
use Rattle.layout.specs.declared.Shape.{Shape}
use Rattle.layout.specs.Layout.{reference, kind_of, cell_of, cells_of}
use Rattle.layout.specs.Columns.{State, refs}
use Rattle.arena.specs.Sound.{top, FreeSlot, Chain}
use Rattle.arena.specs.Local.{num, Local}
use Rattle.arena.proofs.RefLaws.{refs_of, ref_cell, num-branches, num-entries, num_none}

pub record Blank (z : Shape) (σ : State) : Type 0 where
  pub some_degree : 0 < z.degree
  pub some_branches : 1 ≤ z.branches
  pub some_entries : 1 ≤ z.entries
  pub first_cell : (k : ℕ) → k < 2 → σ.first k ≡ reference k 0
  pub first_none : (k : ℕ) → 2 ≤ k → σ.first k ≡ 0
  pub no_used : (k : ℕ) → σ.used k ≡ 0
  pub no_held : (s : ℕ) → σ.held s ≡ 0
  pub no_root : (s : ℕ) → σ.root s ≡ 0
  pub no_size : (s : ℕ) → σ.size s ≡ 0
  pub no_count : (r : ℕ) → σ.count r ≡ 0
  pub next_cell : (k c : ℕ) → k < 2 → suc c < cells_of z k → σ.mark (reference k c) ≡ reference k (suc c)
  pub last_cell : (k c : ℕ) → k < 2 → suc c ≡ cells_of z k → σ.mark (reference k c) ≡ 0
  pub no_kid : (r k : ℕ) → σ.kid r k ≡ 0
  pub no_plain : (r k : ℕ) → σ.plain r k ≡ 0

-- n references of kind k from cell c on
unfoldable pub run : ℕ → ℕ → ℕ → List ℕ
run k c zero = []
run k c (suc n) = reference k c ∷ run k (suc c) n

-- all cells of a kind
unfoldable pub ascending : Shape → ℕ → List ℕ
ascending z k = cond (ltb k 2) (run k 0 (cells_of z k)) []

run_length : (k c n : ℕ) → length (run k c n) ≡ n
unfolding run
run_length k c zero = refl
run_length k c (suc n) = omega (arith, run_length k (suc c) n)

run_find : (k c n r : ℕ) → 0 < among (run k c n) r → (i : ℕ) × (c ≤ i) × (i < c + n) × (r ≡ reference k i)
unfolding run among
run_find k c zero r l = absurd (omega arith)
run_find k c (suc n) r l =
    ⊎_elim
    (λ e. (c, omega arith, omega arith, sym e))
    (λ ne. let (i, a, b, e) = run_find k (suc c) n r (omega (arith, ind_other r (reference k c) ne)) in (i, omega arith, omega arith, e))
    (eq? (reference k c) r)

run_before : (k c n i : ℕ) → i < c → among (run k c n) (reference k i) ≡ 0
run_before k c n i l =
    ⊎_elim (λ e. e) (λ ne. let w = run_find k c n (reference k i) (omega arith) in absurd (omega (arith, w.1, w.3)))
    (eq? (among (run k c n) (reference k i)) 0)

run_once : (k c n i : ℕ) → c ≤ i → i < c + n → among (run k c n) (reference k i) ≡ 1
unfolding run among
run_once k c zero i a b = absurd (omega arith)
run_once k c (suc n) i a b =
    ⊎_elim
    (λ e. omega (arith, ind_same (reference k i) (reference k c) (omega arith), run_before k (suc c) n i (omega arith)))
    (λ ne. omega (arith, ind_other (reference k i) (reference k c) (λ e. ne (omega arith)), run_once k (suc c) n i (omega arith) (omega arith)))
    (eq? c i)

ascending_in : (z : Shape) (k : ℕ) → k < 2 → ascending z k ≡ run k 0 (cells_of z k)
unfolding ascending
ascending_in z k l = rw (lt-ltb k 2 l)

ascending_out : (z : Shape) (k : ℕ) → 2 ≤ k → ascending z k ≡ []
unfolding ascending
ascending_out z k l = rw (le-ltb k 2 l)

ascending_all : (z : Shape) → 0 < z.degree → (k : ℕ) → length (ascending z k) ≡ num z k
unfolding cells_of
ascending_all z d zero = ap length (ascending_in z 0 (omega arith)) ∙ run_length 0 0 z.branches ∙ sym (num-branches z d)
ascending_all z d (suc zero) = ap length (ascending_in z 1 (omega arith)) ∙ run_length 1 0 z.entries ∙ sym (num-entries z d)
ascending_all z d (suc (suc k)) =
    ap length (ascending_out z (suc (suc k)) (omega arith)) ∙ sym (num_none z (suc (suc k)) (omega arith))

-- no word is r
none_named : (r n : ℕ) (f : ℕ → ℕ) → (r ≡ 0 → ⊥) → ((j : ℕ) → f j ≡ 0) → times n f r ≡ 0
none_named r n f nz h = sum_zero n (λ j. ind r (f j)) (λ j m. ind_other r (f j) (λ e. nz (sym e ∙ h j)))

module _ (z : Shape) (σ : State) (B : Blank z σ) where
  run-Chain : (k c n : ℕ) → k < 2 → suc c + n ≡ cells_of z k → Chain σ.mark (reference k c) (run k c (suc n))
  unfolding run
  run-Chain k c zero l e = (refl, B.last_cell k c l (omega arith))
  run-Chain k c (suc n) l e = (refl, rw (B.next_cell k c l (omega arith)) (run-Chain k (suc c) n l (omega arith)))

  some_cells : (k : ℕ) → 1 ≤ cells_of z k
  unfolding cells_of
  some_cells k = ⊎_elim (λ e. rw (eq-eqb k 0 e) B.some_branches) (λ ne. rw (ne_eqb k 0 ne) B.some_entries) (eq? k 0)

  first_Chain : (k n : ℕ) → k < 2 → suc n ≡ cells_of z k → Chain σ.mark (reference k 0) (run k 0 (cells_of z k))
  first_Chain k n l e = rw (← e) (run-Chain k 0 n l (omega arith))

  ascending-Chain : (k : ℕ) → Chain σ.mark (σ.first k) (ascending z k)
  ascending-Chain k =
      ⊎_elim
      (λ l.
      let e : suc (cells_of z k - 1) ≡ cells_of z k = omega (arith, some_cells k) in
      rw (ascending_in z k l, B.first_cell k l) (first_Chain k (cells_of z k - 1) l e))
      (λ g. rw (ascending_out z k g) (B.first_none k g))
      (lt? k 2)

  ascending_within : (k r : ℕ) → 0 < among (ascending z k) r → (0 < refs z r) × (kind_of r ≡ k)
  unfolding among
  ascending_within k r l =
      ⊎_elim
      (λ b.
      let (i, a, m, e) = run_find k 0 (cells_of z k) r (rw (ascending_in z k b) at l) in
      (rw e (refs_of z k i b (omega arith) B.some_degree), omega arith))
      (λ g. absurd (omega (arith, rw (ascending_out z k g) at l)))
      (lt? k 2)

  ascending_once : (r : ℕ) → 0 < refs z r → among (ascending z (kind_of r)) r ≡ 1
  ascending_once r l =
      let (c, e) = ref_cell z r l in
      rw (ascending_in z (kind_of r) (omega arith))
      (ap (λ (x : ℕ). among (run (kind_of r) 0 (cells_of z (kind_of r))) x) e
      ∙ run_once (kind_of r) 0 (cells_of z (kind_of r)) (cell_of r) (omega arith) (omega arith))

  pub blank_Local : Local z σ (λ r. 0) (ascending z)
  blank_Local =
      record {
        exact =
            λ r nz.
            omega (
              arith,
              B.no_count r,
              none_named r z.slots σ.root nz B.no_root,
              sum_zero (top z) (λ q. times (refs z q) (σ.kid q) r) (λ q m. none_named r (refs z q) (σ.kid q) nz (B.no_kid q)),
            );
        out = λ r e. B.no_count r;
        chain = ascending-Chain;
        free_once = λ r l. ascending_once r l ∙ sym (ind_same 0 (σ.count r) (B.no_count r));
        within = ascending_within;
        used_ok = λ k. omega (arith, B.no_used k, ascending_all z B.some_degree k);
        rest = λ q k e. B.no_kid q k;
        blank = λ q k e. B.no_plain q k;
        deep = λ q l e. absurd (omega (arith, B.no_count q));
        clip = λ q k l. B.no_kid q k;
        below = λ q k nz. absurd (nz (B.no_kid q k));
        no_root = λ s l ne. B.no_root s;
      }

  pub blank_free : (s : ℕ) → FreeSlot σ s
  blank_free s = record { not_held = B.no_held s; no_root = B.no_root s; no_size = B.no_size s }
