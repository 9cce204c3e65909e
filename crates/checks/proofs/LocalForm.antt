-- The local form of an arena that passes all tests: free cells hold zeros, and whatever a word names is in use, one deeper or
-- one shorter, so that counting the words of the whole arena counts each cell.
use Rattle.std.proofs.Common.{◌≡◌, ℕ, zero, suc, ◌+◌, ◌-◌, ◌<◌, ◌≤◌, true, ◌⊎◌, List, [], sym, refl, ap, ◌∙◌, subst, inl, inr, ⊎_elim, arith}
use Rattle.cases.proofs.Cases.{split, eq?, lt?}
use Rattle.counts.specs.Counts.{ind, sum_to, times, among}
use Rattle.counts.proofs.CountLaws.{ind_other, sum_zero}
use Rattle.layout.specs.declared.Shape.{Shape}
use Rattle.layout.specs.Layout.{kind_of, names}
use Rattle.layout.specs.Columns.{State, refs, plains_of}
use Rattle.lookup.proofs.FindLaws.{kind_is}
use Rattle.arena.specs.Sound.{top, FreeSlot}
use Rattle.arena.specs.Local.{occ, Below, Local}
use Rattle.arena.proofs.RefLaws.{refs_some, refs_out, refs_branch, refs_entry, num_none}
use Rattle.arena.proofs.Clipped.{Clipped}
use Rattle.audits.specs.Audits.{is_live}
use Rattle.audits.proofs.Shown.{ChainAt, FreeChain}
use Rattle.audits.proofs.FreeLaws.{chain_free}
use Rattle.audits.proofs.LiveLaws.{live_is, live_cell}
use Rattle.audits.proofs.CellLaws.{branch_zero, entry_zero, entry_link, branch_deep}
use Rattle.levels.specs.Levels.{Under, see_from}
use Rattle.levels.proofs.SeenLaws.{seen_kid, seen_below}
use Rattle.levels.proofs.SlotLaws.{RootSeen, branch_seen_lem, slot_tested}
use Rattle.checks.proofs.Passed.{Passed}

-- a branch has no child from the degree on
pub branch_clip : (z : Shape) (σ : State) → Clipped z σ → (q j : ℕ) → z.degree ≤ j → kind_of q ≡ 0 → σ.kid q j ≡ 0
branch_clip z σ clipped q j l even =
    ⊎_elim
    (λ e. clipped.no_kid q j (omega arith))
    (λ ne. clipped.no_kid q j (omega (arith, refs_branch z q (omega arith) even)))
    (eq? (refs z q) 0)

-- columns that end where the cells do, and pass; every entry in use shows a chain
module _ (z : Shape) (σ : State) (some : 0 < z.degree) (clipped : Clipped z σ)
    (no_plain : (r k : ℕ) → plains_of (kind_of r) ≤ k → σ.plain r k ≡ 0) (p : Passed z σ)
    (chains : (r : ℕ) → is_live z σ 1 r ≡ true → ChainAt z σ r) where
  live_refs : (r : ℕ) → 0 < σ.count r → 0 < refs z r
  live_refs r l = ⊎_elim (λ e. absurd (omega (arith, clipped.no_count r e))) (λ ne. omega arith) (eq? (refs z r) 0)

  live_kind : (k r : ℕ) → is_live z σ k r ≡ true → (kind_of r ≡ k) × (0 < σ.count r)
  live_kind k r e = let w = live_cell z σ k r e in (w.0, w.2)

  abbrev clip : (q j : ℕ) → z.degree ≤ j → kind_of q ≡ 0 → σ.kid q j ≡ 0
  clip = branch_clip z σ clipped

  -- FREE CELLS hold zeros
  no_kids : (q k : ℕ) → σ.count q ≡ 0 → σ.kid q k ≡ 0
  no_kids q k e =
      ⊎_elim
      (λ l.
      ⊎_elim
      (λ even. (branch_zero z σ p.branches q (omega arith) even e).1 k (omega (arith, refs_branch z q (omega arith) even)))
      (λ ne.
      let odd : kind_of q ≡ 1 = omega arith in
      let first : k ≡ 0 = omega (arith, refs_entry z q (omega arith) odd) in
      ap (σ.kid q) first ∙ (entry_zero z σ p.entries q (omega arith) odd e).0)
      (eq? (kind_of q) 0))
      (λ l. clipped.no_kid q k l)
      (lt? k (refs z q))

  blank_branch : (q k : ℕ) → 0 < refs z q → kind_of q ≡ 0 → σ.count q ≡ 0 → σ.plain q k ≡ 0
  blank_branch q zero l even e = (branch_zero z σ p.branches q l even e).0
  blank_branch q (suc k) l even e = no_plain q (suc k) (omega arith)

  blank_entry : (q k : ℕ) → 0 < refs z q → kind_of q ≡ 1 → σ.count q ≡ 0 → σ.plain q k ≡ 0
  blank_entry q zero l odd e = (entry_zero z σ p.entries q l odd e).1
  blank_entry q (suc zero) l odd e = (entry_zero z σ p.entries q l odd e).2
  blank_entry q (suc (suc zero)) l odd e = (entry_zero z σ p.entries q l odd e).3
  blank_entry q (suc (suc (suc k))) l odd e = no_plain q (suc (suc (suc k))) (omega arith)

  blank_cell : (q k : ℕ) → σ.count q ≡ 0 → σ.plain q k ≡ 0
  blank_cell q k e =
      ⊎_elim
      (λ n. clipped.no_plain q k n)
      (λ (nz : refs z q ≡ 0 → ⊥).
      ⊎_elim
      (λ (even : kind_of q ≡ 0). blank_branch q k (omega arith) even e)
      (λ (ne : kind_of q ≡ 0 → ⊥). blank_entry q k (omega arith) (omega arith) e)
      (eq? (kind_of q) 0))
      (eq? (refs z q) 0)

  -- WHAT A WORD NAMES is in use
  abbrev BelowAt : ℕ → ℕ → Type 0
  BelowAt q k = Below (kind_of q) (σ.mark q) (kind_of (σ.kid q k)) (σ.mark (σ.kid q k))

  below_branch : (q k : ℕ) → 0 < σ.count q → kind_of q ≡ 0 → (σ.kid q k ≡ 0 → ⊥) → (0 < σ.count (σ.kid q k)) × BelowAt q k
  below_branch q k l even nz =
      let lr : 0 < refs z q = live_refs q l in
      let lk : k < z.degree
      = ⊎_elim (λ y. y) (λ g. absurd (nz (clipped.no_kid q k (omega (arith, refs_branch z q lr even))))) (lt? k z.degree) in
      let t = σ.mark q in
      let left : z.depths - t ≡ suc (z.depths - suc t) = omega (arith, branch_deep z σ p.branches q lr even l) in
      let (m, n, e) = branch_seen_lem z σ p.branches p.levels q lr even l in
      let (i, j, o) = seen_kid z σ chains clip (z.depths - suc t) t q m n k
      (live_is z σ 0 q (kind_is z 0 q (refs_some z q lr) even) l)
      (subst (λ (d : ℕ). see_from z σ d t q ≡ Under m n) left e) lk nz in
      ⊎_elim
      (λ y. let w = live_kind 1 (σ.kid q k) y in (w.1, (λ a b. absurd (omega (arith, w.0)), λ odd. absurd (omega arith))))
      (λ (y, mark). let w = live_kind 0 (σ.kid q k) y in (w.1, (λ a b. mark, λ odd. absurd (omega arith))))
      (seen_below z σ chains clip (z.depths - suc t) (suc t) (σ.kid q k) i j o)

  below_entry : (q k : ℕ) → 0 < σ.count q → kind_of q ≡ 1 → (σ.kid q k ≡ 0 → ⊥) → (0 < σ.count (σ.kid q k)) × BelowAt q k
  below_entry q zero l odd nz =
      let f = entry_link z σ p.entries q (live_refs q l) odd l nz in
      let w = live_kind 1 (σ.kid q 0) f.live in
      (w.1, (λ even b. absurd (omega arith), λ a. (w.0, f.shorter)))
  below_entry q (suc k) l odd nz = absurd (nz (clipped.no_kid q (suc k) (omega (arith, refs_entry z q (live_refs q l) odd))))

  below_cell : (q k : ℕ) → (σ.kid q k ≡ 0 → ⊥) → (0 < σ.count (σ.kid q k)) × BelowAt q k
  below_cell q k nz =
      let l : 0 < σ.count q = ⊎_elim (λ e. absurd (nz (no_kids q k e))) (λ ne. omega arith) (eq? (σ.count q) 0) in
      ⊎_elim
      (λ (even : kind_of q ≡ 0). below_branch q k l even nz)
      (λ (ne : kind_of q ≡ 0 → ⊥). below_entry q k l (omega arith) nz)
      (eq? (kind_of q) 0)

  root_live : (s : ℕ) → s < z.slots → (σ.root s ≡ 0 → ⊥) → 0 < σ.count (σ.root s)
  root_live s l nz = by (slot_tested z σ p.slots s l)
    where
      by : FreeSlot σ s ⊎ RootSeen z σ s → 0 < σ.count (σ.root s)
      by (inl f) = absurd (nz f.no_root)
      by (inr (held, inl (e, n))) = absurd (nz e)
      by (inr (held, inr (ne, (m, e)))) =
          ⊎_elim (λ y. (live_kind 1 (σ.root s) y).1) (λ y. (live_kind 0 (σ.root s) y.0).1)
          (seen_below z σ chains clip (z.depths - 0) 0 (σ.root s) m (σ.size s) e)

  free_root : (s : ℕ) → s < z.slots → (σ.held s ≡ 1 → ⊥) → σ.root s ≡ 0
  free_root s l ne = ⊎_elim (λ f. f.no_root) (λ h. absurd (ne h.0)) (slot_tested z σ p.slots s l)

  -- so no word names what is no cell
  not_named : (r : ℕ) → (r ≡ 0 → ⊥) → σ.count r ≡ 0 → occ z σ r ≡ 0
  not_named r nz e =
      let slots : times z.slots σ.root r ≡ 0
      = sum_zero z.slots (λ s. ind r (σ.root s))
      (λ s l. ind_other r (σ.root s) (λ y. omega (arith, root_live s l (λ o. nz (sym y ∙ o)), ap σ.count y))) in
      let cells : sum_to (top z) (λ q. times (refs z q) (σ.kid q) r) ≡ 0
      = sum_zero (top z) (λ q. times (refs z q) (σ.kid q) r)
      (λ q l.
      sum_zero (refs z q) (λ k. ind r (σ.kid q k))
      (λ k m. ind_other r (σ.kid q k) (λ y. omega (arith, (below_cell q k (λ o. nz (sym y ∙ o))).0, ap σ.count y)))) in
      omega arith

  counted : (r : ℕ) → (r ≡ 0 → ⊥) → σ.count r ≡ occ z σ r + 0
  counted r nz =
      split (names z r)
      (λ n. omega (arith, p.counts r n))
      (λ n. let e : σ.count r ≡ 0 = clipped.no_count r (refs_out z r n) in omega (arith, not_named r nz e))

  -- FREE CHAINS, none behind the two kinds
  chain_of : (k : ℕ) → FreeChain z σ k
  unfolding among
  chain_of zero = chain_free z σ some 0 (omega arith) (p.chains 0 (omega arith))
  chain_of (suc zero) = chain_free z σ some 1 (omega arith) (p.chains 1 (omega arith))
  chain_of (suc (suc k)) =
      record {
        free = [];
        chain = clipped.no_first (suc (suc k)) (omega arith);
        once = λ r l e. absurd (omega arith);
        within = λ r l. absurd (omega arith);
        used_ok = omega (arith, clipped.no_used (suc (suc k)) (omega arith), num_none z (suc (suc k)) (omega arith));
      }

  pub passed_Local : (free : ℕ → List ℕ) × Local z σ (λ r. 0) free
  passed_Local = (
    λ k. (chain_of k).free,
    record {
      exact = counted;
      out = clipped.no_count;
      chain = λ k. (chain_of k).chain;
      free_once = λ r l. (chain_of (kind_of r)).once r l refl;
      within = λ k. (chain_of k).within;
      used_ok = λ k. (chain_of k).used_ok;
      rest = no_kids;
      blank = blank_cell;
      deep = λ q l even. branch_deep z σ p.branches q (live_refs q l) even l;
      clip = clipped.no_kid;
      below = λ q k nz. (below_cell q k nz).1;
      no_root = free_root;
    },
  )
