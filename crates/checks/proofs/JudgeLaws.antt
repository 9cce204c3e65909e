-- The verdict, test by test: where one fails the arena is not sound, where all pass it is; and what the work words are meanwhile.
use Rattle.std.proofs.Common.{◌≡◌, ℕ, zero, suc, ◌<◌, ◌≤◌, Bool, true, false, List, length, get_or, Some, None, sym, refl, ◌∙◌, arith}
use Rattle.std.proofs.lemmas.Bool.{false≢true, both_ways}
use Rattle.layout.specs.declared.Shape.{Shape}
use Rattle.layout.specs.Header.{Header, header_of}
use Rattle.layout.proofs.HeaderLaws.{Header-says, Header-Lent}
use Rattle.layout.specs.Columns.{State, columns}
use Rattle.arena.specs.Local.{occ}
use Rattle.arena.proofs.Equivalent.{Header-degree}
use Rattle.arena.proofs.RefLaws.{names-refs}
use Rattle.audits.specs.Audits.{is_live, EntriesFit, entries_right, keys_right, branches_right, chain_right}
use Rattle.audits.proofs.CellLaws.{branch_deep}
use Rattle.audits.proofs.LiveLaws.{live_cell}
use Rattle.levels.specs.Levels.{levels_seen, slots_right, Known, OnlyBranches}
use Rattle.tallies.specs.Tallies.{work_words, Works, counts_right}
use Rattle.tallies.proofs.CountsLaws.{counts_say, counts_are}
use Rattle.checks.specs.Terms.{Judged}
use Rattle.checks.proofs.Passed.{Passed}
use Rattle.checks.proofs.SoundLaws.{Passed-Sound}
use Rattle.checks.proofs.PassedLaws.{sound_Passed}

-- WORK WORDS: those behind the cells' stay
pub record Stays (z : Shape) (w w' : List ℕ) : Type 0 where
  pub same_length : length w' ≡ length w
  pub rest : (j : ℕ) → work_words z ≤ j → get_or w' j 0 ≡ get_or w j 0

pub Stays-none : (z : Shape) (w : List ℕ) → Stays z w w
Stays-none z w = record { same_length = refl; rest = λ j l. refl }

pub Stays-levels : {z : Shape} {w w' : List ℕ} → OnlyBranches z w w' → Stays z w w'
Stays-levels {z} o = record { same_length = o.same_length; rest = λ j l. o.others j (omega arith) }

pub Stays-Works : {z : Shape} {f : ℕ → ℕ} {w v w' : List ℕ} → Stays z w v → Works z f v w' → Stays z w w'
Stays-Works s k = record { same_length = k.same_length ∙ s.same_length; rest = λ j l. k.rest j l ∙ s.rest j l }

module _ (z : Shape) (a : List ℕ) (h : Header a z) where
  abbrev σ : State
  σ = columns z a

  -- before the first level nothing is to be known, since no branch is deeper than the last
  pub Known-none : branches_right z σ ≡ true → (w : List ℕ) → Known z a z.depths w
  Known-none e w =
      let deep : (r : ℕ) → is_live z σ 0 r ≡ true → suc (σ.mark r) ≤ z.depths
      = λ r live.
      let c = live_cell z σ 0 r live in
      branch_deep z σ e r ((names-refs z (Header-degree h) r).0 c.1) c.0 c.2 in
      record { deep = deep; known = λ r live l. absurd (omega (arith, deep r live)) }

  -- A TEST THAT FAILS
  module _ {w w' : List ℕ} (s : Stays z w w') where
    Judged-no : (Passed z σ → ⊥) → Judged z a w false w'
    Judged-no fault =
        record {
          yes = λ e. absurd (false≢true e);
          no = λ e sound. fault (sound_Passed z a h sound);
          same_length = s.same_length;
          rest = s.rest;
        }

    pub no_entries : entries_right z σ ≡ false → Judged z a w false w'
    no_entries e = Judged-no (λ p. both_ways _ e p.entries)

    pub no_branches : branches_right z σ ≡ false → Judged z a w false w'
    no_branches e = Judged-no (λ p. both_ways _ e p.branches)

    pub no_levels : levels_seen z σ z.depths ≡ false → Judged z a w false w'
    no_levels e = Judged-no (λ p. both_ways _ e p.levels)

    pub no_slots : slots_right z σ ≡ false → Judged z a w false w'
    no_slots e = Judged-no (λ p. both_ways _ e p.slots)

    pub no_chain : (k : ℕ) → k < 2 → chain_right z σ k ≡ false → Judged z a w false w'
    no_chain k l e = Judged-no (λ p. both_ways _ e (p.chains k l))

    pub no_counts : {v : List ℕ} → Works z (occ z σ) v w' → counts_right z σ w' ≡ false → Judged z a w false w'
    no_counts k e =
        Judged-no (λ p. both_ways _ e (counts_are z σ w' (λ r n. k.first r n ∙ p.counts r n)))

    -- ALL TESTS BUT THE LAST PASS
    module _ {v : List ℕ} (k : Works z (occ z σ) v w') (fit : EntriesFit z σ) (entries : entries_right z σ ≡ true)
        (branches : branches_right z σ ≡ true) (levels : levels_seen z σ z.depths ≡ true) (slots : slots_right z σ ≡ true)
        (counts : counts_right z σ w' ≡ true) (first : chain_right z σ 0 ≡ true) (second : chain_right z σ 1 ≡ true) where
      both_chains : (p : ℕ) → p < 2 → chain_right z σ p ≡ true
      both_chains zero l = first
      both_chains (suc zero) l = second
      both_chains (suc (suc p)) l = absurd (omega arith)

      passed : keys_right z σ ≡ true → Passed z σ
      passed keys =
          record {
            entries = entries;
            branches = branches;
            levels = levels;
            slots = slots;
            counts = λ r n. sym (k.first r n) ∙ counts_say z σ w' counts r n;
            chains = both_chains;
            keys = keys;
          }

      pub Judged-by_keys : (b : Bool) → b ≡ keys_right z σ → Judged z a w b w'
      Judged-by_keys b e =
          record {
            yes = λ t. (
              Passed-Sound z a h fit (passed (sym e ∙ t)),
              record {
                same_length = s.same_length;
                first = λ r n. counts_say z σ w' counts r n;
                rest = s.rest;
              },
            );
            no = λ f sound. both_ways _ (sym e ∙ f) (sound_Passed z a h sound).keys;
            same_length = s.same_length;
            rest = s.rest;
          }

-- cleared work words, after a verdict
pub Works-after : {z : Shape} {a w v w' : List ℕ} {b : Bool} {f : ℕ → ℕ} → Judged z a w b v → Works z f v w' → Works z f w w'
Works-after j k =
    record {
      same_length = k.same_length ∙ j.same_length;
      first = k.first;
      rest = λ i l. k.rest i l ∙ j.rest i l;
    }

-- a header that is read as wrong is that of no shape
pub no_header : (a : List ℕ) → header_of a ≡ None → (z : Shape) → Header a z → ⊥
no_header a e z h =
    let r : header_of a ≡ Some z = (Header-says a z).1 h in
    let n : ◌≡◌ {A = ℕ} 0 1 = cc in omega arith

-- what the tests are called by: the arena is lent, and nothing is to be known before the first level
pub ruleset tested = (Header-Lent, Known-none)
