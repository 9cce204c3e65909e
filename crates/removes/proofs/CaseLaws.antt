-- What remove does, case by case, on any words: what its reading pass finds, by the search; and what it leaves where it is given a
-- slot. So it is an update (grants).
use Rattle.std.proofs.Common.{◌≡◌, ℕ, true, false, List, Option, Some, None, is_some, sym, ◌∙◌, subst}
use Rattle.cases.proofs.Cases.{split}
use Rattle.layout.specs.declared.Shape.{Shape}
use Rattle.layout.specs.Columns.{State, columns}
use Rattle.lookup.specs.Lookup.{path_end, hit_from, longest}
use Rattle.cells.specs.Mirrors.{Wrote}
use Rattle.chains.specs.Chains.{taken_from}
use Rattle.prunes.specs.Prunes.{prune_from}
use Rattle.replies.specs.declared.Refusal.TheVariants as Why
use Rattle.replies.specs.Answers.{refused}
use Rattle.replies.specs.Outcomes.{Outcome, leaves}
use Rattle.grants.specs.Rooms.{held_to, hold_to}
use Rattle.grants.proofs.CaseLaws.{Update}
use Rattle.removes.specs.declared.Cut.{Cut}
use Rattle.removes.specs.Calls.{cutting, the_cut, cut_of, lacks, chain_to, take_to, cut_to}

-- what a call knows once it has read, and what it does with a slot: by what was found, and by what the reading pass finds
abbrev pub removing_by : Shape → List ℕ → ℕ → Option Cut → Update
removing_by z a h c =
    let p = the_cut c in record { wanted = is_some c; branches = p.branches; entries = p.tail.count; does = cut_to z a h p }

abbrev pub removing : List ℕ → ℕ → ℕ → ℕ → Shape → Update
removing a e h k z = removing_by z a h (cut_of z a e h k)

-- THE READING PASS: where the path of a hash ends below an edition's root, and what is found there
abbrev pub end_of : Shape → List ℕ → ℕ → ℕ → ℕ
end_of z a e h = path_end z (columns z a) h z.depths 0 ((columns z a).root e)

module _ (z : Shape) (a : List ℕ) (e h k : ℕ) where
  abbrev σ : State
  σ = columns z a

  pub cut_there : (q : ℕ) → hit_from z σ h k (longest z) (end_of z a e h) ≡ Some q
      → cut_of z a e h k ≡ Some (cutting z σ (σ.root e) (σ.size e) h (end_of z a e h) q)
  unfolding cut_of
  cut_there q y = rw y

  pub cut_absent : hit_from z σ h k (longest z) (end_of z a e h) ≡ None → cut_of z a e h k ≡ None
  unfolding cut_of
  cut_absent y = rw y

-- THE WRITING: the words after the chain, and after the path above it
module _ (z : Shape) (a : List ℕ) (h : ℕ) (p : Cut) where
  unfoldable pub chain_wrote : Wrote
  chain_wrote = taken_from z p.tail.count p.tail.from p.tail.rest a

  unfoldable pub root_wrote : Wrote
  root_wrote = prune_from z h chain_wrote.at z.depths 0 p.root chain_wrote.words

module _ (z : Shape) (a : List ℕ) (h : ℕ) (p : Cut) (s : ℕ) where
  pub cut_none : p.empty ≡ true → cut_to z a h p s ≡ held_to z s p.size p.branches p.tail.count 0 a
  unfolding cut_to
  cut_none e = rw e

  module _ (some : p.empty ≡ false) where
    pub cut_some : cut_to z a h p s ≡ take_to z a h p s
    unfolding cut_to
    cut_some = rw some

    cut_few_entries : lacks (chain_wrote z a h p).at p.tail.count ≡ true
        → cut_to z a h p s ≡ leaves (refused Why.NoEntryCells) (chain_wrote z a h p).words
    unfolding chain_to chain_wrote
    cut_few_entries few = cut_some ∙ rw few

    pub cut_goes : lacks (chain_wrote z a h p).at p.tail.count ≡ false
        → cut_to z a h p s ≡ hold_to z s p.size p.branches p.tail.count (root_wrote z a h p)
    unfolding chain_to chain_wrote root_wrote
    cut_goes enough = cut_some ∙ rw enough

  -- what holds in each of these cases holds of what is done with the slot
  pub by_writing : (P : Outcome → Type 0) → P (held_to z s p.size p.branches p.tail.count 0 a)
      → P (leaves (refused Why.NoEntryCells) (chain_wrote z a h p).words)
      → P (hold_to z s p.size p.branches p.tail.count (root_wrote z a h p)) → P (cut_to z a h p s)
  by_writing P none few goes =
      split p.empty
      (λ e. is (cut_none e) none)
      (λ e.
      split (lacks (chain_wrote z a h p).at p.tail.count)
      (λ y. is (cut_few_entries e y) few)
      (λ y. is (cut_goes e y) goes))
    where
      is : {o : Outcome} → cut_to z a h p s ≡ o → P o → P (cut_to z a h p s)
      is q x = subst P (sym q) x
