-- All that a check asks of an arena, as one record of tests that pass.
use Rattle.std.proofs.Common.{◌≡◌, ℕ, ◌<◌, true}
use Rattle.layout.specs.declared.Shape.{Shape}
use Rattle.layout.specs.Layout.{names}
use Rattle.layout.specs.Columns.{State}
use Rattle.arena.specs.Local.{occ}
use Rattle.audits.specs.Audits.{entries_right, keys_right, branches_right, chain_right}
use Rattle.levels.specs.Levels.{levels_seen, slots_right}

pub record Passed (z : Shape) (σ : State) : Type 0 where
  pub entries : entries_right z σ ≡ true
  pub branches : branches_right z σ ≡ true
  pub levels : levels_seen z σ z.depths ≡ true
  pub slots : slots_right z σ ≡ true
  -- each count is how many words name the cell
  pub counts : (r : ℕ) → names z r ≡ true → occ z σ r ≡ σ.count r
  pub chains : (k : ℕ) → k < 2 → chain_right z σ k ≡ true
  pub keys : keys_right z σ ≡ true
