-- Insert and change as updates (grants): what they know once they have read, and when their test 6 refuses.
use Prim.Native.Nat.{ℕ}
use mathlib.Core.Path.{◌≡◌, refl}
use mathlib.Core.Bool.{Bool, true, false, cond}
use mathlib.Core.List.{List}
use mathlib.Core.Logic.{◌↔◌}
use native.Mathlib.Omega.{arith}
use Rattle.trie.specs.declared.Entry.{Entry}
use Rattle.layout.specs.declared.Shape.{Shape}
use Rattle.cells.specs.Mirrors.{one_more}
use Rattle.chains.specs.Chains.{an_entry}
use Rattle.replies.specs.Outcomes.{Outcome}
use Rattle.grants.proofs.CaseLaws.{Update, update_of}
use Rattle.updates.specs.declared.Plan.{Plan}
use Rattle.updates.specs.Calls.{plan_of, write_to, wanted}

-- insert where `change` is false, else change: by a plan, and by the one of the reading pass
abbrev pub writing_by : Shape → List ℕ → Entry → Bool → Plan → Update
writing_by z a x change p =
    record { wanted = wanted change p; branches = p.branches; entries = one_more p.tail.count; does = write_to z a x p }

abbrev pub writing : List ℕ → ℕ → ℕ → ℕ → ℕ → Bool → Shape → Update
writing a e h k v change z = writing_by z a (an_entry h k v) change (plan_of z a e h k)

abbrev pub write_of : List ℕ → ℕ → ℕ → ℕ → ℕ → Bool → Outcome
write_of a e h k v change = update_of a e (writing a e h k v change)

-- 6: "change: key not there"
abbrev pub NotThere : Bool → Bool → Type 0
NotThere change there = (change ≡ true) × (there ≡ false)

-- an insert wants no key
pub insert_wants : (there : Bool) → NotThere false there → ⊥
insert_wants there n = let m : ◌≡◌ {A = ℕ} 0 1 = cc in omega arith

pub by_test : (change there : Bool) → (cond change there true ≡ false) ↔ NotThere change there
by_test true there = (λ q. (refl, q), λ n. n.1)
by_test false there = (λ q. let m : ◌≡◌ {A = ℕ} 0 1 = cc in absurd (omega arith), λ n. absurd (insert_wants there n))
