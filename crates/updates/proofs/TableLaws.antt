-- Document 01's whole table of insert and change, where the plan says what the update takes and the free cells are as many as the
-- counts say: so it is on a sound arena.
use Prim.Native.Nat.{ℕ}
use mathlib.Core.Path.{◌≡◌, subst}
use mathlib.Core.Bool.{Bool, false}
use mathlib.Core.List.{List}
use mathlib.Core.Logic.{◌↔◌}
use Rattle.layout.specs.declared.Shape.{Shape}
use Rattle.layout.specs.Header.{Header}
use Rattle.replies.proofs.Tables.{HeaderNumbered, Held}
use Rattle.grants.proofs.TableLaws.{UpdateWhen, Counted, update_numbered}
use Rattle.updates.specs.Calls.{plan_of, wanted}
use Rattle.updates.proofs.TestLaws.{NotThere, write_of, writing}
use Rattle.updates.proofs.WantedLaws.{wanted_lacks}

-- THE TABLE, by whether the key is there and how many cells the update takes of each kind
abbrev pub WriteWhen : Shape → List ℕ → ℕ → Bool → Bool → ℕ → ℕ → ℕ → Type 0
WriteWhen z a e change there = UpdateWhen z a e (NotThere change there)

-- the plan knows whether the key is there
pub planned_lacks : (z : Shape) (a : List ℕ) (e h k : ℕ) (change there : Bool) → (plan_of z a e h k).replaced ≡ there
    → (wanted change (plan_of z a e h k) ≡ false) ↔ NotThere change there
planned_lacks z a e h k change there q =
    subst (λ (x : Bool). (wanted change (plan_of z a e h k) ≡ false) ↔ NotThere change x) q (wanted_lacks change (plan_of z a e h k))

pub write_numbered : (a : List ℕ) (e h k v : ℕ) (change : Bool) (there : Shape → Bool) (branches entries : Shape → ℕ)
    → ((z : Shape) → Header a z → Held z a e
    → ((plan_of z a e h k).replaced ≡ there z) × Counted z a (writing a e h k v change z) (branches z) (entries z))
    → HeaderNumbered a a (λ z. WriteWhen z a e change (there z) (branches z) (entries z)) (write_of a e h k v change)
write_numbered a e h k v change there branches entries P =
    update_numbered a e (writing a e h k v change) (λ z. NotThere change (there z)) branches entries
    (λ z right held.
    let (replaced, counts) = P z right held in
    record { lacks = planned_lacks z a e h k change (there z) replaced; counted = λ w. counts })
