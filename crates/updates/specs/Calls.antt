-- What insert and change answer and every word that they leave, on any words: document 01, "Answer numbers", its tests in its
-- order, and "What an update takes".
use Rattle.std.specs.Prelude.{ℕ, ◌-◌, Bool, true, false, cond, List, Option, Some, None}
use Rattle.trie.specs.declared.Entry.{Entry}
use Rattle.layout.specs.declared.Shape.{Shape}
use Rattle.layout.specs.Header.{header_of}
use Rattle.layout.specs.Columns.{State, columns}
use Rattle.lookup.specs.Lookup.{path_end, hit_from, longest}
use Rattle.cells.specs.Mirrors.{one_more}
use Rattle.chains.specs.Chains.{length_at, an_entry, front_pushed}
use Rattle.grafts.specs.Grafts.{reach_from, graft_from}
use Rattle.replies.specs.declared.Refusal.TheVariants as Why
use Rattle.replies.specs.Answers.{refused}
use Rattle.replies.specs.Outcomes.{Outcome, leaves, on_header, on_wrote}
use Rattle.grants.specs.Rooms.{room_of, on_room, update_in, hold_to}
use Rattle.updates.specs.declared.Plan.{Plan}

-- THE READING PASS. The key stands at q, in the chain from `front` on: the entries before it are copied, those behind it shared.
unfoldable pub replacing : Shape → State → ℕ → ℕ → ℕ → ℕ → ℕ → Plan
replacing z σ root size h front q =
    record {
      root = root;
      size = size;
      tail = record { count = length_at z σ front - length_at z σ q; from = front; rest = σ.kid q 0 };
      length = length_at z σ front;
      branches = (reach_from z σ h true z.depths 0 root).branches;
      replaced = true;
    }

-- or it is not there: the chain at the new path's end, if there is one, is shared whole
unfoldable pub adding : Shape → State → ℕ → ℕ → ℕ → Plan
adding z σ root size h =
    let reach = reach_from z σ h false z.depths 0 root in
    record {
      root = root;
      size = one_more size;
      tail = record { count = 0; from = 0; rest = reach.behind };
      length = one_more (length_at z σ reach.behind);
      branches = reach.branches;
      replaced = false;
    }

abbrev pub plan_by : Shape → State → ℕ → ℕ → ℕ → ℕ → Option ℕ → Plan
plan_by z σ root size h front (Some q) = replacing z σ root size h front q
plan_by z σ root size h front None = adding z σ root size h

abbrev pub plan_at : Shape → State → ℕ → ℕ → ℕ → ℕ → ℕ → Plan
plan_at z σ root size h k front = plan_by z σ root size h front (hit_from z σ h k (longest z) front)

unfoldable pub plan_of : Shape → List ℕ → ℕ → ℕ → ℕ → Plan
plan_of z a e h k =
    let σ = columns z a in plan_at z σ (σ.root e) (σ.size e) h k (path_end z σ h z.depths 0 (σ.root e))

-- WRITING. The leaf with the new entry, then the path above it, then the slot.
abbrev pub root_to : Shape → ℕ → Plan → ℕ → ℕ → List ℕ → Outcome
root_to z h p s leaf w =
    hold_to z s p.size p.branches (one_more p.tail.count) (graft_from z h leaf p.replaced z.depths 0 p.root w)

unfoldable pub write_to : Shape → List ℕ → Entry → Plan → ℕ → Outcome
write_to z a x p s =
    on_wrote (front_pushed z a p.length x p.tail.count p.tail.from p.tail.rest) Why.NoEntryCells (root_to z x.hash p s)

-- where there is room: the new entry takes a cell, and each entry before a replaced one
abbrev pub planned_to : Shape → List ℕ → Entry → Plan → Outcome
planned_to z a x p = on_room a (room_of z a p.branches (one_more p.tail.count)) (write_to z a x p)

-- 6: "change: key not there"
unfoldable pub wanted : Bool → Plan → Bool
wanted change p = cond change p.replaced true

-- the call, by its plan
abbrev pub write_by : Shape → List ℕ → ℕ → Entry → Bool → Plan → Outcome
write_by z a e x change p = update_in z a e (wanted change p) p.branches (one_more p.tail.count) (write_to z a x p)

abbrev pub write_in : Shape → List ℕ → ℕ → Entry → Bool → Outcome
write_in z a e x change = write_by z a e x change (plan_of z a e x.hash x.key)

abbrev pub insert_in : Shape → List ℕ → ℕ → Entry → Outcome
insert_in z a e x = write_in z a e x false

-- "Change (`get_mut` followed by a write) is insert where the key is present, else answer 6."
abbrev pub change_in : Shape → List ℕ → ℕ → Entry → Outcome
change_in z a e x = write_in z a e x true

abbrev pub insert_of : List ℕ → ℕ → ℕ → ℕ → ℕ → Outcome
insert_of a e h k v = on_header (header_of a) (leaves (refused Why.Damaged) a) (λ z. insert_in z a e (an_entry h k v))

abbrev pub change_of : List ℕ → ℕ → ℕ → ℕ → ℕ → Outcome
change_of a e h k v = on_header (header_of a) (leaves (refused Why.Damaged) a) (λ z. change_in z a e (an_entry h k v))
