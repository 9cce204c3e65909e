-- The steps of insert and change, as the definitions have them.
use Prim.Native.Nat.{ℕ, ◌-◌}
use mathlib.Core.Path.{◌≡◌, sym, ap, ◌∙◌}
use mathlib.Core.Bool.{Bool, true, false}
use mathlib.Core.List.{List}
use native.Mathlib.Omega.{arith}
use Rattle.trie.specs.declared.Entry.{Entry}
use Rattle.layout.specs.declared.Shape.{Shape}
use Rattle.layout.specs.Columns.{State}
use Rattle.cells.specs.Mirrors.{Wrote, wrote, one_more}
use Rattle.chains.specs.Chains.{length_at, front_pushed}
use Rattle.grafts.specs.declared.Reach.{Reach}
use Rattle.grafts.specs.Grafts.{reach_from, graft_from}
use Rattle.replies.specs.declared.Refusal.{Refusal}
use Rattle.replies.specs.declared.Refusal.TheVariants as Why
use Rattle.replies.specs.Answers.{refused}
use Rattle.replies.specs.Outcomes.{Outcome, leaves, on_wrote}
use Rattle.replies.proofs.AnswerLaws.{wrote_none, wrote_some}
use Rattle.grants.specs.Rooms.{room_of, hold_to}
use Rattle.grants.proofs.CaseLaws.{on_At, on_refused}
use Rattle.updates.specs.declared.Plan.{Plan}
use Rattle.updates.specs.Calls.{replacing, adding, root_to, write_to, planned_to, wanted}
use Rattle.std.specs.Prelude.{Ok, Err}

-- PLANS
module _ (z : Shape) (σ : State) (root size h : ℕ) (reach : Reach) where
  pub replace_is : (front q l m n r : ℕ) → l ≡ length_at z σ front → reach ≡ reach_from z σ h true z.depths 0 root
      → m ≡ length_at z σ q → n ≡ l - m → r ≡ σ.kid q 0
      → record { root = root; size = size; tail = record { count = n; from = front; rest = r }; length = l; branches = reach.branches; replaced = true }
      ≡ replacing z σ root size h front q
  unfolding replacing
  replace_is front q l m n r el ee em en er = rw (en, em, er, el, ee)

  pub add_is : (s l n : ℕ) → reach ≡ reach_from z σ h false z.depths 0 root → s ≡ one_more size → l ≡ length_at z σ reach.behind
      → n ≡ one_more l
      → record { root = root; size = s; tail = record { count = 0; from = 0; rest = reach.behind }; length = n; branches = reach.branches; replaced = false }
      ≡ adding z σ root size h
  unfolding adding
  add_is s l n ee es el en = rw (en, el, es, ee)

-- WRITING
module _ (z : Shape) (a : List ℕ) (new : Entry) (p : Plan) (s x : ℕ) (w : List ℕ)
    (ex : wrote x w ≡ front_pushed z a p.length new p.tail.count p.tail.from p.tail.rest) where
  pub leaf_none : x ≡ 0 → leaves (refused Why.NoEntryCells) w ≡ write_to z a new p s
  unfolding write_to
  leaf_none o =
      sym (wrote_none (wrote x w) Why.NoEntryCells (root_to z new.hash p s) o)
      ∙ ap (λ (y : Wrote). on_wrote y Why.NoEntryCells (root_to z new.hash p s)) ex

  -- the leaf is there, and then the path above it is written
  pub root_held : (x ≡ 0 → ⊥) → (r : ℕ) (u : List ℕ)
      → wrote r u ≡ graft_from z new.hash x p.replaced z.depths (z.depths - z.depths) p.root w
      → (n : ℕ) → n ≡ one_more p.tail.count
      → (o : Outcome) → o ≡ hold_to z s p.size p.branches n (wrote r u) → o ≡ write_to z a new p s
  unfolding write_to
  root_held some r u er n en o eo =
      let q : z.depths - z.depths ≡ 0 = omega arith in
      let is : o ≡ root_to z new.hash p s x w = rw (← q, ← er, ← en) eo in
      is ∙ sym (wrote_some (wrote x w) Why.NoEntryCells (root_to z new.hash p s) some)
      ∙ ap (λ (y : Wrote). on_wrote y Why.NoEntryCells (root_to z new.hash p s)) ex

-- ROOM
module _ (z : Shape) (a : List ℕ) (new : Entry) (p : Plan) (n : ℕ) (en : n ≡ one_more p.tail.count) where
  pub room_goes : (s : ℕ) (o : Outcome) → room_of z a p.branches n ≡ Ok s → o ≡ write_to z a new p s → o ≡ planned_to z a new p
  room_goes s o q w = w ∙ sym (on_At a _ (write_to z a new p) s (rw en at q))

  pub room_refuses : (why : Refusal) → room_of z a p.branches n ≡ Err why → leaves (refused why) a ≡ planned_to z a new p
  room_refuses why q = sym (on_refused a _ (write_to z a new p) why (rw en at q))

-- WANTED
pub wanted_change : (c : Bool) (p : Plan) → c ≡ true → p.replaced ≡ wanted c p
unfolding wanted
wanted_change c p e = rw e

pub wanted_insert : (c : Bool) (p : Plan) → c ≡ false → true ≡ wanted c p
unfolding wanted
wanted_insert c p e = rw e
