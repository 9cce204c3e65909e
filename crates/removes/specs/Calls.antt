-- What remove answers and every word that it leaves, on any words: document 01, "Answer numbers", its tests in its order, and
-- "What an update takes".
use Rattle.std.specs.Prelude.{ℕ, ◌-◌, Bool, true, false, cond, List, eqb, ltb, Option, Some, None, is_some, unwrap_or}
use Rattle.layout.specs.declared.Shape.{Shape}
use Rattle.layout.specs.Header.{header_of}
use Rattle.layout.specs.Columns.{State, columns}
use Rattle.lookup.specs.Lookup.{path_end, hit_from, longest}
use Rattle.cells.specs.Mirrors.{Wrote}
use Rattle.chains.specs.Chains.{length_at, taken_from}
use Rattle.prunes.specs.declared.Left.{Left}
use Rattle.prunes.specs.declared.Left.TheVariants as L
use Rattle.prunes.specs.Prunes.{left_from, prune_from}
use Rattle.replies.specs.declared.Refusal.TheVariants as Why
use Rattle.replies.specs.Answers.{refused}
use Rattle.replies.specs.Outcomes.{Outcome, leaves, on_header}
use Rattle.grants.specs.Rooms.{room_of, on_room, update_in, held_to, hold_to}
use Rattle.removes.specs.declared.Cut.{Cut}

-- THE READING PASS. The key stands at q, in the chain from `front` on: the entries before it are copied, those behind it shared.
abbrev pub left_branches : Left → ℕ
left_branches L.Nothing = 0
left_branches L.Single = 0
left_branches (L.More n) = n

abbrev pub is_none_left : Left → Bool
is_none_left L.Nothing = true
is_none_left L.Single = false
is_none_left (L.More n) = false

unfoldable pub cutting : Shape → State → ℕ → ℕ → ℕ → ℕ → ℕ → Cut
cutting z σ root size h front q =
    let left = left_from z σ h (length_at z σ front - 1) z.depths 0 root in
    record {
      root = root;
      size = size - 1;
      tail = record { count = length_at z σ front - length_at z σ q; from = front; rest = σ.kid q 0 };
      branches = left_branches left;
      empty = is_none_left left;
    }

-- or it is not there
abbrev pub cut_by : Shape → State → ℕ → ℕ → ℕ → ℕ → Option ℕ → Option Cut
cut_by z σ root size h front (Some q) = Some (cutting z σ root size h front q)
cut_by z σ root size h front None = None

abbrev pub cut_from : Shape → State → ℕ → ℕ → ℕ → ℕ → ℕ → Option Cut
cut_from z σ root size h k front = cut_by z σ root size h front (hit_from z σ h k (longest z) front)

unfoldable pub cut_of : Shape → List ℕ → ℕ → ℕ → ℕ → Option Cut
cut_of z a e h k =
    let σ = columns z a in cut_from z σ (σ.root e) (σ.size e) h k (path_end z σ h z.depths 0 (σ.root e))

-- WRITING. The chain without the entry, then the path above it, then the slot; "an empty result takes none".
abbrev pub pruned_to : Shape → ℕ → Cut → ℕ → ℕ → List ℕ → Outcome
pruned_to z h p s leaf w = hold_to z s p.size p.branches p.tail.count (prune_from z h leaf z.depths 0 p.root w)

-- no cell could be taken for a copy
unfoldable pub lacks : ℕ → ℕ → Bool
lacks leaf before = cond (eqb leaf 0) (ltb 0 before) false

unfoldable pub chain_to : Shape → ℕ → Cut → ℕ → Wrote → Outcome
chain_to z h p s w =
    cond (lacks w.at p.tail.count) (leaves (refused Why.NoEntryCells) w.words) (pruned_to z h p s w.at w.words)

abbrev pub take_to : Shape → List ℕ → ℕ → Cut → ℕ → Outcome
take_to z a h p s = chain_to z h p s (taken_from z p.tail.count p.tail.from p.tail.rest a)

unfoldable pub cut_to : Shape → List ℕ → ℕ → Cut → ℕ → Outcome
cut_to z a h p s =
    cond p.empty (held_to z s p.size p.branches p.tail.count 0 a) (take_to z a h p s)

-- where there is room
abbrev pub cutting_to : Shape → List ℕ → ℕ → Cut → Outcome
cutting_to z a h p = on_room a (room_of z a p.branches p.tail.count) (cut_to z a h p)

-- the plan, for a key that is there; of another nothing is asked
abbrev pub the_cut : Option Cut → Cut
the_cut c =
    unwrap_or c
    (record { root = 0; size = 0; tail = record { count = 0; from = 0; rest = 0 }; branches = 0; empty = false })

-- the call, by its plan. 6: "remove: key not there"
abbrev pub remove_by : Shape → List ℕ → ℕ → ℕ → Option Cut → Outcome
remove_by z a e h c = update_in z a e (is_some c) (the_cut c).branches (the_cut c).tail.count (cut_to z a h (the_cut c))

abbrev pub remove_in : Shape → List ℕ → ℕ → ℕ → ℕ → Outcome
remove_in z a e h k = remove_by z a e h (cut_of z a e h k)

abbrev pub remove_of : List ℕ → ℕ → ℕ → ℕ → Outcome
remove_of a e h k = on_header (header_of a) (leaves (refused Why.Damaged) a) (λ z. remove_in z a e h k)
