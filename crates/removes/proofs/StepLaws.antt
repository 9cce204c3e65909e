-- The steps of remove, as the definitions have them.
use Rattle.std.proofs.Common.{◌≡◌, ℕ, ◌-◌, Bool, true, List, ap, ◌∙◌, arith}
use Rattle.layout.specs.declared.Shape.{Shape}
use Rattle.layout.specs.Columns.{State}
use Rattle.cells.specs.Mirrors.{Wrote}
use Rattle.chains.specs.Chains.{length_at}
use Rattle.prunes.specs.declared.Left.{Left}
use Rattle.prunes.specs.Prunes.{left_from, prune_from}
use Rattle.replies.specs.declared.Refusal.TheVariants as Why
use Rattle.removes.specs.Calls.{left_branches, is_none_left, cutting}

-- THE READING PASS
pub cut_is : (z : Shape) (σ : State) (root size h front q l f : ℕ) (left : Left) (s m n r b : ℕ) (y : Bool) → l ≡ length_at z σ front
    → f ≡ l - 1 → left ≡ left_from z σ h f z.depths (z.depths - z.depths) root → s ≡ size - 1 → m ≡ length_at z σ q → n ≡ l - m
    → r ≡ σ.kid q 0 → b ≡ left_branches left → y ≡ is_none_left left
    → record { root = root; size = s; tail = record { count = n; from = front; rest = r }; branches = b; empty = y }
    ≡ cutting z σ root size h front q
unfolding cutting
cut_is z σ root size h front q l f left s m n r b y el ef eleft es em en er eb ey =
    let o : z.depths - z.depths ≡ 0 = omega arith in
    let is : left ≡ left_from z σ h (length_at z σ front - 1) z.depths 0 root
    = eleft
    ∙ ap (λ (t : ℕ). left_from z σ h f z.depths t root) o
    ∙ ap (λ (x : ℕ). left_from z σ h x z.depths 0 root) (ef ∙ ap (λ (x : ℕ). x - 1) el) in
    rw (es, en, em, er, eb, ey, is, el)

-- THE PATH, from the root on
pub path_is : (z : Shape) (h leaf root : ℕ) (v : Wrote) (w : List ℕ)
    → v ≡ prune_from z h leaf z.depths (z.depths - z.depths) root w → v ≡ prune_from z h leaf z.depths 0 root w
path_is z h leaf root v w e = let q : z.depths - z.depths ≡ 0 = omega arith in rw q at e
