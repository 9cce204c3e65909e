-- Every arena that began with a format that answered 0 is sound after any public calls, refusals included; so words 10 and 11 are
-- the numbers of the cells in use, and a check answers 0.
use Prim.Native.Nat.{ℕ, ◌≤◌}
use mathlib.Core.Path.{◌≡◌, refl, sym, subst}
use mathlib.Core.List.{List, ◌++◌}
use native.Mathlib.Omega.{arith}
use lib.ListN.{length, get_or}
use Rattle.layout.specs.declared.Shape.{Shape}
use Rattle.layout.specs.Header.{Header}
use Rattle.arena.specs.Sound.{Sound}
use Rattle.tallies.specs.Tallies.{work_words}
use Rattle.checks.specs.Terms.{Checks}
use Rattle.checks.proofs.ExactLaws.{Sound-zero}
use Rattle.settled.specs.Cost.{Number, Reaches}
use Rattle.promises.specs.History.{Call, Meets, Calls, no_call, then, History}
use Rattle.settled.proofs.CostLaws.{in_use}
use Rattle.promises.proofs.AnswerLaws.{check_is}
use Rattle.promises.proofs.WriteLaws.{Writes, left, formatted, made, shared, updated, dropped, writes}
use Rattle.std.specs.Prelude.{Result, Ok}
use Rattle.replies.specs.declared.Refusal.{Refusal}

written_Sound : {a b : List ℕ} {c : Call} → Writes a b c → Sound a → Sound b
written_Sound (left c e) S = subst (λ (w : List ℕ). Sound w) (sym e) S
written_Sound (formatted g n m s w) S = w.sound refl
written_Sound (made r w) S = w.sound S
written_Sound (shared e r w) S = w.sound S
written_Sound (updated c e step o r w) S = w.sound S
written_Sound (dropped e x y w) S = w.sound S

pub Meets-Sound : (c : Call) (a b : List ℕ) → Meets c a b → Sound a → Sound b
Meets-Sound c a b w = written_Sound (writes c a b w)

pub Calls-Sound : {a b : List ℕ} {cs : List Call} → Calls a cs b → Sound a → Sound b
Calls-Sound (no_call a) S = S
Calls-Sound (then a b d c cs w ws) S = Calls-Sound ws (Meets-Sound c a b w S)

-- every arena with such a past is sound
pub History-Sound : {b : List ℕ} → History b → Sound b
History-Sound past = Calls-Sound past.made (past.format.sound refl)

-- and more calls make it longer
Calls-on : {a b d : List ℕ} {cs ds : List Call} → Calls a cs b → Calls b ds d → Calls a (cs ++ ds) d
Calls-on (no_call a) more = more
Calls-on (then a b d c cs w ws) more = then a b _ c _ w (Calls-on ws more)

pub History-on : {a b : List ℕ} {cs : List Call} → History a → Calls a cs b → History b
History-on past more =
    record {
      lent = past.lent;
      degree = past.degree;
      branches = past.branches;
      entries = past.entries;
      editions = past.editions;
      formatted = past.formatted;
      format = past.format;
      calls = _;
      made = Calls-on past.made more;
    }

-- words 10 and 11 are the numbers of distinct cells that held editions reach
pub History-in_use : {b : List ℕ} → History b → (z : Shape) → Header b z
    → Number (Reaches z b 0) (get_or b 10 0) × Number (Reaches z b 1) (get_or b 11 0)
History-in_use {b} past z h =
    let S = History-Sound past in
    (in_use b S z h 0 (omega arith), in_use b S z h 1 (omega arith))

-- and a check of it, with work words enough, answers 0
pub History-check : {b w w' : List ℕ} {r : Result (Unit {0}) Refusal} → History b → Checks b w r w' → (z : Shape) → Header b z → work_words z ≤ length w
    → r ≡ (Ok tt)
History-check {r = r} past c z h l = check_is r (Sound-zero c z h l (History-Sound past))
