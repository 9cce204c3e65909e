-- ON ANY WORDS, sound or not. With a right header a call that is neither a format nor a check does not answer 4, and with a wrong one
-- nothing else; no call but a format that is done writes words 0 to 7 or words beyond the total; and a refusal other than 8 and 9 writes
-- none.
use Prim.Native.Nat.{ℕ, ◌≤◌, ◌<◌}
use mathlib.Core.Path.{◌≡◌, sym, ap, ◌∙◌, subst}
use mathlib.Core.Bool.{true, false}
use mathlib.Core.List.{List}
use mathlib.Core.Logic.{◌↔◌}
use native.Mathlib.Omega.{arith}
use Rattle.layout.specs.declared.Shape.{Shape}
use Rattle.layout.specs.Header.{Header, header_of}
use Rattle.layout.proofs.HeaderLaws.{Header-says}
use Rattle.cells.specs.Frame.{Kept}
use Rattle.cells.proofs.KeptLaws.{kept_refl, kept_trans, share_Kept, slots_kept}
use Rattle.cells.proofs.SlotLaws.{free_slot-Lowest}
use Rattle.replies.specs.declared.Refusal.TheVariants as Why
use Rattle.replies.specs.Answers.{Answer, refused}
use Rattle.replies.specs.Outcomes.{Outcome, leaves, on_header}
use Rattle.replies.proofs.AnswerLaws.{header_Right}
use Rattle.replies.proofs.Tables.{Damaged, HeaderNumbered, Unaltered, by_free, by_Held, number}
use Rattle.makes.specs.Calls.{new_to, new_edition_in, share_to, share_in}
use Rattle.makes.proofs.EditionLaws.{new_At, new_none, share_At, share_NoneFree, held_shared_lem, share_not_held}
use Rattle.makes.proofs.NumberLaws.{format_Numbered, new_numbered, share_numbered}
use Rattle.updates.proofs.NumberLaws.{write_answers, write_Unaltered}
use Rattle.removes.proofs.NumberLaws.{remove_answers, remove_Unaltered}
use Rattle.drops.proofs.NumberLaws.{drop_numbered}
use Rattle.looks.proofs.NumberLaws.{size_numbered, in_use_numbered, get_numbered, list_numbered, equal_numbered}
use Rattle.promises.specs.History.{Call, formats, makes_new, shares, inserts, changes, removes, drops, sizes, uses, gets, lists, compares, checks, Meets, Ends, by_format}
use Rattle.promises.specs.Answered.{number_in, Plain}
use Rattle.promises.proofs.WriteLaws.{Writes, left, formatted, made, shared, updated, dropped, writes}

-- what the table says of one answer
by_table : {a b : List ℕ} {When : Shape → ℕ → Type 0} {o : Outcome} {r : Answer} → HeaderNumbered a b When o → r ≡ o.answer
    → (r.number ≡ 4) ↔ Damaged a
by_table N e = rw e N.damaged

answer_of : {r : Answer} {b : List ℕ} {o : Outcome} → leaves r b ≡ o → r ≡ o.answer
answer_of e = ap (λ (o : Outcome). o.answer) e

-- 4 is given exactly where the header is wrong
pub four_exactly : (c : Call) (a b : List ℕ) → Meets c a b → Plain c → (number_in c ≡ 4) ↔ Damaged a
unfolding Meets number_in Plain
four_exactly (formats g n m s r) a b w p = absurd p
four_exactly (makes_new r) a b w p = by_table (new_numbered a) (answer_of w.outcome)
four_exactly (shares e r) a b w p = by_table (share_numbered a e) (answer_of w.outcome)
four_exactly (inserts e h k v r) a b w p = by_table (write_answers a e h k v false) (answer_of w.outcome)
four_exactly (changes e h k v r) a b w p = by_table (write_answers a e h k v true) (answer_of w.outcome)
four_exactly (removes e h k r) a b w p = by_table (remove_answers a e h k) (answer_of w.outcome)
four_exactly (drops e r) a b w p = by_table (drop_numbered a e) (answer_of w.outcome)
four_exactly (sizes e r) a b w p = by_table (size_numbered a e) w.0.result
four_exactly (uses r) a b w p = by_table (in_use_numbered a) w.0.result
four_exactly (gets e h k r) a b w p = by_table (get_numbered a e h k) w.0.result
four_exactly (lists e place out r out') a b w p = by_table (list_numbered a e place out) (answer_of w.0.outcome)
four_exactly (compares e f r) a b w p = by_table (equal_numbered a e f) w.0.result
four_exactly (checks work r work') a b w p = absurd p

-- INSIDE. New edition and share write one slot, and at most a count.
module _ (z : Shape) (a : List ℕ) (wide : 3 ≤ z.stride) where
  new_writes : Kept z a (new_edition_in z a).words
  unfolding new_to
  new_writes =
      by_free z a (λ q v. rw (new_none z a q) (kept_refl z a))
      (λ s q n. rw (new_At z a s q) (slots_kept z a s 1 0 0 wide (free_slot-Lowest z a s q).slot))

  share_writes : (e : ℕ) → Kept z a (share_in z a e).words
  unfolding share_to
  share_writes e =
      by_Held z a e
      (λ t w.
      rw (held_shared_lem z a e t)
      (by_free z a (λ q v. rw (share_NoneFree z a e q) (kept_refl z a))
      (λ s q n.
      rw (share_At z a e s q) (kept_trans (share_Kept z a _) (slots_kept z _ s 1 _ _ wide (free_slot-Lowest z a s q).slot)))))
      (λ t w. rw (share_not_held z a e t) (kept_refl z a))

put_inside : {a b : List ℕ} {r : Answer} {z : Shape} (f : Shape → Outcome) → Header a z
    → leaves r b ≡ on_header (header_of a) (leaves (refused Why.Damaged) a) f → (3 ≤ z.stride → Kept z a (f z).words) → Kept z a b
put_inside {a} {b} {z = z} f H e K =
    let q : b ≡ (f z).words = ap (λ (o : Outcome). o.words) (e ∙ header_Right (header_of a) _ f z ((Header-says a z).1 H)) in
    subst (λ (w : List ℕ). Kept z a w) (sym q) (K H.allowed.wide)

written_inside : (e : ℕ) {a b : List ℕ} {c : Call} → Writes a b c → (Ends e c → ⊥) → (z : Shape) → Header a z → Kept z a b
written_inside e {a} (left c q) goes z H = rw q (kept_refl z a)
written_inside e (formatted g n m s w) goes z H = absurd (goes (by_format g n m s))
written_inside e {a} (made r w) goes z H = put_inside _ H w.outcome (new_writes z a)
written_inside e {a} (shared i r w) goes z H = put_inside _ H w.outcome (λ wide. share_writes z a wide i)
written_inside e (updated c i step o r w) goes z H = w.inside z H
written_inside e (dropped i x y w) goes z H = w.inside z H

-- a call that spares some edition is no format that is done
pub inside_by : (e : ℕ) (c : Call) {a b : List ℕ} → Meets c a b → (Ends e c → ⊥) → (z : Shape) → Header a z → Kept z a b
inside_by e c {a} {b} w = written_inside e (writes c a b w)

-- REFUSALS. "A refusal .. alters nothing": on any words, but for 8 and 9, which on words that are not sound may come too late.
still : {a b : List ℕ} {r : Answer} {o : Outcome} → (r.number ≡ 0 → ⊥) → leaves r b ≡ o → ((number o ≡ 0 → ⊥) → Unaltered a o) → b ≡ a
still some e unaltered = ap (λ (x : Outcome). x.words) e ∙ (unaltered (λ q. some (ap number e ∙ q))).0

still_below : {a b : List ℕ} {r : Answer} {o : Outcome} → (r.number ≡ 0 → ⊥) → r.number < 8 → leaves r b ≡ o
    → ((number o ≡ 0 → ⊥) → number o < 8 → Unaltered a o) → b ≡ a
still_below some low e unaltered = still some e (λ n. unaltered n (omega (arith, ap number e)))

pub refused_still : (c : Call) (a b : List ℕ) → Meets c a b → (number_in c ≡ 0 → ⊥) → number_in c < 8 → b ≡ a
unfolding Meets number_in
refused_still (formats g n m s r) a b w some low = still some w.outcome (format_Numbered a g n m s).refusal
refused_still (makes_new r) a b w some low = still some w.outcome (new_numbered a).refusal
refused_still (shares e r) a b w some low = still some w.outcome (share_numbered a e).refusal
refused_still (inserts e h k v r) a b w some low = still_below some low w.outcome (write_Unaltered a e h k v false)
refused_still (changes e h k v r) a b w some low = still_below some low w.outcome (write_Unaltered a e h k v true)
refused_still (removes e h k r) a b w some low = still_below some low w.outcome (remove_Unaltered a e h k)
refused_still (drops e r) a b w some low = still some w.outcome (drop_numbered a e).refusal
refused_still (sizes e r) a b w some low = w.1
refused_still (uses r) a b w some low = w.1
refused_still (gets e h k r) a b w some low = w.1
refused_still (lists e place out r out') a b w some low = w.1
refused_still (compares e f r) a b w some low = w.1
refused_still (checks work r work') a b w some low = w.1
