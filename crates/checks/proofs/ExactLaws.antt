-- What a reader takes from the contract of check alone: its answer is 0 exactly if the arena is sound, 12 exactly if the work words
-- are too few for a right header, and else 4; and where each cell's count is left.
use Rattle.std.proofs.Common.{◌≡◌, ℕ, ◌+◌, ◌<◌, ◌≤◌, ◌⊎◌, ◌↔◌, List, length, get_or, Result, sym, refl, ap, ◌∙◌, subst, inl, inr, arith}
use Rattle.layout.specs.declared.Shape.{Shape}
use Rattle.layout.specs.Layout.{reference, cells_of}
use Rattle.layout.specs.Header.{Header}
use Rattle.layout.specs.Columns.{columns}
use Rattle.layout.proofs.HeaderLaws.{Header-once}
use Rattle.arena.specs.Sound.{Sound}
use Rattle.arena.proofs.RefLaws.{names_of}
use Rattle.tallies.specs.Tallies.{work_words, work_place, Works}
use Rattle.tallies.proofs.WorkLaws.{work_branch, work_entry}
use Rattle.replies.specs.Answers.{answer, unit_answer}
use Rattle.checks.specs.Terms.{Checks, wrong_header, short_work, not_sound, is_sound}
use Rattle.replies.specs.declared.Refusal.{Refusal}

abbrev number : Result (Unit {0}) Refusal → ℕ
number r = (unit_answer r).number

-- BOTH DIRECTIONS, on any words and any work words
pub zero_Sound : {a w w' : List ℕ} {r : Result (Unit {0}) Refusal} → Checks a w r w' → number r ≡ 0 → Sound a
zero_Sound (wrong_header never) e = absurd (omega (arith, e))
zero_Sound (short_work z h l) e = absurd (omega (arith, e))
zero_Sound (not_sound z w' h l never k) e = absurd (omega (arith, e))
zero_Sound (is_sound z w' h l s k) e = s

pub Sound-zero : {a w w' : List ℕ} {r : Result (Unit {0}) Refusal} → Checks a w r w' → (z : Shape) → Header a z → work_words z ≤ length w → Sound a
    → number r ≡ 0
Sound-zero {a} (wrong_header never) z h l s = absurd (never z h)
Sound-zero {a} (short_work y g m) z h l s =
    absurd (omega (arith, l, m, ap (λ (x : Shape). work_words x) (Header-once a y z g h)))
Sound-zero {a} (not_sound y w' g m never k) z h l s = absurd (never s)
Sound-zero {a} (is_sound y w' g m t k) z h l s = refl

-- WITH A RIGHT HEADER
module _ {a w w' : List ℕ} {r : Result (Unit {0}) Refusal} (c : Checks a w r w') (z : Shape) (h : Header a z) where
  -- 0 exactly if the arena is sound
  pub exactly_Sound : work_words z ≤ length w → (number r ≡ 0) ↔ Sound a
  exactly_Sound l = (zero_Sound c, Sound-zero c z h l)

-- 12 exactly if the work words are too few
pub exactly_short : {a w w' : List ℕ} {r : Result (Unit {0}) Refusal} → Checks a w r w' → (z : Shape) → Header a z
    → (number r ≡ 12) ↔ (length w < work_words z)
exactly_short {a} (wrong_header never) z h = absurd (never z h)
exactly_short {a} (short_work y g m) z h =
    (λ e. omega (arith, m, ap (λ (x : Shape). work_words x) (Header-once a y z g h)), λ l. refl)
exactly_short {a} (not_sound y w' g m never k) z h = (
  λ e. absurd (omega (arith, e)),
  λ l. absurd (omega (arith, l, m, ap (λ (x : Shape). work_words x) (Header-once a y z g h))),
)
exactly_short {a} (is_sound y w' g m s k) z h = (
  λ e. absurd (omega (arith, e)),
  λ l. absurd (omega (arith, l, m, ap (λ (x : Shape). work_words x) (Header-once a y z g h))),
)

-- no other number than 0, 4 and 12, and no value beside it
pub check_numbered : {a w w' : List ℕ} {r : Result (Unit {0}) Refusal} → Checks a w r w'
    → (unit_answer r ≡ answer 0 0 0 0) ⊎ ((unit_answer r ≡ answer 4 0 0 0) ⊎ (unit_answer r ≡ answer 12 0 0 0))
check_numbered (wrong_header never) = inr (inl refl)
check_numbered (short_work z h l) = inr (inr refl)
check_numbered (not_sound z w' h l never k) = inr (inl refl)
check_numbered (is_sound z w' h l s k) = inl refl

-- THE WORK WORDS, by their places: "each branch's, then each entry's count"
module _ (z : Shape) (f : ℕ → ℕ) (w w' : List ℕ) (k : Works z f w w') where
  pub left_branch : (i : ℕ) → i < z.branches → get_or w' i 0 ≡ f (reference 0 i)
  unfolding cells_of
  left_branch i l =
      let e : work_place z (reference 0 i) ≡ i = work_branch z (reference 0 i) (omega arith) ∙ omega arith in
      ap (λ (j : ℕ). get_or w' j 0) (sym e) ∙ k.first (reference 0 i) (names_of z 0 i (omega arith) l)

  pub left_entry : (i : ℕ) → i < z.entries → get_or w' (z.branches + i) 0 ≡ f (reference 1 i)
  unfolding cells_of
  left_entry i l =
      let e : work_place z (reference 1 i) ≡ z.branches + i
      = work_entry z (reference 1 i) (λ q. omega (arith, q)) ∙ ap (λ (j : ℕ). z.branches + j) (omega arith) in
      ap (λ (j : ℕ). get_or w' j 0) (sym e) ∙ k.first (reference 1 i) (names_of z 1 i (omega arith) l)

-- a sound arena's counts, and zeros for one that is not
pub counts_left : {a w w' : List ℕ} {r : Result (Unit {0}) Refusal} → Checks a w r w' → (z : Shape) → Header a z → number r ≡ 0
    → Works z (columns z a).count w w'
counts_left (wrong_header never) z h e = absurd (omega (arith, e))
counts_left (short_work y g l) z h e = absurd (omega (arith, e))
counts_left (not_sound y w' g l never k) z h e = absurd (omega (arith, e))
counts_left {a} {w} (is_sound y w' g l s k) z h e =
    subst (λ (x : Shape). Works x (columns x a).count w w') (Header-once a y z g h) k

pub zeros_left : {a w w' : List ℕ} {r : Result (Unit {0}) Refusal} → Checks a w r w' → (z : Shape) → Header a z → number r ≡ 4
    → Works z (λ c. 0) w w'
zeros_left (wrong_header never) z h e = absurd (never z h)
zeros_left (short_work y g l) z h e = absurd (omega (arith, e))
zeros_left {a} {w} (not_sound y w' g l never k) z h e =
    subst (λ (x : Shape). Works x (λ c. 0) w w') (Header-once a y z g h) k
zeros_left (is_sound y w' g l s k) z h e = absurd (omega (arith, e))
