-- What the writers of an update come to, one after the other: a reference in hand, the words before it all still there, and
-- the first cells of the free chains taken.
use Prim.Native.Nat.{ℕ, zero, suc, ◌<◌}
use mathlib.Core.Path.{◌≡◌, refl, sym, ◌∙◌, ap₂}
use mathlib.Core.Bool.{cond}
use mathlib.Core.List.{[], List, ◌∷◌}
use mathlib.Core.Logic.{⊎_elim}
use native.Mathlib.Omega.{arith}
use borrow.Author.Tests.{eq-eqb, ne_eqb}
use lib.Dec.{eqb}
use lib.ListN.{length, get_or, drop}
use Rattle.cases.proofs.Cases.{eq?}
use Rattle.counts.specs.Counts.{ind}
use Rattle.counts.proofs.CountLaws.{ind_same, ind_other}
use Rattle.layout.specs.declared.Shape.{Shape}
use Rattle.layout.specs.Columns.{columns}
use Rattle.arena.specs.Local.{Local, Grow, SameSlots}
use Rattle.cells.specs.Frame.{Kept}
use Rattle.cells.specs.Mirrors.{Wrote, and_then, wrote, taken, taken_of, take_words}
use Rattle.cells.proofs.KeptLaws.{kept_trans}

-- what is left of the free chains where the first n p cells of kind p are taken
abbrev pub left : (ℕ → ℕ) → (ℕ → List ℕ) → ℕ → List ℕ
left n free p = drop (n p) (free p)

-- c cells of kind k and none of the other
abbrev pub taking : ℕ → ℕ → ℕ → ℕ
taking k c p = cond (eqb p k) c 0

-- from the words a, with these free cells: the reference s .at is in hand, and alone
pub record Made (z : Shape) (a : List ℕ) (free : ℕ → List ℕ) (n : ℕ → ℕ) (s : Wrote) : Type 0 where
  pub some : s.at ≡ 0 → ⊥
  pub kept : Kept z a s.words
  pub local : Local z (columns z s.words) (λ r. ind r s.at) (left n free)
  pub grow : Grow (columns z a) (columns z s.words)
  pub slots : SameSlots (columns z a) (columns z s.words)

-- ONE AFTER THE OTHER
pub then_on : (s : Wrote) (f : ℕ → List ℕ → Wrote) → (s.at ≡ 0 → ⊥) → and_then s f ≡ f s.at s.words
unfolding and_then
then_on s f ne = rw (ne_eqb s.at 0 ne)

pub then_over : (s : Wrote) (f : ℕ → List ℕ → Wrote) → s.at ≡ 0 → and_then s f ≡ s
unfolding and_then
then_over s f e = rw (eq-eqb s.at 0 e)

pub then_Kept : {z : Shape} {a : List ℕ} (s : Wrote) (f : ℕ → List ℕ → Wrote) → Kept z a s.words
    → ((s.at ≡ 0 → ⊥) → Kept z s.words (f s.at s.words).words) → Kept z a (and_then s f).words
then_Kept s f k on =
    ⊎_elim (λ e. rw (then_over s f e) k) (λ ne. rw (then_on s f ne) (kept_trans k (on ne))) (eq? s.at 0)

-- a cell that is taken first, and then written
module _ (z : Shape) (a : List ℕ) (k r : ℕ) (w : List ℕ) (er : r ≡ taken_of z a k) (ew : w ≡ take_words z a k) where
  pub taken_over : (f : ℕ → List ℕ → Wrote) → r ≡ 0 → wrote 0 w ≡ and_then (taken z a k) f
  taken_over f o =
      ap₂ (λ (x : ℕ) (y : List ℕ). wrote x y) (sym o ∙ er) ew ∙ sym (then_over (taken z a k) f (sym er ∙ o))

  pub taken_on : (g : ℕ → List ℕ → List ℕ) (v : List ℕ) → (r ≡ 0 → ⊥) → v ≡ g r w
      → wrote r v ≡ and_then (taken z a k) (λ c x. wrote c (g c x))
  taken_on g v ne ev =
      ap₂ (λ (x : ℕ) (y : List ℕ). wrote x y) er (ev ∙ ap₂ g er ew)
      ∙ sym (then_on (taken z a k) (λ c x. wrote c (g c x)) (λ o. ne (er ∙ o)))

-- THE FREE CELLS
drop_at : (n : ℕ) (xs : List ℕ) → n < length xs → drop n xs ≡ get_or xs n 0 ∷ drop (suc n) xs
drop_at zero [] l = absurd (omega arith)
drop_at (suc n) [] l = absurd (omega arith)
drop_at zero (x ∷ xs) l = refl
drop_at (suc n) (x ∷ xs) l = drop_at n xs (omega arith)

drop_one : (n : ℕ) (xs : List ℕ) → drop 1 (drop n xs) ≡ drop (suc n) xs
drop_one zero xs = refl
drop_one (suc n) [] = refl
drop_one (suc n) (x ∷ xs) = drop_one n xs

-- the next one of kind k, where c were taken
pub next_free : (free : ℕ → List ℕ) (k c : ℕ) → c < length (free k)
    → left (taking k c) free k ≡ get_or (free k) c 0 ∷ drop (suc c) (free k)
next_free free k c l = rw (eq-eqb k k refl) (drop_at c (free k) l)

pub one_taken : (free : ℕ → List ℕ) (k c p : ℕ) → drop (ind p k) (left (taking k c) free p) ≡ left (taking k (suc c)) free p
one_taken free k c p =
    ⊎_elim
    (λ e. rw (eq-eqb p k e, ind_same p k (sym e)) (drop_one c (free p)))
    (λ ne. rw (ne_eqb p k ne, ind_other p k (λ e. ne (sym e))))
    (eq? p k)

pub none_taken : (free : ℕ → List ℕ) (k p : ℕ) → free p ≡ left (taking k 0) free p
none_taken free k p = ⊎_elim (λ e. rw (eq-eqb p k e)) (λ ne. rw (ne_eqb p k ne)) (eq? p k)
