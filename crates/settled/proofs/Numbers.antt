-- The laws of `Number`: how many numbers below n pass a test is a sum, a number of things is one number, and what is in Q and not in
-- P is as many as Q has more, where all of P is in Q.
use Prim.Native.Nat.{ℕ, zero, suc, ◌+◌, ◌≤◌, ◌<◌}
use mathlib.Core.Path.{◌≡◌, refl, sym, subst}
use mathlib.Core.Bool.{Bool, true, cond}
use mathlib.Core.List.{[], List, ◌∷◌}
use mathlib.Core.Logic.{⊎_elim, ◌↔◌}
use native.Mathlib.Omega.{arith}
use lib.Dec.{ltb}
use lib.ListN.{length}
use borrow.Author.Tests.{lt-ltb, le-ltb, ltb-true}
use Rattle.cases.proofs.Cases.{split, eq?, lt?}
use Rattle.counts.specs.Counts.{sum_to, among}
use Rattle.counts.proofs.CountLaws.{ind_same, ind_other, sum_ext, sum_add, length-among}
use Rattle.settled.specs.Cost.{Number}

-- THE NUMBERS BELOW n THAT PASS A TEST
unfoldable passing : ℕ → (ℕ → Bool) → List ℕ
passing zero f = []
passing (suc n) f = cond (f n) (n ∷ passing n f) (passing n f)

passing_many : (n : ℕ) (f : ℕ → Bool) → length (passing n f) ≡ sum_to n (λ r. cond (f r) 1 0)
unfolding passing sum_to
passing_many zero f = refl
passing_many (suc n) f = split (f n) (λ e. rw e (omega (arith, passing_many n f))) (λ e. rw e (omega (arith, passing_many n f)))

passing_out : (n : ℕ) (f : ℕ → Bool) (r : ℕ) → n ≤ r → among (passing n f) r ≡ 0
unfolding passing among
passing_out zero f r l = refl
passing_out (suc n) f r l =
    let rest = passing_out n f r (omega arith) in
    split (f n) (λ e. rw e (omega (arith, rest, ind_other r n (λ w. omega arith)))) (λ e. rw e rest)

passing_in : (n : ℕ) (f : ℕ → Bool) (r : ℕ) → r < n → among (passing n f) r ≡ cond (f r) 1 0
unfolding passing among
passing_in zero f r l = absurd (omega arith)
passing_in (suc n) f r l =
    ⊎_elim
    (λ e.
    let rest = passing_out n f n (omega arith) in
    rw e (split (f n) (λ t. rw t (omega (arith, rest, ind_same n n refl))) (λ t. rw t rest)))
    (λ ne.
    let rest = passing_in n f r (omega arith) in
    split (f n) (λ t. rw t (omega (arith, rest, ind_other r n (λ w. ne (sym w))))) (λ t. rw t rest))
    (eq? r n)

one_if : (b : Bool) → (b ≡ true) ↔ (0 < cond b 1 0)
one_if b = (λ e. rw e (omega arith), λ l. split b (λ e. e) (λ e. absurd (omega (arith, rw e at l))))

if_one : (b : Bool) → cond b 1 0 ≤ 1
if_one b = split b (λ e. rw e (omega arith)) (λ e. rw e (omega arith))

pub Number-listed : (n : ℕ) (f : ℕ → Bool) → Number (λ r. (r < n) × (f r ≡ true)) (sum_to n (λ r. cond (f r) 1 0))
Number-listed n f =
    record {
      listed = passing n f;
      exactly =
          λ r. (
            λ (l, e). omega (arith, passing_in n f r l, (one_if (f r)).0 e),
            λ w.
                ⊎_elim
                (λ l. (l, (one_if (f r)).1 (omega (arith, passing_in n f r l))))
                (λ g. absurd (omega (arith, passing_out n f r g)))
                (lt? r n),
          );
      once =
          λ r.
          ⊎_elim (λ l. omega (arith, passing_in n f r l, if_one (f r))) (λ g. omega (arith, passing_out n f r g)) (lt? r n);
      many = passing_many n f;
    }

pub Number-as : {P Q : ℕ → Type 0} {n : ℕ} → ((r : ℕ) → P r ↔ Q r) → Number P n → Number Q n
Number-as h p =
    record {
      listed = p.listed;
      exactly = λ r. (λ w. (p.exactly r).0 ((h r).1 w), λ l. (h r).0 ((p.exactly r).1 l));
      once = p.once;
      many = p.many;
    }

-- NUMBERS COMPARED. A number above all of a list
bound : (l : List ℕ) → (n : ℕ) × ((r : ℕ) → 0 < among l r → r < n)
unfolding among
bound [] = (0, λ r l. absurd (omega arith))
bound (x ∷ xs) =
    let (n, below) = bound xs in (
      suc x + n,
      λ r l.
          ⊎_elim (λ e. omega arith) (λ ne. omega (arith, below r (omega (arith, ind_other r x ne)))) (eq? x r),
    )

-- all that have P have Q
module _ {P Q : ℕ → Type 0} {n m : ℕ} (p : Number P n) (q : Number Q m) (in_both : (r : ℕ) → P r → Q r) where
  abbrev in_p : ℕ → ℕ
  in_p r = among p.listed r

  abbrev in_q : ℕ → ℕ
  in_q r = among q.listed r

  abbrev new : ℕ → Bool
  new r = ltb (in_p r) (in_q r)

  abbrev b : ℕ
  b = (bound q.listed).0

  q_low : (r : ℕ) → 0 < in_q r → r < b
  q_low r l = (bound q.listed).1 r l

  p_in_q : (r : ℕ) → 0 < in_p r → 0 < in_q r
  p_in_q r l = (q.exactly r).0 (in_both r ((p.exactly r).1 l))

  old_or_new : (r : ℕ) → in_q r ≡ in_p r + cond (new r) 1 0
  old_or_new r =
      ⊎_elim
      (λ l. rw (lt-ltb (in_p r) (in_q r) l) (omega (arith, q.once r)))
      (λ g.
      rw (le-ltb (in_p r) (in_q r) g)
      (⊎_elim (λ e. omega arith) (λ ne. omega (arith, p.once r, p_in_q r (omega arith))) (eq? (in_p r) 0)))
      (lt? (in_p r) (in_q r))

  sums : m ≡ n + sum_to b (λ r. cond (new r) 1 0)
  sums =
      omega (
        arith,
        p.many,
        q.many,
        length-among b q.listed q_low,
        length-among b p.listed (λ r l. q_low r (p_in_q r l)),
        sum_ext b in_q (λ r. in_p r + cond (new r) 1 0) (λ r l. old_or_new r),
        sum_add b in_p (λ r. cond (new r) 1 0),
      )

  number_le : n ≤ m
  number_le = omega (arith, sums)

  new_is : (r : ℕ) → ((r < b) × (new r ≡ true)) ↔ (Q r × (P r → ⊥))
  new_is r = (
    λ (l, e).
        let d = ltb-true (in_p r) (in_q r) e in
        ((q.exactly r).1 (omega arith), λ w. omega (arith, (p.exactly r).0 w, q.once r)),
    λ (w, out).
        let d = (q.exactly r).0 w in
        let none : in_p r ≡ 0 = ⊎_elim (λ e. e) (λ ne. absurd (out ((p.exactly r).1 (omega arith)))) (eq? (in_p r) 0) in
        (q_low r d, lt-ltb (in_p r) (in_q r) (omega arith)),
  )

  pub number_more : (d : ℕ) → m ≡ n + d → Number (λ r. Q r × (P r → ⊥)) d
  number_more d e =
      subst (λ (k : ℕ). Number (λ r. Q r × (P r → ⊥)) k) {x = sum_to b (λ r. cond (new r) 1 0)} {y = d} (omega (arith, sums))
      (Number-as new_is (Number-listed b new))

pub Number-once : {P : ℕ → Type 0} {n m : ℕ} → Number P n → Number P m → n ≡ m
Number-once p q = omega (arith, number_le p q (λ r w. w), number_le q p (λ r w. w))
