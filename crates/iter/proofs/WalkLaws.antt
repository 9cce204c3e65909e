-- The walk's steps on any words: what it does at an entry, at a branch, at anything else, and on the way up; and what its stack
-- holds after a store.
use Prim.Native.Nat.{◌+◌, ◌*◌, ◌/◌, ◌%◌, ℕ, zero, suc, ◌-◌, ◌≤◌, ◌<◌}
use mathlib.Core.Path.{sym, ◌∙◌, ap₂, ◌≡◌, refl, ap}
use mathlib.Core.Logic.{⊎_elim}
use lib.ListN.{get_or, length, set}
use borrow.Author.Tests.{le-ltb, eqb-true, ne_eqb, eq-eqb, lt-ltb, ltb-true}
use Rattle.cases.proofs.Cases.{split, lt?, both}
use Rattle.layout.specs.Layout.{names, Allowed, kind_of}
use Rattle.layout.specs.Columns.{refs, State, columns}
use Rattle.layout.proofs.OffsetLaws.{names_says, cells_few}
use Rattle.layout.proofs.ColumnLaws.{refs_in}
use Rattle.lookup.proofs.FindLaws.{kid_out}
use mathlib.Core.Bool.{true, false, cond}
use mathlib.Core.List.{List, [], ◌∷◌}
use native.Mathlib.Omega.{arith}
use lib.Dec.{eqb, ltb}
use lib.Seq.{get_or-set_same, get_or-set_other}
use Rattle.trie.specs.declared.Entry.{Entry}
use Rattle.layout.specs.declared.Shape.{Shape}
use Rattle.lookup.specs.Lookup.{names_kind, entry_at}
use Rattle.iter.specs.declared.Walk.{Walk}
use Rattle.iter.specs.Met.{onward, first_child, place_of, waits, waiting, Spot, spot, climbed, behind_entry, enters, met_from, still, is_at_entry, Settled}

-- THE STACK
pub waiting-length : (stack : List ℕ) (d : ℕ) → length (waiting stack d) ≡ d
unfolding waiting
waiting-length stack zero = refl
waiting-length stack (suc d) = ap suc (waiting-length stack d)

-- a store at or above the places taken leaves them
pub waiting_above : (stack : List ℕ) (d j v : ℕ) → d ≤ j → waiting (set stack j v) d ≡ waiting stack d
unfolding waiting
waiting_above stack zero j v l = refl
waiting_above stack (suc d) j v l =
    rw (get_or-set_other stack j d v 0 (λ e. omega arith), waiting_above stack d j v (omega arith))

-- a store just above them is one place more
pub waiting_push : (stack : List ℕ) (d v : ℕ) → d < length stack → waiting (set stack d v) (suc d) ≡ v ∷ waiting stack d
unfolding waiting
waiting_push stack d v l = rw (get_or-set_same stack d v 0 l, waiting_above stack d d v (omega arith))

-- UPWARDS
pub climbed_none : (σ : State) (p : ℕ) (ps : List ℕ) → waits σ p ≡ 0 → climbed σ (p ∷ ps) ≡ climbed σ ps
unfolding climbed
climbed_none σ p ps e = rw (eq-eqb (waits σ p) 0 e)

pub climbed_some : (σ : State) (p : ℕ) (ps : List ℕ) → (waits σ p ≡ 0 → ⊥)
    → climbed σ (p ∷ ps) ≡ spot (waits σ p) (onward p ∷ ps)
unfolding climbed
climbed_some σ p ps ne = rw (ne_eqb (waits σ p) 0 ne)

-- behind an entry that is not the last of its chain, and behind one that is
pub behind_next : (σ : State) (r : ℕ) (ps : List ℕ) → (σ.kid r 0 ≡ 0 → ⊥) → behind_entry σ r ps ≡ spot (σ.kid r 0) ps
unfolding behind_entry
behind_next σ r ps ne = rw (ne_eqb (σ.kid r 0) 0 ne)

pub behind_climb : (σ : State) (r : ℕ) (ps : List ℕ) → σ.kid r 0 ≡ 0 → behind_entry σ r ps ≡ climbed σ ps
unfolding behind_entry
behind_climb σ r ps e = rw (eq-eqb (σ.kid r 0) 0 e)

-- KINDS. A branch is no entry.
pub branch_no_entry : (z : Shape) (r : ℕ) → names_kind z 0 r ≡ true → names_kind z 1 r ≡ false
unfolding names_kind
branch_no_entry z r e =
    let k : kind_of r ≡ 0 = eqb-true _ _ (both (eqb (kind_of r) 0) _ e).0 in rw (ne_eqb (kind_of r) 1 (λ q. omega arith))

-- STEPS
-- what is met from a spot on
abbrev pub on_from : Shape → State → ℕ → Spot → List Entry
on_from z σ n s = met_from z σ n s.at s.places

module _ (z : Shape) (σ : State) (n r : ℕ) (ps : List ℕ) where
  pub step_entry : names_kind z 1 r ≡ true → met_from z σ (suc n) r ps ≡ entry_at σ r ∷ on_from z σ n (behind_entry σ r ps)
  unfolding met_from
  step_entry e = rw e

  pub met_enter : names_kind z 0 r ≡ true → length ps < 65
      → met_from z σ (suc n) r ps ≡ met_from z σ n (first_child σ r) (place_of r 1 ∷ ps)
  unfolding met_from enters
  met_enter e l = rw (branch_no_entry z r e, lt-ltb (length ps) 65 l, e)

  pub step_stop : names_kind z 1 r ≡ false → enters z r (length ps) ≡ false → met_from z σ (suc n) r ps ≡ []
  unfolding met_from
  step_stop e s = rw (e, s)

-- WALKS
-- a walk that is settled and has come to no entry meets no more
stops : (z : Shape) (σ : State) (n r : ℕ) (ps : List ℕ) → cond (ltb 0 n) (names_kind z 1 r) false ≡ false
    → (0 < n → enters z r (length ps) ≡ false) → met_from z σ n r ps ≡ []
stops z σ zero r ps e s = unfold met_from in refl
stops z σ (suc n) r ps e s =
    step_stop z σ n r ps (rw (lt-ltb 0 (suc n) (omega arith)) at e) (s (omega arith))

pub met_stop : (z : Shape) (w : Walk) → is_at_entry z w ≡ false → Settled z w → (a : List ℕ) → still z a w ≡ []
unfolding is_at_entry
met_stop z w e s a =
    stops z (columns z a) w.left w.at (waiting w.stack w.depth) e
    (λ l. rw (waiting-length w.stack w.depth) (s.1 l))

-- a walk that has come to an entry meets it, and goes on behind it
meets : (z : Shape) (σ : State) (n r : ℕ) (ps : List ℕ) → 0 < n → names_kind z 1 r ≡ true
    → met_from z σ n r ps ≡ entry_at σ r ∷ on_from z σ (n - 1) (behind_entry σ r ps)
meets z σ zero r ps l e = absurd (omega arith)
meets z σ (suc n) r ps l e = let k : suc n - 1 ≡ n = omega arith in rw k (step_entry z σ n r ps e)

pub met_entry : (z : Shape) (w : Walk) → is_at_entry z w ≡ true → (a : List ℕ)
    → still z a w
    ≡ entry_at (columns z a) w.at
    ∷ on_from z (columns z a) (w.left - 1) (behind_entry (columns z a) w.at (waiting w.stack w.depth))
unfolding is_at_entry
met_entry z w e a =
    let h = both (ltb 0 w.left) _ e in
    meets z (columns z a) w.left w.at (waiting w.stack w.depth) (ltb-true 0 w.left h.0) h.1

-- LOOPS. What the walk does to its stack, in the words of the code.
waiting_top : (stack : List ℕ) (d : ℕ) → 0 < d → waiting stack d ≡ get_or stack (d - 1) 0 ∷ waiting stack (d - 1)
waiting_top stack zero l = absurd (omega arith)
waiting_top stack (suc d) l = let k : suc d - 1 ≡ d = omega arith in rw k (unfold waiting in refl)

module _ (z : Shape) (σ : State) (stack : List ℕ) where
  -- downwards: the branch waits from its second child on
  pub dig_on : (n r d c : ℕ) → 0 < n → d < 65 → length stack ≡ 65 → names_kind z 0 r ≡ true → c ≡ first_child σ r
      → met_from z σ n r (waiting stack d) ≡ met_from z σ (n - 1) c (waiting (set stack d (r * 128 + 1)) (d + 1))
  dig_on zero r d c l ld ls e q = absurd (omega arith)
  dig_on (suc n) r d c l ld ls e q =
      let k : n ≡ suc n - 1 = omega arith in
      let m : suc d ≡ d + 1 = omega arith in
      met_enter z σ n r (waiting stack d) e (rw (waiting-length stack d) ld)
      ∙ ap₂ (λ (i : ℕ) (ps : List ℕ). met_from z σ i (first_child σ r) ps) k
      (sym (waiting_push stack d (r * 128 + 1) (omega arith)) ∙ ap (waiting (set stack d (r * 128 + 1))) m)
      ∙ ap (λ (x : ℕ). met_from z σ (suc n - 1) x (waiting (set stack d (r * 128 + 1)) (d + 1))) (sym q)

module _ (σ : State) (stack : List ℕ) where
  -- upwards: a place without a child is given up, and one with a child moves on
  module _ (d p c : ℕ) (l : 0 < d) (top : p ≡ get_or stack (d - 1) 0) (child : c ≡ waits σ p) where
    pub climb_on : c ≡ 0 → climbed σ (waiting stack d) ≡ climbed σ (waiting stack (d - 1))
    climb_on e =
        ap (climbed σ) (waiting_top stack d l ∙ ap (λ (x : ℕ). x ∷ waiting stack (d - 1)) (sym top))
        ∙ climbed_none σ p (waiting stack (d - 1)) (sym child ∙ e)

    module _ (s : Spot) (rest : s ≡ climbed σ (waiting stack d)) (some : c ≡ 0 → ⊥) where
      found : s ≡ spot c (onward p ∷ waiting stack (d - 1))
      found =
          rest ∙ ap (climbed σ) (waiting_top stack d l ∙ ap (λ (x : ℕ). x ∷ waiting stack (d - 1)) (sym top))
          ∙ climbed_some σ p (waiting stack (d - 1)) (λ e. some (child ∙ e))
          ∙ ap (λ (x : ℕ). spot x (onward p ∷ waiting stack (d - 1))) (sym child)

      pub found_at : c ≡ s.at
      found_at = sym (ap (λ (y : Spot). y.at) found)

      pub found_places : (q : ℕ) → q ≡ onward p → d ≤ length stack → waiting (set stack (d - 1) q) d ≡ s.places
      found_places q on ls =
          let k : d ≡ suc (d - 1) = omega arith in
          ap (waiting (set stack (d - 1) q)) k ∙ waiting_push stack (d - 1) q (omega arith)
          ∙ ap (λ (x : ℕ). x ∷ waiting stack (d - 1)) on
          ∙ sym (ap (λ (y : Spot). y.places) found)

  pub climb_over : (d : ℕ) → d ≡ 0 → climbed σ (waiting stack d) ≡ spot 0 (waiting stack d)
  unfolding waiting climbed
  climb_over d e = rw e

-- past an entry
module _ (z : Shape) (a : List ℕ) (w : Walk) (here : is_at_entry z w ≡ true) (c : ℕ) (next : c ≡ (columns z a).kid w.at 0)
  where
    pub advance_next : (c ≡ 0 → ⊥)
        → still z a w ≡ entry_at (columns z a) w.at ∷ met_from z (columns z a) (w.left - 1) c (waiting w.stack w.depth)
    advance_next ne =
        let s : behind_entry (columns z a) w.at (waiting w.stack w.depth) ≡ spot c (waiting w.stack w.depth)
        = behind_next (columns z a) w.at _ (λ e. ne (next ∙ e)) ∙ ap (λ (x : ℕ). spot x (waiting w.stack w.depth)) (sym next) in
        met_entry z w here a ∙ ap (λ (y : Spot). entry_at (columns z a) w.at ∷ on_from z (columns z a) (w.left - 1) y) s

    pub advance_climb : (r n : ℕ) (ps : List ℕ) → c ≡ 0 → r ≡ (climbed (columns z a) (waiting w.stack w.depth)).at
        → ps ≡ (climbed (columns z a) (waiting w.stack w.depth)).places → n ≡ w.left - 1
        → still z a w ≡ entry_at (columns z a) w.at ∷ met_from z (columns z a) n r ps
    advance_climb r n ps e er ep en =
        let s : behind_entry (columns z a) w.at (waiting w.stack w.depth) ≡ spot r ps
        = behind_climb (columns z a) w.at _ (sym next ∙ e) ∙ (λ i. spot (sym er i) (sym ep i)) in
        met_entry z w here a
        ∙ ap₂ (λ (m : ℕ) (y : Spot). entry_at (columns z a) w.at ∷ on_from z (columns z a) m y) (sym en) s

-- a walk begins with nothing that waits
pub walk_start : (z : Shape) (σ : State) (n r : ℕ) (stack : List ℕ) → met_from z σ n r (waiting stack 0) ≡ met_from z σ n r []
unfolding waiting
walk_start z σ n r stack = refl

pub entry_left : (z : Shape) (w : Walk) → is_at_entry z w ≡ true → 0 < w.left
unfolding is_at_entry
entry_left z w e = ltb-true 0 w.left (both (ltb 0 w.left) _ e).0

-- where the walk does not enter
pub full_stack : (z : Shape) (r d : ℕ) → 65 ≤ d → enters z r d ≡ false
unfolding enters
full_stack z r d l = rw (le-ltb d 65 l)

pub no_branch : (z : Shape) (r d : ℕ) → names_kind z 0 r ≡ false → enters z r d ≡ false
unfolding enters
no_branch z r d e = split (ltb d 65) (λ y. rw y e) (λ y. rw y)

-- NUMBERS. A place is a small number.
pub cell_small : (z : Shape) (r : ℕ) → Allowed z → names z r ≡ true → r < 16777216
cell_small z r w e = omega (arith, (names_says z r e).number, cells_few z (kind_of r) w)

pub place_small : (z : Shape) (a : List ℕ) (p : ℕ) → Allowed z → (waits (columns z a) p ≡ 0 → ⊥) → p < 2147483648
place_small z a p w ne =
    ⊎_elim
    (λ l. omega (arith, cell_small z (p / 128) w (refs_in z (p / 128) (p % 128) l).0))
    (λ l. absurd (ne (kid_out z a (p / 128) (p % 128) l)))
    (lt? (p % 128) (refs z (p / 128)))

-- a list with another name for its rest
pub with_rest : {e : Entry} {es xs ys : List Entry} → es ≡ e ∷ xs → ys ≡ xs → es ≡ e ∷ ys
with_rest {e} p q = p ∙ ap (λ (zs : List Entry). e ∷ zs) (sym q)

pub entry_here : (z : Shape) (w : Walk) → is_at_entry z w ≡ true → names_kind z 1 w.at ≡ true
unfolding is_at_entry
entry_here z w e = (both (ltb 0 w.left) _ e).1
