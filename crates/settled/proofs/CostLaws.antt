-- What is in use is what the held editions reach, so an arena that holds one edition more has as many cells more in use as that edition
-- shares with no other.
use Prim.Native.Nat.{ℕ, ◌+◌, ◌<◌}
use mathlib.Core.Path.{◌≡◌, sym, subst}
use mathlib.Core.Bool.{Bool, true, false, ◌&&◌}
use mathlib.Core.List.{List}
use mathlib.Core.Logic.{⊎_elim, ◌↔◌}
use lib.Dec.{eqb}
use lib.ListN.{get_or}
use borrow.Author.Tests.{eq-eqb, eqb-true, lt-ltb}
use Rattle.cases.proofs.Cases.{both, eq?}
use Rattle.layout.specs.declared.Shape.{Shape}
use Rattle.layout.specs.Layout.{kind_of}
use Rattle.layout.specs.Header.{Header}
use Rattle.layout.specs.Columns.{columns, by_kind}
use Rattle.arena.specs.Sound.{top, Reached, reached_of, Cells, Sound}
use Rattle.arena.proofs.RefLaws.{refs_inside}
use Rattle.arena.proofs.LocalLaws.{live_cell}
use Rattle.arena.proofs.Reach.{Reached-live}
use Rattle.arena.proofs.Equivalent.{Local-Cells, Header-degree}
use Rattle.arena.proofs.Shelved.{Local-in}
use Rattle.settled.specs.Cost.{Number, CellOf, Reaches, Own, Beside}
use Rattle.settled.proofs.Numbers.{Number-listed, Number-as, number_more}
use Rattle.settled.proofs.ReachLaws.{Reached-cell}

passed : (x y : Bool) → x && y ≡ true → (x ≡ true) × (y ≡ true)
passed true y e = both true y e
passed false y e = both false y e

used_word : (a : List ℕ) (z : Shape) (k : ℕ) → k < 2 → (columns z a).used k ≡ get_or a (10 + k) 0
unfolding by_kind
used_word a z k l = rw (lt-ltb k 2 l)

module _ (a : List ℕ) (s : Sound a) (z : Shape) (h : Header a z) (k : ℕ) where
  cells_in : Cells z (columns z a)
  cells_in = let (free, I) = Local-in a s z h in Local-Cells z (columns z a) (Header-degree h) free I

  Reached-low : (r : ℕ) → Reached z (columns z a) r → r < top z
  Reached-low r w = let (free, I) = Local-in a s z h in refs_inside z r (live_cell I r (Reached-live z (columns z a) free I r w))

  Reaches-is : (r : ℕ) → ((r < top z) × (eqb (kind_of r) k && cells_in.reached r ≡ true)) ↔ Reaches z a k r
  Reaches-is r = (
    λ (l, t).
        let (e, w) = passed (eqb (kind_of r) k) (cells_in.reached r) t in
        let (i, c) = (Reached-cell a s z h r).0 ((cells_in.reached_is r).0 w) in
        record { kind = eqb-true (kind_of r) k e; slot = i; cell = c },
    λ c.
        let w = (Reached-cell a s z h r).1 (c.slot, c.cell) in
        (Reached-low r w, rw (eq-eqb (kind_of r) k c.kind) ((cells_in.reached_is r).1 w)),
  )

  Reaches-used : Number (Reaches z a k) ((columns z a).used k)
  unfolding reached_of
  Reaches-used =
      subst (λ (n : ℕ). Number (Reaches z a k) n) (sym (cells_in.in_use k))
      (Number-as Reaches-is (Number-listed (top z) (λ r. eqb (kind_of r) k && cells_in.reached r)))

-- "words 10 and 11 count the reached cells"
pub in_use : (a : List ℕ) → Sound a → (z : Shape) → Header a z → (k : ℕ) → k < 2 → Number (Reaches z a k) (get_or a (10 + k) 0)
in_use a s z h k l = subst (λ (n : ℕ). Number (Reaches z a k) n) (used_word a z k l) (Reaches-used a s z h k)

-- the cells that the one edition more shares with no other are those that no other reaches
module _ (z : Shape) (p q : List ℕ) (s : ℕ) (w : Beside z p q s) where
  cell_more : (i r : ℕ) → CellOf z p i r → CellOf z q i r
  cell_more i r c = record { map = c.map; holds = w.more i c.map c.holds; within = c.within }

  cell_other : (i r : ℕ) → (i ≡ s → ⊥) → CellOf z q i r → CellOf z p i r
  cell_other i r ne c = record { map = c.map; holds = w.others i c.map ne c.holds; within = c.within }

  cell_away : (i r : ℕ) → CellOf z p i r → i ≡ s → ⊥
  cell_away i r c e = let d = subst (λ (j : ℕ). CellOf z p j r) e c in w.away d.map d.holds

  reaches_more : (k r : ℕ) → Reaches z p k r → Reaches z q k r
  reaches_more k r c = record { kind = c.kind; slot = c.slot; cell = cell_more c.slot r c.cell }

  own_is : (k r : ℕ) → (Reaches z q k r × (Reaches z p k r → ⊥)) ↔ Own z q s k r
  own_is k r = (
    λ (c, out).
        let alone : (i : ℕ) → (i ≡ s → ⊥) → CellOf z q i r → ⊥
        = λ i ne d. out (record { kind = c.kind; slot = i; cell = cell_other i r ne d }) in
        record {
          kind = c.kind;
          cell =
              ⊎_elim (λ e. subst (λ (j : ℕ). CellOf z q j r) e c.cell) (λ ne. absurd (alone c.slot ne c.cell))
              (eq? c.slot s);
          unshared = alone;
        },
    λ c. (
      record { kind = c.kind; slot = s; cell = c.cell },
      λ d. c.unshared d.slot (cell_away d.slot r d.cell) (cell_more d.slot r d.cell),
    ),
  )

-- an arena that holds one edition more has as many cells more in use as that edition shares with no other
pub one_more : (p q : List ℕ) → Sound p → Sound q → (z : Shape) → Header p z → Header q z → (s : ℕ) → Beside z p q s → (k n : ℕ) → k < 2
    → (columns z q).used k ≡ (columns z p).used k + n → Number (Own z q s k) n
one_more p q sp sq z hp hq s w k n l e =
    Number-as (own_is z p q s w k)
    (number_more (Reaches-used p sp z hp k) (Reaches-used q sq z hq k) (reaches_more z p q s w k) n e)
