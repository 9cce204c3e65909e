-- The table has, for each kind, what the definitions say of it.
use Prim.Native.Nat.{ℕ, zero, suc, ◌+◌, ◌<◌}
use native.Mathlib.Omega.{arith}
use mathlib.Core.Path.{◌≡◌, refl}
use mathlib.Core.List.{List}
use lib.ListN.{get_or}
use Rattle.layout.specs.declared.Shape.{Shape}
use Rattle.layout.specs.Layout.{kind_of, width_of, cells_of, cells_at}
use Rattle.layout.specs.Table.{table_of}

by_kind : (z : Shape) (t : List ℕ) (k : ℕ) → t ≡ table_of z → k < 2
    → (get_or t (0 + k) 0 ≡ cells_of z k) × (get_or t (2 + k) 0 ≡ cells_at z k) × (get_or t (4 + k) 0 ≡ width_of z k)
by_kind z t zero e l = rw e (refl, refl, refl)
by_kind z t (suc zero) e l = rw e (refl, refl, refl)
by_kind z t (suc (suc k)) e l = absurd (omega arith)

module _ (z : Shape) (t : List ℕ) (r : ℕ) (e : t ≡ table_of z) where
  pub cells_picked : get_or t (0 + kind_of r) 0 ≡ cells_of z (kind_of r)
  cells_picked = (by_kind z t (kind_of r) e (omega arith)).0

  pub place_picked : get_or t (2 + kind_of r) 0 ≡ cells_at z (kind_of r)
  place_picked = (by_kind z t (kind_of r) e (omega arith)).1

  pub width_picked : get_or t (4 + kind_of r) 0 ≡ width_of z (kind_of r)
  width_picked = (by_kind z t (kind_of r) e (omega arith)).2
