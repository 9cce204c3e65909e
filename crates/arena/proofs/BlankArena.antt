-- An arena that has just been formatted is sound, holds nothing, and shows no edition: its columns are those of `Blank`.
use Prim.Native.Nat.{ℕ, ◌+◌, ◌≤◌}
use mathlib.Core.Path.{◌≡◌, refl, ◌∙◌}
use mathlib.Core.Bool.{Bool, true, false, cond}
use mathlib.Core.List.{List}
use mathlib.Core.Logic.{inl, ⊎_elim}
use native.Mathlib.Omega.{arith}
use lib.Dec.{ltb}
use lib.ListN.{length}
use Rattle.cases.proofs.Cases.{lt?}
use Rattle.layout.specs.declared.Shape.{Shape}
use Rattle.layout.specs.Layout.{kind_of, total, Allowed}
use Rattle.layout.specs.Columns.{columns, kid_place, plains_of, plain_place, refs}
use Rattle.layout.specs.Blank.{blank}
use Rattle.layout.proofs.SizeLaws.{small}
use Rattle.layout.proofs.StoreLaws.{kind_in, kind_out}
use Rattle.layout.proofs.BlankLaws.{blank_slot, blank_rest, blank_next, blank_last, blank_first, blank_used, blank_right}
use Rattle.trie.specs.Trie.{Map}
use Rattle.arena.specs.Shows.{Edition}
use Rattle.arena.specs.Sound.{Sound}
use Rattle.arena.proofs.Formatted.{Blank, ascending, blank_Local, blank_free}
use Rattle.arena.proofs.Equivalent.{local_sound}

either_zero : (b : Bool) (v : ℕ) → v ≡ 0 → cond b v 0 ≡ 0
either_zero true v e = e
either_zero false v e = refl

module _ (z : Shape) (a : List ℕ) (w : Allowed z) where
  pub blank-columns : Blank z (columns z (blank z a))
  blank-columns =
      record {
        some_degree = omega (arith, (small z w).degree_low);
        some_branches = w.some_branches;
        some_entries = w.some_entries;
        first_cell = λ k l. kind_in (blank z a) 8 k l ∙ blank_first z a k l;
        first_none = λ k l. kind_out (blank z a) 8 k l;
        no_used =
            λ k. ⊎_elim (λ l. kind_in (blank z a) 10 k l ∙ blank_used z a k l) (λ l. kind_out (blank z a) 10 k l) (lt? k 2);
        no_held = λ s. blank_slot z a s 0 (omega (arith, w.wide));
        no_root = λ s. blank_slot z a s 1 (omega (arith, w.wide));
        no_size = λ s. blank_slot z a s 2 (omega (arith, w.wide));
        no_count = λ r. blank_rest z a r 0 (λ e. omega arith);
        next_cell = λ k c l m. blank_next z a k c l m;
        last_cell = λ k c l e. blank_last z a k c l e;
        no_kid = λ r k. either_zero (ltb k (refs z r)) _ (blank_rest z a r (kid_place (kind_of r) + k) (λ e. omega arith));
        no_plain = λ r k. either_zero (ltb k (plains_of (kind_of r))) _ (blank_rest z a r (plain_place (kind_of r) + k) (λ e. omega arith));
      }

  -- its shape is the one it was formatted with, so this is an abbreviation
  abbrev pub blank_sound : z.stride ≡ 3 → total z ≤ length a → Sound (blank z a)
  blank_sound three long =
      local_sound (blank z a)
      (record {
        shape = z;
        header = blank_right z a w three long;
        slots = λ s l. inl (blank_free z (columns z (blank z a)) blank-columns s);
        free = ascending z;
        local = blank_Local z (columns z (blank z a)) blank-columns;
      })

  pub blank_no_Edition : (s : ℕ) (m : Map ℕ) → Edition z (columns z (blank z a)) s m → ⊥
  blank_no_Edition s m e = omega (arith, e.held, blank-columns.no_held s)
