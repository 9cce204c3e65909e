-- Two hashes with the segments of one path have one remainder by 2 to the power of the bits that the path takes.
use Rattle.std.proofs.Common.{◌≡◌, ℕ, suc, ◌+◌, ◌*◌, ◌%◌, ◌^◌, true, List, [], ◌∷◌, length, arith, eq-eqb}
use lib.Pow.{mod-pow-add}
use Rattle.segments.specs.Segments.{segment}
use Rattle.layout.specs.declared.Shape.{Shape}
use Rattle.trie.specs.Canon.{Under}
use Rattle.levels.specs.Levels.{same_prefix}

-- one more segment above a remainder
remainder_step : (bits t h : ℕ) → h % 2 ^ (suc t * bits) ≡ segment bits t h * 2 ^ (t * bits) + h % 2 ^ (t * bits)
unfolding segment
remainder_step bits t h = let e : suc t * bits ≡ bits + t * bits = omega arith in rw e (mod-pow-add h bits (t * bits))

same_remainder : (bits : ℕ) (path : List ℕ) (g h : ℕ) → Under (segment bits) path g → Under (segment bits) path h
    → h % 2 ^ (length path * bits) ≡ g % 2 ^ (length path * bits)
unfolding Under
same_remainder bits [] g h u v = let e : 0 * bits ≡ 0 = omega arith in rw e (omega arith)
same_remainder bits (s ∷ path) g h u v =
    rw (
      remainder_step bits (length path) g,
      remainder_step bits (length path) h,
      u.0,
      v.0,
      same_remainder bits path g h u.1 v.1,
    )

pub same_prefix_lem : (z : Shape) (path : List ℕ) (g h : ℕ) → Under (segment z.bits) path g → Under (segment z.bits) path h
    → same_prefix z (length path) g h ≡ true
unfolding same_prefix
same_prefix_lem z path g h u v = eq-eqb _ _ (same_remainder z.bits path g h u v)
