-- Hashes that leave the same remainder have the same segments, so the paths through the depths that the remainder covers are
-- one; a path is as long as its depths, and its hash goes along it.
use Rattle.std.proofs.Common.{◌≡◌, ℕ, zero, suc, ◌+◌, ◌*◌, ◌/◌, ◌%◌, ◌^◌, true, length, sym, refl, ap, ◌∙◌, arith, eqb-true}
use lib.Pow.{field, mod-mod-pow}
use Rattle.segments.specs.Segments.{segment}
use Rattle.trie.specs.Canon.{Under}
use Rattle.layout.specs.declared.Shape.{Shape}
use Rattle.levels.specs.Levels.{same_prefix}
use Rattle.levels.proofs.Paths.{path_of}

-- SEGMENTS. The remainder by one more depth gives this depth's segment and the remainder before it.
step : (bits t : ℕ) → suc t * bits ≡ bits + t * bits
step bits t = omega arith

remainder_segment : (bits t h : ℕ) → h % 2 ^ (suc t * bits) / 2 ^ (t * bits) ≡ segment bits t h
unfolding segment
remainder_segment bits t h = rw (step bits t) (field h bits (t * bits))

remainder_before : (bits t h : ℕ) → h % 2 ^ (suc t * bits) % 2 ^ (t * bits) ≡ h % 2 ^ (t * bits)
remainder_before bits t h = rw (step bits t) (mod-mod-pow h bits (t * bits))

-- PATHS
same_path : (bits t g h : ℕ) → h % 2 ^ (t * bits) ≡ g % 2 ^ (t * bits) → path_of bits t h ≡ path_of bits t g
unfolding path_of
same_path bits zero g h e = refl
same_path bits (suc t) g h e =
    let a : segment bits t h ≡ segment bits t g
    = sym (remainder_segment bits t h) ∙ ap (λ (x : ℕ). x / 2 ^ (t * bits)) e ∙ remainder_segment bits t g in
    let b : h % 2 ^ (t * bits) ≡ g % 2 ^ (t * bits)
    = sym (remainder_before bits t h) ∙ ap (λ (x : ℕ). x % 2 ^ (t * bits)) e ∙ remainder_before bits t g in
    rw (a, same_path bits t g h b)

pub prefix_path : (z : Shape) (t g h : ℕ) → same_prefix z t g h ≡ true → path_of z.bits t h ≡ path_of z.bits t g
unfolding same_prefix
prefix_path z t g h e = same_path z.bits t g h (eqb-true _ _ e)

pub path_length : (bits t h : ℕ) → length (path_of bits t h) ≡ t
unfolding path_of
path_length bits zero h = refl
path_length bits (suc t) h = ap suc (path_length bits t h)

pub path_Under : (bits t h : ℕ) → Under (segment bits) (path_of bits t h) h
unfolding path_of Under
path_Under bits zero h = tt
path_Under bits (suc t) h = (ap (λ (j : ℕ). segment bits j h) (path_length bits t h), path_Under bits t h)
