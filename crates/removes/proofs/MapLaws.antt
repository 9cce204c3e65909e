-- A removal on a map, where the key is there: the result and its size; and what the reading pass makes of what is left.
use Rattle.std.proofs.Common.{◌≡◌, ℕ, zero, suc, ◌+◌, ◌<◌, Bool, true, false, sym, refl, ◌∙◌, arith}
use Rattle.segments.specs.Segments.{segment}
use Rattle.layout.specs.declared.Shape.{Shape}
use Rattle.trie.specs.Entry.{Word64, got}
use Rattle.trie.specs.Trie.{Map, empty, root, Updated, updated, get, size, remove}
use Rattle.trie.specs.Canon.{Canonical}
use Rattle.trie.specs.Cells.{Taken, branches_on, remove_takes}
use Rattle.trie.proofs.MapLaws.{remove_there, size-remove}
use Rattle.prunes.proofs.MapLaws.{left_map, left_root, single_branches}
use Rattle.removes.specs.Calls.{left_branches, is_none_left}

-- remove on a map of this shape, and the cells that it takes
abbrev pub without : Shape → (ℕ → ℕ) → (ℕ → ℕ) → ℕ → ℕ → Map ℕ → Updated ℕ
without z b f h k m = remove (segment z.bits) z.depths b f h k m

abbrev pub takes : Shape → (ℕ → ℕ) → (ℕ → ℕ) → ℕ → ℕ → Map ℕ → Taken
takes z b f h k m = remove_takes (segment z.bits) z.depths b f h k m

-- nothing is left
abbrev pub is_none : Map ℕ → Bool
is_none empty = true
is_none (root n) = false

-- WHAT THE READING PASS MAKES OF WHAT IS LEFT
pub none_left : (c : ℕ) (m : Map ℕ) → is_none_left (left_map c m) ≡ is_none m
none_left c empty = unfold left_map in refl
none_left c (root n) = left_root is_none_left false c n (λ e. refl) refl

pub left_branches_lem : (seg : ℕ → ℕ → ℕ) (d h c : ℕ) (m : Map ℕ) → c ≡ branches_on seg d h m → left_branches (left_map c m) ≡ c
left_branches_lem seg d h c empty q = unfold left_map branches_on in (sym q)
left_branches_lem seg d h c (root n) q =
    left_root left_branches c c n (λ e. sym (q ∙ single_branches seg d h n e)) refl

module _ (seg : ℕ → ℕ → ℕ) (b f : ℕ → ℕ) (h k : ℕ) where
  -- THE RESULT, with any depths
  pub made_there : (d v : ℕ) (m : Map ℕ) → 0 < d → get seg d h k m ≡ got v → (m' : Map ℕ) × (remove seg d b f h k m ≡ updated m')
  made_there zero v m l g = absurd (omega arith)
  made_there (suc d) v m l g = remove_there seg d Word64 b f h k m v g

  pub size_left : (d : ℕ) (m m' : Map ℕ) → 0 < d → Canonical seg Word64 d m → remove seg d b f h k m ≡ updated m'
      → size m' + 1 ≡ size m
  size_left zero m m' l c q = absurd (omega arith)
  size_left (suc d) m m' l c q = size-remove seg d Word64 b f h k m m' q c
