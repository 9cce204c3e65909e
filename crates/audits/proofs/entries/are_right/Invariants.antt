-- `audits::entries::are_right` meets its contract: what is left of the entries decides as all do, and those passed hold 64-bit
-- words. Assumes nothing.
use Prim.Native.Nat.{ℕ, ◌-◌, ◌<◌}
use mathlib.Core.Path.{◌≡◌}
use Rattle.trie.specs.Entry.{Word64}
use Rattle.layout.specs.Layout.{reference}
use Rattle.layout.specs.Columns.{columns}
use Rattle.lookup.specs.Lookup.{entry_at}
use Rattle.audits.specs.Audits.{all_from, entry_right, entries_right}
use Rattle.audits.proofs.entries.are_right.Given as given

abbrev pub invariant-loop-i : given.invariant-loop-i
invariant-loop-i l = record {
  right : entries_right l.z (columns l.z l.a) ≡ all_from (λ j. entry_right l.z (columns l.z l.a) (reference 1 j)) l.i (l.z.entries - l.i);
  fit : (j : ℕ) → j < l.i → Word64 (entry_at (columns l.z l.a) (reference 1 j));
}
