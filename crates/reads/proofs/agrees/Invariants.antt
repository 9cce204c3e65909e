-- `reads::agrees` meets its contract: what is still to be compared decides as the whole does. Assumes nothing.
use mathlib.Core.Path.{◌≡◌}
use Rattle.iter.specs.Met.{still, Settled}
use Rattle.trie.specs.Trie.{every}
use Rattle.reads.specs.Agrees.{agree, is_entry_in}
use Rattle.reads.proofs.agrees.Given as given

abbrev pub invariant-loop-z : given.invariant-loop-z
invariant-loop-z l = (agree l.z l.a l.first l.second ≡ every (is_entry_in l.z l.a l.second) (still l.z l.a l.walk)) × Settled l.z l.walk

abbrev pub decreases-loop-z : given.decreases-loop-z
decreases-loop-z l = l.walk.left
