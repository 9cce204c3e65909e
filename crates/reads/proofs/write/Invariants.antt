-- `reads::write` meets its contract: what is written and what is still to come make up the whole. Assumes nothing.
use Prim.Native.Nat.{◌*◌}
use Rattle.reads.proofs.WriteLaws.{Rest}
use Rattle.iter.specs.Met.{still, Settled}
use Rattle.reads.proofs.write.Given as given

abbrev pub invariant-loop-k : given.invariant-loop-k
invariant-loop-k l = Rest l.initial.out l.out (still l.z l.a l.initial.walk) (still l.z l.a l.walk) (3 * l.k) l.k × Settled l.z l.walk
