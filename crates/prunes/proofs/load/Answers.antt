use Rattle.layout.specs.Columns.{columns}
use Rattle.layout.proofs.SizeLaws.{small}
use Rattle.prunes.specs.Prunes.{out_at}
use Rattle.grafts.proofs.StepLaws.{IsRow-next}
use Rattle.std.proofs.Common.{arith}
use Rattle.prunes.proofs.load.Goals as goal

pub out-requires : goal.out-requires
out-requires c = record { lent = c.requires; in_row = omega (arith, c.loop-k-test.true, (small _ c.requires.allowed).degree_high) }

pub bounds-row-k : goal.bounds-row-k
bounds-row-k c = omega (arith, c.loop-k-test.true, (small _ c.requires.allowed).degree_high)

pub loop-k-preserved : goal.loop-k-preserved
loop-k-preserved c = IsRow-next (out_at c.args.z (columns c.args.z c.args.a.now) c.args.r c.args.at) c.loop-k.row c.loop-k.k c.out.result (omega (arith, c.loop-k-test.true, (small _ c.requires.allowed).degree_high)) c.out.ensures c.loop-k.invariant
