-- `reads::list` meets its contract: to the first entry, past those before the place, and then written. Assumes nothing.
use Rattle.reads.proofs.WriteLaws.{listed_whole}
use Rattle.reads.proofs.list.Goals as goal

as-answers-leaves : {T0 T1 : Type 0} → T0 × T1 → record { answers : T0; leaves : T1 }
as-answers-leaves p = record { answers = p.0; leaves = p.1 }

pub returns : goal.returns
returns c = as-answers-leaves (listed_whole c.args.place c.args.out.now c.start-walk.ensures.still_to_come c.skip.ensures.still_to_come (c.write.ensures.answers, c.write.ensures.leaves))
