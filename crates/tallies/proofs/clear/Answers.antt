-- `tallies::clear` meets its contract: as many words in front as there are cells are written, all with 0. Assumes nothing.
use Prim.Native.Nat.{ℕ}
use mathlib.Core.Path.{ap, ◌∙◌}
use lib.ListN.{replicate}
use Rattle.std.proofs.lemmas.List.{length-take-le}
use Rattle.tallies.proofs.WorkLaws.{Works-zeros}
use Rattle.tallies.proofs.clear.Goals as goal

pub returns : goal.returns
returns c =
    Works-zeros c.args.z c.args.work.now _ c.requires.work_fits
    (c.fill.ensures.after (λ y e. e) ∙ ap (λ (n : ℕ). replicate n 0) (length-take-le _ c.args.work.now c.requires.work_fits))
