-- `answers::read_numbers` meets its contract: what is read so far, and then what is left of the part, comes to reading all of
-- it from the start.
-- Assumes nothing.
use mathlib.Core.Path.{◌≡◌}
use lib.ListN.{drop}
use Rattle.answers.specs.Lines.{read_of, start}
use Rattle.answers.proofs.read_numbers.Given as given

abbrev pub invariant-loop-b : given.invariant-loop-b
invariant-loop-b l = read_of l.read (drop l.b-index l.part) ≡ read_of start l.part
