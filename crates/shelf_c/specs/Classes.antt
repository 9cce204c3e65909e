-- The class of a tag as a number and two values: "0 public, 1 creator, 2 private element, 3 unassigned", then the block and the low
-- byte where the class has them.
use Rattle.std.specs.Prelude.{ℕ}
use Rattle.replies.specs.Answers.{Answer, answer}
use Rattle.tags.specs.declared.Class.{Class}
use Rattle.tags.specs.declared.Class.TheVariants.{Public, Creator, Element, Unassigned}

abbrev pub classed : Class → Answer
classed Public = answer 0 0 0 0
classed (Creator block) = answer 0 1 block 0
classed (Element block low) = answer 0 2 block low
classed Unassigned = answer 0 3 0 0

abbrev pub keyed : ℕ → Answer
keyed key = answer 0 key 0 0
