-- `shelf_c::of_class` meets its contract: each class is flattened as `classed` says; a byte is the same number in 64 bits. Assumes
-- nothing.
use mathlib.Core.Path.{ap, sym, ◌∙◌}
use Rattle.shelf_c.specs.Classes.{classed}
use Rattle.shelf_c.proofs.of_class.Goals as goal

pub returns-in-Public : goal.returns-in-Public
returns-in-Public c = c.done.ensures ∙ ap classed (sym c.in-Public.is)

pub returns-in-Creator : goal.returns-in-Creator
returns-in-Creator c = c.done-in-Creator.ensures ∙ ap classed (sym c.in-Creator.is)

pub returns-in-Element : goal.returns-in-Element
returns-in-Element c = c.done-in-Element.ensures ∙ ap classed (sym c.in-Element.is)

pub returns-in-Unassigned : goal.returns-in-Unassigned
returns-in-Unassigned c = c.done-in-Unassigned.ensures ∙ ap classed (sym c.in-Unassigned.is)
