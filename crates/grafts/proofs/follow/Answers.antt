-- `grafts::follow` meets its contract: the bitmap tells the place of the child. Assumes nothing.
use Rattle.layout.proofs.SizeLaws.{has_segment}
use mathlib.Core.Path.{sym, ap, ◌∙◌}
use Rattle.grafts.proofs.StepLaws.{onward_by}
use Rattle.grafts.proofs.follow.Goals as goal
use Rattle.std.specs.Prelude.{Some, Ok}

pub segment_at-segment-requires : goal.segment_at-segment-requires
segment_at-segment-requires c = has_segment _ c.requires.lent.allowed _ c.requires.in_depths

pub returns-in-Ok-Some : goal.returns-in-Ok-Some
returns-in-Ok-Some c = ap Some c.at.ensures ∙ onward_by _ _ _ _ _ _ _ _ c.bits.ensures c.segment_at-segment.ensures (sym c.map_index.ensures ∙ c.in-Ok-Some.is ∙ ap Ok c.in-Ok-Some.field-0-is)

pub returns-in-Ok-None : goal.returns-in-Ok-None
returns-in-Ok-None c = onward_by _ _ _ _ _ _ _ _ c.bits.ensures c.segment_at-segment.ensures (sym c.map_index.ensures ∙ c.in-Ok-None.is ∙ ap Ok c.in-Ok-None.field-0-is)

pub returns-in-Err : goal.returns-in-Err
returns-in-Err c = onward_by _ _ _ _ _ _ _ _ c.bits.ensures c.segment_at-segment.ensures (sym c.map_index.ensures ∙ c.in-Err.is)
