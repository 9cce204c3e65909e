-- `checks::check` meets its contract. Assumes nothing.
use Rattle.std.proofs.Common.{arith}
use Rattle.checks.specs.Terms.{short_work, not_sound, is_sound}
use Rattle.checks.proofs.JudgeLaws.{Works-after}
use Rattle.checks.proofs.check.Goals as goal

pub returns-then-work-z : goal.returns-then-work-z
returns-then-work-z c = short_work _ c.requires c.if-work-z.true

pub returns-then-is_sound : goal.returns-then-is_sound
returns-then-is_sound c =
    let y = c.is_sound.ensures.yes c.if-is_sound.true in
    is_sound _ _ c.requires (omega (arith, c.if-work-z.false)) y.0 y.1

pub returns : goal.returns
returns c =
    not_sound _ _ c.requires (omega (arith, c.if-work-z.false)) (c.is_sound.ensures.no c.if-is_sound.false)
    (Works-after c.is_sound.ensures c.clear.ensures)
