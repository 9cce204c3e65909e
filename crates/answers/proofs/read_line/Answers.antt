-- `answers::read_line` meets its contract: at each `return` the letter and the numbers are those by which `made_of` picks its
-- case, and the line ends where `find` found its newline.
-- Assumes nothing.
use mathlib.Core.Path.{refl, ◌∙◌, ap}
use native.Mathlib.Omega.{arith}
use Rattle.answers.specs.declared.Line.{Line}
use Rattle.answers.proofs.ReadLaws.{made_comment, made_wrong, made_right, line_made}
use Rattle.answers.proofs.read_line.Goals as goal

pub returns-then-letter-eq35 : goal.returns-then-letter-eq35
returns-then-letter-eq35 c =
    let found = c.find-end in
    let next = c.behind-next in record {
      answers = line_made _ _ found.result next.result _ _ found.ensures.answers next.ensures.answers refl
          (c.bare.ensures ∙ made_comment _ _ _ c.if-letter-eq35.true);
      goes_on = omega (arith, ap (λ (l : Line). l.next) c.bare.ensures);
      in_text = omega (arith, ap (λ (l : Line). l.next) c.bare.ensures);
    }

pub returns-then-read : goal.returns-then-read
returns-then-read c =
    let found = c.find-end in
    let next = c.behind-next in
    let numbers = c.read_numbers-read in record {
      answers = line_made _ _ found.result next.result numbers.result _ found.ensures.answers next.ensures.answers numbers.ensures
          (c.bare-then-read.ensures ∙ made_wrong _ _ _ c.if-letter-eq35.false c.if-read.true);
      goes_on = omega (arith, ap (λ (l : Line). l.next) c.bare-then-read.ensures);
      in_text = omega (arith, ap (λ (l : Line). l.next) c.bare-then-read.ensures);
    }

pub returns : goal.returns
returns c =
    let found = c.find-end in
    let next = c.behind-next in
    let numbers = c.read_numbers-read in record {
      answers = line_made _ _ found.result next.result numbers.result _ found.ensures.answers next.ensures.answers numbers.ensures
          (made_right _ _ numbers.result c.if-letter-eq35.false c.if-read.false);
      goes_on = omega arith;
      in_text = omega arith;
    }
