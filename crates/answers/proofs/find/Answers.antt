-- `answers::find` meets its contract: the search of the part behind `from` answers the newline's place in it.
use Rattle.std.proofs.Common.{◌∙◌, sym, ap}
use Rattle.std.proofs.lemmas.List.{take_rest}
use Rattle.answers.specs.Lines.{newline_of}
use Rattle.answers.proofs.ReadLaws.{newline_found, newline_missing}
use Rattle.answers.proofs.find.Goals as goal

pub returns-in-Some-clause-answers : goal.returns-in-Some-clause-answers
returns-in-Some-clause-answers c = newline_found c.args.text.now _ _ (ap newline_of (sym (take_rest _ c.args.from)) ∙ sym c.newline.ensures ∙ c.in-Some.is)

pub returns-in-None-clause-answers : goal.returns-in-None-clause-answers
returns-in-None-clause-answers c = newline_missing c.args.text.now _ c.requires (ap newline_of (sym (take_rest _ c.args.from)) ∙ sym c.newline.ensures ∙ c.in-None.is)
