use Rattle.rules.proofs.DayPromises.{file_refused}
use Rattle.rules.proofs.SameAnswers.{given_back}
use mathlib.Core.Path.{◌∙◌, refl, sym}
use Rattle.day.proofs.apply_day.Goals as goal

pub returns-in_err-l-clause-answer : goal.returns-in_err-l-clause-answer
returns-in_err-l-clause-answer c =
    given_back _ c.from_residual.ensures.1
    ∙ (file_refused c.args.file.now c.args.d _ _ _ (sym c.read_file.ensures ∙ c.in_err-l.was) refl).0

pub returns-in_err-l-clause-bytes : goal.returns-in_err-l-clause-bytes
returns-in_err-l-clause-bytes c = (file_refused c.args.file.now c.args.d _ _ _ (sym c.read_file.ensures ∙ c.in_err-l.was) refl).1

pub day_of_accepted-requires : goal.day_of_accepted-requires
day_of_accepted-requires c = sym c.read_file.ensures ∙ c.in_ok-l.was
