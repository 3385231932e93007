use Rattle.account.proofs.KnownRows.{known}
use Rattle.rules.proofs.DayPromises.{day_applied, prices_refused}
use borrow.Author.Tests.{lt-leb}
use native.Mathlib.Omega.{arith}
use mathlib.Core.Path.{◌∙◌, ap, refl, sym}
use Rattle.std.specs.Prelude.{Err}
use Rattle.day.proofs.day_of_accepted.Goals as goal

pub returns-then-wrong-clause-answer : goal.returns-then-wrong-clause-answer
returns-then-wrong-clause-answer c = ap Err c.into-then-wrong.ensures ∙ (prices_refused c.args.file.now c.args.d c.args.l c.requires _ (lt-leb c.args.l.series c.args.d.series (omega arith)) ((sym c.wrong_day-wrong.ensures) ∙ c.if-wrong.true) refl).0

pub returns-then-wrong-clause-bytes : goal.returns-then-wrong-clause-bytes
returns-then-wrong-clause-bytes c = (prices_refused c.args.file.now c.args.d c.args.l c.requires _ (lt-leb c.args.l.series c.args.d.series (omega arith)) ((sym c.wrong_day-wrong.ensures) ∙ c.if-wrong.true) refl).1

pub write_day-requires : goal.write_day-requires
write_day-requires c = (known c.args.file.now c.args.l c.requires, omega arith)

pub returns-clause-answer : goal.returns-clause-answer
returns-clause-answer c = (day_applied c.args.file.now c.args.d c.args.l c.requires _ (lt-leb c.args.l.series c.args.d.series (omega arith)) ((sym c.wrong_day-wrong.ensures) ∙ c.if-wrong.false) c.write_day.ensures).0

pub returns-clause-bytes : goal.returns-clause-bytes
returns-clause-bytes c = (day_applied c.args.file.now c.args.d c.args.l c.requires _ (lt-leb c.args.l.series c.args.d.series (omega arith)) ((sym c.wrong_day-wrong.ensures) ∙ c.if-wrong.false) c.write_day.ensures).1
