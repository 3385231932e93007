use Rattle.load.proofs.LoadAnswers.{call_made, call_refused}
use mathlib.Core.Path.{◌∙◌, ap, refl, sym}
use Rattle.std.specs.Prelude.{Err}
use Rattle.load.proofs.load.Goals as goal

pub returns-then-wrong_load-clause-answer : goal.returns-then-wrong_load-clause-answer
returns-then-wrong_load-clause-answer c = ap Err c.into.ensures ∙ (call_refused c.args.seed c.args.p c.args.buffer.now _ ((sym c.wrong_load.ensures) ∙ c.if-wrong_load.true) refl).0

pub returns-then-wrong_load-clause-bytes : goal.returns-then-wrong_load-clause-bytes
returns-then-wrong_load-clause-bytes c = (call_refused c.args.seed c.args.p c.args.buffer.now _ ((sym c.wrong_load.ensures) ∙ c.if-wrong_load.true) refl).1

pub returns-clause-answer : goal.returns-clause-answer
returns-clause-answer c = (call_made c.args.seed c.args.p c.args.buffer.now _ ((sym c.wrong_load.ensures) ∙ c.if-wrong_load.false) c.write_load.ensures).0

pub returns-clause-bytes : goal.returns-clause-bytes
returns-clause-bytes c = (call_made c.args.seed c.args.p c.args.buffer.now _ ((sym c.wrong_load.ensures) ∙ c.if-wrong_load.false) c.write_load.ensures).1
