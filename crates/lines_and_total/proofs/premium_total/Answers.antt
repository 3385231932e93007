use Rattle.lines_and_total.proofs.SettleLaws.{premiums_or_none}
use Rattle.std.specs.Prelude.{Result}
use Rattle.std.specs.Result.{result_unwrap_or}
use Rattle.rules.specs.declared.Refused.{Refused}
use mathlib.Core.Path.{ap, ◌∙◌}
use Prim.Native.Nat.{ℕ}
use Rattle.lines_and_total.proofs.premium_total.Goals as goal

pub returns : goal.returns
returns c = c.unwrap_or.ensures ∙ ap (λ (x : Result ℕ Refused). result_unwrap_or x 0) c.premium_answer.ensures ∙ premiums_or_none c.args.file.now
