use Rattle.lines_and_total.proofs.SettleLaws.{premium_answered}
use Rattle.rules.proofs.SameAnswers.{given_back}
use Rattle.rules.specs.Lines.{premium_answer}
use mathlib.Core.Path.{◌∙◌, ap, sym}
use Rattle.lines_and_total.proofs.premium_answer.Goals as goal
use Rattle.std.specs.Prelude.{Ok}

pub returns : goal.returns
returns c =
    let file = c.in_ok-accepted.accepted in
    ap Ok c.premium_sum.ensures.0
    ∙ sym (premium_answered file.bytes.now _ file.accepted)
    ∙ ap premium_answer c.in_ok-accepted.ensures

pub returns-in_err-accepted : goal.returns-in_err-accepted
returns-in_err-accepted c = given_back _ c.from_residual.ensures.1 ∙ sym (premium_answered c.args.file.now _ c.in_err-accepted.ensures)
