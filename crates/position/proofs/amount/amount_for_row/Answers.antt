use Rattle.position.proofs.RowsFit.{answer_read_lem, no_row, row_there}
use Rattle.rules.proofs.SameAnswers.{given_back}
use Rattle.rules.specs.OnePosition.{amount_answer}
use Prim.Native.Nat.{ℕ}
use mathlib.Core.List.{List}
use mathlib.Core.Path.{ap, sym, ◌∙◌}
use native.Mathlib.Omega.{arith}
use Rattle.std.specs.Prelude.{Err, Ok}
use Rattle.position.proofs.amount.amount_for_row.Goals as goal

pub returns-in_err-accepted : goal.returns-in_err-accepted
returns-in_err-accepted c =
    let e = given_back _ c.from_residual.ensures.1 in
    (e ∙ sym (answer_read_lem c.args.file.now c.args.row _ c.in_err-accepted.ensures), rw e (omega arith))

pub returns-then-accepted-row : goal.returns-then-accepted-row
returns-then-accepted-row c =
    let file = c.in_ok-accepted.accepted in (
      ap Err c.into.ensures
          ∙ no_row file.bytes.now c.args.row _ file.accepted c.if-accepted-row.true
          ∙ ap (λ (b : List ℕ). amount_answer b c.args.row) c.in_ok-accepted.ensures,
      omega arith,
    )

pub returns : goal.returns
returns c =
    let file = c.in_ok-accepted.accepted in (
      ap Ok c.row_amount.ensures.0
          ∙ row_there file.bytes.now c.args.row _ file.accepted c.if-accepted-row.false
          ∙ ap (λ (b : List ℕ). amount_answer b c.args.row) c.in_ok-accepted.ensures,
      c.row_amount.ensures.1,
    )
