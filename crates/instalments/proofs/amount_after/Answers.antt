use Rattle.instalments.proofs.ReadyLaws.{amount_refused}
use Rattle.instalments.specs.Ready.{AmountReady}
use Rattle.lines.specs.LineNumbers.{most_numbers}
use Rattle.rules.proofs.SameAnswers.{given_back}
use mathlib.Core.List.{List}
use mathlib.Core.Path.{subst}
use Prim.Native.Nat.{ℕ}
use Rattle.instalments.proofs.amount_after.Goals as goal

pub returns-in_err-accepted : goal.returns-in_err-accepted
returns-in_err-accepted c =
    let a = c.args in
    rw (given_back _ c.from_residual.ensures.1) (amount_refused most_numbers a.file.now a.room a.numbers.now c.requires a.count _ _ c.in_err-accepted.ensures)

pub returns : goal.returns
returns c =
    let a = c.args in
    subst (λ (b : List ℕ). AmountReady b a.room a.count c.amount_accepted.new.numbers c.amount_accepted.result) c.in_ok-accepted.ensures c.amount_accepted.ensures
