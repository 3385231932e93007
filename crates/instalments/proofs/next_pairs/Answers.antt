use Rattle.instalments.proofs.ReadyLaws.{pairs_refused}
use Rattle.instalments.specs.Ready.{PairsReady}
use Rattle.lines.specs.LineNumbers.{most_pair_numbers}
use Rattle.rules.proofs.SameAnswers.{given_back}
use mathlib.Core.List.{List}
use mathlib.Core.Path.{subst}
use Prim.Native.Nat.{ℕ}
use Rattle.instalments.proofs.next_pairs.Goals as goal

pub returns-in_err-accepted : goal.returns-in_err-accepted
returns-in_err-accepted c =
    let a = c.args in
    rw (given_back _ c.from_residual.ensures.1) (pairs_refused most_pair_numbers a.file.now a.room a.numbers.now c.requires a.count a.allowance _ _ c.in_err-accepted.ensures)

pub returns : goal.returns
returns c =
    let a = c.args in
    subst (λ (b : List ℕ). PairsReady b a.room a.count a.allowance c.next_accepted.new.numbers c.next_accepted.result) c.in_ok-accepted.ensures c.next_accepted.ensures
