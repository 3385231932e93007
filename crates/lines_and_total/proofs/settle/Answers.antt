use Rattle.lines_and_total.proofs.SettleLaws.{settled_refused}
use Rattle.lines_and_total.specs.Settled.{Settled}
use Rattle.rules.proofs.SameAnswers.{given_back}
use mathlib.Core.List.{List}
use mathlib.Core.Path.{subst}
use Prim.Native.Nat.{ℕ}
use Rattle.lines_and_total.proofs.settle.Goals as goal

pub returns-in_err-accepted : goal.returns-in_err-accepted
returns-in_err-accepted c =
    let a = c.args in
    rw (given_back _ c.from_residual.ensures.1) (settled_refused a.file.now a.room a.numbers.now c.requires _ _ c.in_err-accepted.ensures)

pub settle_accepted-requires : goal.settle_accepted-requires
settle_accepted-requires c = c.requires

pub returns : goal.returns
returns c = subst (λ (b : List ℕ). Settled b c.args.room c.settle_accepted.new.numbers c.settle_accepted.result) c.in_ok-accepted.ensures c.settle_accepted.ensures
