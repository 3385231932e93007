use Rattle.account.proofs.KnownRows.{known}
use Prim.Native.Nat.{◌+◌}
use Rattle.rules.proofs.Sums.{sum_to_more}
use Rattle.rules.specs.File.{account_of}
use Rattle.rules.specs.Lines.{premium_at, premiums, sum_to}
use mathlib.Core.Path.{◌≡◌, refl, sym, ap, ap₂, ◌∙◌}
use native.Mathlib.Omega.{arith}
use Rattle.lines_and_total.proofs.premium.premium_sum.Goals as goal

pub loop-row-init : goal.loop-row-init
unfolding sum_to
loop-row-init c = (refl, omega arith)

pub loop-row-preserved : goal.loop-row-preserved
loop-row-preserved c = let a = c.args in let o = c.loop-row in let f = premium_at (account_of a.file.now.bytes.now a.file.now.layout) in (ap₂ (λ x y. x + y) o.invariant.0 c.row_premium-total.ensures.0 ∙ sym (sum_to_more f o.row), omega (arith, o.invariant.1, c.row_premium-total.ensures.1))

pub returns : goal.returns
unfolding premiums
returns c = let a = c.args in let o = c.loop-row in let e : o.row ≡ a.file.now.layout.positions = omega (arith, o.auto.row-end, c.loop-row-test.false) in (o.invariant.0 ∙ ap (sum_to (premium_at (account_of a.file.now.bytes.now a.file.now.layout))) e, omega (arith, o.auto.row-end, o.invariant.1, (known _ _ a.file.now.accepted).placed.positions_most))

pub overflow_add-total : goal.overflow_add-total
overflow_add-total c =
    omega (arith, c.loop-row.invariant.1, c.row_premium-total.ensures.1, c.loop-row-test.true, (known _ _ c.args.file.now.accepted).placed.positions_most)
