use Rattle.rules.proofs.Chain.{stops, passes}
use Rattle.rules.specs.Refusals.{matched_fault}
use mathlib.Core.Path.{refl}
use Rattle.account.proofs.faults.matched_fault.Goals as goal

pub returns-then-wrong_range : goal.returns-then-wrong_range
unfolding matched_fault
returns-then-wrong_range c = stops _ _ _ _ c.wrong_range.ensures c.if-wrong_range.true

pub returns-then-wrong_limiter : goal.returns-then-wrong_limiter
unfolding matched_fault
returns-then-wrong_limiter c = passes _ _ _ _ _ c.wrong_range.ensures c.if-wrong_range.false (stops _ _ _ _ c.wrong_limiter.ensures c.if-wrong_limiter.true)

pub returns-then-wrong_barrier_price : goal.returns-then-wrong_barrier_price
unfolding matched_fault
returns-then-wrong_barrier_price c = passes _ _ _ _ _ c.wrong_range.ensures c.if-wrong_range.false (passes _ _ _ _ _ c.wrong_limiter.ensures c.if-wrong_limiter.false (stops _ _ _ _ c.wrong_barrier_price.ensures c.if-wrong_barrier_price.true))

pub returns-then-wrong_barrier_side : goal.returns-then-wrong_barrier_side
unfolding matched_fault
returns-then-wrong_barrier_side c = passes _ _ _ _ _ c.wrong_range.ensures c.if-wrong_range.false (passes _ _ _ _ _ c.wrong_limiter.ensures c.if-wrong_limiter.false (passes _ _ _ _ _ c.wrong_barrier_price.ensures c.if-wrong_barrier_price.false (stops _ _ _ _ c.wrong_barrier_side.ensures c.if-wrong_barrier_side.true)))

pub returns : goal.returns
unfolding matched_fault
returns c = passes _ _ _ _ _ c.wrong_range.ensures c.if-wrong_range.false (passes _ _ _ _ _ c.wrong_limiter.ensures c.if-wrong_limiter.false (passes _ _ _ _ _ c.wrong_barrier_price.ensures c.if-wrong_barrier_price.false (passes _ _ _ _ _ c.wrong_barrier_side.ensures c.if-wrong_barrier_side.false refl)))
