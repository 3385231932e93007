use Prim.Native.Nat.{ℕ, ◌*◌, ◌≤◌}
use mathlib.Core.Path.{◌≡◌, refl}
use native.Mathlib.Nat.{mul-le-mul}
use native.Mathlib.Numerals.{add-one}
use native.Mathlib.Omega.{arith}
use Rattle.factors.proofs.Multiplied.{growth_most}
use Rattle.factors.specs.Factors.{multiplied}
use Rattle.factors.specs.Numbers.{GrowthAsked, most_growth}
use Rattle.factors.proofs.growth.growth.Goals as goal

product-most : (r d n x k : ℕ) → GrowthAsked r d n → x ≡ multiplied r d k → k ≤ n → x * d ≤ 32_020_578_240_000_000
product-most r d n x k h e l =
    mul-le-mul {n₂ = most_growth}
    (omega (arith, e, growth_most r d k h.rounding_most h.daily_most (omega (arith, h.days_most)))) h.daily_most

pub loop-init : goal.loop-init
unfolding multiplied
loop-init c = refl

pub overflow_mul-x : goal.overflow_mul-x
overflow_mul-x c =
    let a = c.args in
    omega (arith, product-most a.rounding a.d a.n c.loop.x c.loop.counter c.requires c.loop.invariant c.loop.auto.counter-end)

pub overflow_add-x : goal.overflow_add-x
overflow_add-x c =
    let a = c.args in
    omega
    (arith, c.requires.rounding_most, product-most a.rounding a.d a.n c.loop.x c.loop.counter c.requires c.loop.invariant c.loop.auto.counter-end)

pub loop-preserved : goal.loop-preserved
unfolding multiplied
loop-preserved c = rw (add-one c.loop.counter, c.loop.invariant) refl
