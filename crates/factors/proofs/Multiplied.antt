-- Multiplications by a daily factor, each rounded: they rise with the rounding, the factor and their number.
-- Assumes nothing.
use Prim.Native.Nat.{ℕ, zero, suc, ◌+◌, ◌*◌, ◌-◌, ◌/◌, ◌≤◌, zero-le}
use lib.Dec.{lit≤}
use native.Mathlib.Nat.{add-sub_of_le, add-suc, add-zero, mul-le-mul, mul-le-mul_left}
use native.Mathlib.Omega.{arith}
use Rattle.factors.specs.Factors.{down, multiplied, one, up}
use Rattle.factors.specs.Numbers.{most_daily, most_growth}
use Rattle.roots.specs.Roots.{most_days}

-- One division, with the product as one number.
quotient_most : (a b r s : ℕ) → a ≤ b → r ≤ s → (a + r) / one ≤ (b + s) / one
quotient_most a b r s h k = omega arith

down_back : (a : ℕ) → (a + down) / one * one ≤ a
down_back a = omega arith

up_back : (a : ℕ) → a ≤ (a + up) / one * one
up_back a = omega arith

not_below : (x a r : ℕ) → x * one ≤ a → x ≤ (a + r) / one
not_below x a r h = omega arith

-- A multiplication rounded down is at most the exact one, rounded up at least.
pub down_step : (d n : ℕ) → multiplied down d (suc n) * one ≤ multiplied down d n * d
unfolding multiplied
down_step d n = down_back (multiplied down d n * d)

pub up_step : (d n : ℕ) → multiplied up d n * d ≤ multiplied up d (suc n) * one
unfolding multiplied
up_step d n = up_back (multiplied up d n * d)

pub rises : (r s d e n : ℕ) → r ≤ s → d ≤ e → multiplied r d n ≤ multiplied s e n
unfolding multiplied
rises r s d e zero k h = omega arith
rises r s d e (suc n) k h =
    quotient_most (multiplied r d n * d) (multiplied s e n * e) r s (mul-le-mul (rises r s d e n k h) h) k

-- By a factor of 1 or more they do not fall with their number.
module _ (r d : ℕ) (h : one ≤ d) where
  next_day : (n : ℕ) → multiplied r d n ≤ multiplied r d (suc n)
  unfolding multiplied
  next_day n = not_below (multiplied r d n) (multiplied r d n * d) r (mul-le-mul_left (multiplied r d n) h)

  days_by : (n k : ℕ) → multiplied r d n ≤ multiplied r d (n + k)
  days_by n zero = rw add-zero (omega arith)
  days_by n (suc k) = rw add-suc (omega (arith, days_by n k, next_day (n + k)))

  pub days : (n m : ℕ) → n ≤ m → multiplied r d n ≤ multiplied r d m
  days n m l = rw (← add-sub_of_le l) (days_by n (m - n))

  pub one_least : (n : ℕ) → one ≤ multiplied r d n
  unfolding multiplied
  one_least n = days 0 n zero-le

-- The largest growth: the largest daily factor of the four rows, at 1,800 days.
largest : multiplied up most_daily most_days ≤ most_growth
unfolding multiplied
largest = lit≤ tt

pub growth_most : (r d n : ℕ) → r ≤ up → d ≤ most_daily → n ≤ most_days → multiplied r d n ≤ most_growth
growth_most r d n k h l =
    omega (arith, rises r up d most_daily n k h, days up most_daily (lit≤ tt) n most_days l, largest)
