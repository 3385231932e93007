-- What functions of this crate require, so that every step fits 64 bits, and what a code's numbers are.
use Rattle.std.specs.Prelude.{ℕ, ◌≤◌, ◌≡◌}
use Rattle.factors.specs.Factors.{HighDaily, LowDaily, code_row, one, up}
use Rattle.factors.specs.declared.Code.{Code}
use Rattle.factors.specs.declared.codes.CodeNumbers.{CodeNumbers}
use Rattle.roots.specs.Roots.{most_days}

-- No daily factor of a code is greater: the high one of FPI.
abbrev pub most_daily : ℕ
most_daily = 100_064_307

-- No growth of 0 to 1,800 days is greater: the largest is 318,088,479.
abbrev pub most_growth : ℕ
most_growth = 320_000_000

-- What n multiplications by d require.
pub record GrowthAsked (rounding d n : ℕ) : Type 0 where
  pub rounding_most : rounding ≤ up
  pub daily_most : d ≤ most_daily
  pub days_most : n ≤ most_days

-- What the formulas require of a growth, a root, F2 and F4.
pub record FormulaAsked (x s f2 f4 : ℕ) : Type 0 where
  pub growth_least : one ≤ x
  pub growth_most : x ≤ most_growth
  pub root_most : s ≤ 2_236_068
  pub f2_most : f2 ≤ 2_400
  pub f4_most : f4 ≤ 1_500

-- The numbers of a code: its row's F2 and F4, and its daily factors.
pub record NumbersOf (c : Code) (r : CodeNumbers) : Type 0 where
  pub f2_is : r.f2 ≡ (code_row c).f2
  pub f4_is : r.f4 ≡ (code_row c).f4
  pub high_is : HighDaily c r.high
  pub low_is : LowDaily c r.low
