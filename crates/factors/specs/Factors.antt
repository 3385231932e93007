-- Document 02, request 2: fa and fb from the four code rows of source document 004 and n days. S(n), "the least" and "the
-- greatest" are in `Roots` of crate roots.
-- Units: the rate i/100, F1, F2 and F4 are whole numbers of 10^-4, S of 10^-6, rates and growth of 10^-8, fa and fb of 10^-6.
-- As in document 01's definitions a difference x - y is 0 where y is greater. That is what "at least 0" says of fb; the two
-- other differences here take at most what is there (`FactorLimits.row_limits` and `f2_root_most`).
use Rattle.std.specs.Prelude.{ℕ, zero, suc, ◌+◌, ◌*◌, ◌-◌, ◌/◌, ◌≤◌, ◌<◌, ◌⊎◌, ◌≡◌, Result, Ok, Err}
use Rattle.roots.specs.Roots.{Greatest, Least, Root, most_days}
use Rattle.rules.specs.declared.Refusal.{Refusal}
use Rattle.rules.specs.declared.Refusal.TheVariants.{FactorsAskedFor}
use Rattle.factors.specs.declared.Code.{Code}
use Rattle.factors.specs.declared.Code.TheVariants.{FCI, FPI, OFC, OFV}
use Rattle.rules.specs.declared.Refused.{Refused}
use Rattle.factors.specs.declared.formulas.Factors.{Factors}

-- The codes by which a call names the rows, in the circular's order.
abbrev pub code_number : Code → ℕ
code_number FCI = 0
code_number FPI = 1
code_number OFC = 2
code_number OFV = 3

-- A number names a code, or is refused with 14: it is not 0 to 3.
abbrev pub CodeIs : ℕ → Result Code Refusal → Type 0
CodeIs k (Ok c) = code_number c ≡ k
CodeIs k (Err w) = (3 < k) × (w ≡ FactorsAskedFor)

-- A row of the circular's table: "the rate i/100, F1, F2 and F4 in 10^-4, so i is 2,100 for FCI". Its F3 is not used here: it is
-- f3 of the series row.
pub record CodeRow : Type 0 where
  pub i : ℕ
  pub f1 : ℕ
  pub f2 : ℕ
  pub f4 : ℕ

abbrev pub code_row : Code → CodeRow
code_row FCI = record { i = 2_100; f1 = 1_200; f2 = 1_100; f4 = 1_000 }
code_row FPI = record { i = 2_100; f1 = 2_400; f2 = 2_200; f4 = 1_000 }
code_row OFC = record { i = 1_600; f1 = 1_500; f2 = 1_200; f4 = 1_500 }
code_row OFV = record { i = 1_600; f1 = 3_000; f2 = 2_400; f4 = 1_500 }

-- 1 "in units of 10^-8"
abbrev pub one : ℕ
one = 100_000_000

-- "ga = 10^8 + i × (10^4 + F1), gb = 10^8 + i × (10^4 − F1)"
abbrev pub ga : Code → ℕ
ga c = one + (code_row c).i * (10_000 + (code_row c).f1)

abbrev pub gb : Code → ℕ
gb c = one + (code_row c).i * (10_000 - (code_row c).f1)

-- How a multiplication is rounded, as what is added before it is divided by 10^8: nothing rounds down, 99,999,999 rounds up.
abbrev pub down : ℕ
down = 0

abbrev pub up : ℕ
up = 99_999_999

-- "A multiplication by d is x × d / 10^8": n of them "from 10^8, each rounded".
unfoldable pub multiplied : ℕ → ℕ → ℕ → ℕ
multiplied rounding d zero = one
multiplied rounding d (suc n) = (multiplied rounding d n * d + rounding) / one

-- "The high daily factor is the least d for which 360 multiplications from 10^8, each rounded down, reach ga."
abbrev pub HighDaily : Code → ℕ → Type 0
HighDaily c = Least (λ (d : ℕ). ga c ≤ multiplied down d 360)

-- "The low one is the greatest d for which 360, each rounded up, stay at or below gb."
abbrev pub LowDaily : Code → ℕ → Type 0
LowDaily c = Greatest (λ (d : ℕ). multiplied up d 360 ≤ gb c)

-- "Growth is n such multiplications": x is what n multiplications by a daily factor come to.
pub record Growth (Daily : ℕ → Type 0) (rounding n x : ℕ) : Type 0 where
  pub daily : ℕ
  pub is_daily : Daily daily
  pub is : x ≡ multiplied rounding daily n

-- "up for high, down for low"
abbrev pub HighGrowth : Code → ℕ → ℕ → Type 0
HighGrowth c = Growth (HighDaily c) up

abbrev pub LowGrowth : Code → ℕ → ℕ → Type 0
LowGrowth c = Growth (LowDaily c) down

-- "growth × (1 + F2 × S) + F4, rounded up once to a millionth". The sum is in 10^-18: 1 is 10^10 beside F2 × S, F4 is in
-- 10^-4, and a millionth is 10^12.
abbrev pub high_factor : ℕ → ℕ → ℕ → ℕ → ℕ
high_factor f2 f4 growth s =
    (growth * (10_000_000_000 + f2 * s) + f4 * 100_000_000_000_000 + 999_999_999_999) / 1_000_000_000_000

-- "growth × (1 − F2 × S) − F4, rounded down once, and at least 0"
abbrev pub low_factor : ℕ → ℕ → ℕ → ℕ → ℕ
low_factor f2 f4 growth s =
    (growth * (10_000_000_000 - f2 * s) - f4 * 100_000_000_000_000) / 1_000_000_000_000

-- A factor f of n days: by a formula, from its growth and S(n).
pub record Factor (IsGrowth : ℕ → Type 0) (n : ℕ) (formula : ℕ → ℕ → ℕ) (f : ℕ) : Type 0 where
  pub growth : ℕ
  pub is_growth : IsGrowth growth
  pub root : ℕ
  pub is_root_lem : Root n root
  pub is : f ≡ formula growth root

-- "fa is .. ; fb is .."
abbrev pub Fa : Code → ℕ → ℕ → Type 0
Fa c n = Factor (HighGrowth c n) n (high_factor (code_row c).f2 (code_row c).f4)

abbrev pub Fb : Code → ℕ → ℕ → Type 0
Fb c n = Factor (LowGrowth c n) n (low_factor (code_row c).f2 (code_row c).f4)

abbrev pub factors_told : ℕ → ℕ → Result Factors Refused
factors_told fa fb = Ok (record { fa = fa; fb = fb })

-- What is answered to a number k for the code and n days: fa and fb, or "(14: n above 1,800, or code not 0 to 3.)", given for
-- no row.
abbrev pub FactorsAre : ℕ → ℕ → Result Factors Refused → Type 0
FactorsAre k n (Ok told) = (c : Code) × (code_number c ≡ k) × (n ≤ most_days) × Fa c n told.fa × Fb c n told.fb
FactorsAre k n (Err refusal) = ((most_days < n) ⊎ (3 < k)) × (refusal.why ≡ FactorsAskedFor) × (refusal.row ≡ 0)
