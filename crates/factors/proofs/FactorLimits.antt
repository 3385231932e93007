-- Limits of what the definitions speak of: rates, daily factors, growth and the products of fa and fb.
-- Assumes nothing.
use Prim.Native.Nat.{ℕ, ◌+◌, ◌*◌, ◌-◌, ◌≤◌, ◌<◌}
use mathlib.Core.Logic.{◌⊎◌, inl, inr}
use lib.Dec.{lit≤, lit<}
use native.Mathlib.Nat.{mul-le-mul}
use native.Mathlib.Omega.{arith}
use Rattle.factors.proofs.Multiplied.{days, growth_most, one_least, rises}
use Rattle.factors.specs.Factors.{Growth, HighDaily, LowDaily, code_row, down, ga, gb, multiplied, one, up}
use Rattle.factors.specs.Numbers.{FormulaAsked, most_daily}
use Rattle.factors.specs.declared.Code.{Code}
use Rattle.factors.specs.declared.Code.TheVariants.{FCI, FPI, OFC, OFV}
use Rattle.numbers.proofs.Order.{split}
use Rattle.roots.proofs.Squares.{root_most}
use Rattle.roots.specs.Roots.{Root, most_days}

-- The rows: "10^4 − F1" takes at most what is there.
pub record RowLimits (c : Code) : Type 0 where
  pub f1_most : (code_row c).f1 ≤ 10_000
  pub f2_most : (code_row c).f2 ≤ 2_400
  pub f4_most : (code_row c).f4 ≤ 1_500
  pub gb_least : one ≤ gb c
  pub rates : gb c < ga c
  pub ga_most : ga c ≤ 126_040_000

pub row_limits : (c : Code) → RowLimits c
row_limits FCI = record { f1_most = lit≤ tt; f2_most = lit≤ tt; f4_most = lit≤ tt; gb_least = lit≤ tt; rates = lit< tt; ga_most = lit≤ tt }
row_limits FPI = record { f1_most = lit≤ tt; f2_most = lit≤ tt; f4_most = lit≤ tt; gb_least = lit≤ tt; rates = lit< tt; ga_most = lit≤ tt }
row_limits OFC = record { f1_most = lit≤ tt; f2_most = lit≤ tt; f4_most = lit≤ tt; gb_least = lit≤ tt; rates = lit< tt; ga_most = lit≤ tt }
row_limits OFV = record { f1_most = lit≤ tt; f2_most = lit≤ tt; f4_most = lit≤ tt; gb_least = lit≤ tt; rates = lit< tt; ga_most = lit≤ tt }

-- 360 multiplications by the largest factor of the four rows reach the largest rate, and those by 1 come to 1.
largest_reaches : 126_040_000 ≤ multiplied down most_daily 360
unfolding multiplied
largest_reaches = lit≤ tt

one_stays : multiplied up one 360 ≤ one
unfolding multiplied
one_stays = lit≤ tt

-- A daily factor is from 1 to the largest.
abbrev pub DailyWithin : ℕ → Type 0
DailyWithin d = (one ≤ d) × (d ≤ most_daily)

module _ (c : Code) where
  -- A factor that reaches ga is not below the low daily factor.
  pub low_below : (d e : ℕ) → ga c ≤ multiplied down d 360 → LowDaily c e → e ≤ d
  low_below d e h k = go (split d e)
    where
      go : (d < e) ⊎ (e ≤ d) → e ≤ d
      go (inl l) = absurd (omega (arith, h, k.holds, (row_limits c).rates, rises down up d e 360 (lit≤ tt) (omega arith)))
      go (inr l) = l

  pub high_daily : (d : ℕ) → HighDaily c d → DailyWithin d
  high_daily d h = (go (split d one), h.least most_daily (omega (arith, (row_limits c).ga_most, largest_reaches)))
    where
      go : (d < one) ⊎ (one ≤ d) → one ≤ d
      go (inl l) =
          absurd
          (omega (arith, h.holds, (row_limits c).rates, (row_limits c).gb_least, one_stays, rises down up d one 360 (lit≤ tt) (omega arith)))
      go (inr l) = l

  pub low_daily : (d : ℕ) → LowDaily c d → DailyWithin d
  low_daily d h = (
    h.greatest one (omega (arith, (row_limits c).gb_least, one_stays)),
    low_below most_daily d (omega (arith, (row_limits c).ga_most, largest_reaches)) h,
  )

  -- "stay at or below gb": the definition asks it of the last of the 360 multiplications, and those before it come to no more.
  pub low_stays : (d n : ℕ) → LowDaily c d → n ≤ 360 → multiplied up d n ≤ gb c
  low_stays d n h few = omega (arith, h.holds, days up d (low_daily d h).0 n 360 few)

  -- What the formulas are worked out from, within its limits.
  pub formula_asked : (D : ℕ → Type 0) (r n x s : ℕ) → ((d : ℕ) → D d → DailyWithin d) → r ≤ up → n ≤ most_days → Growth D r n x → Root n s
      → FormulaAsked x s (code_row c).f2 (code_row c).f4
  formula_asked D r n x s within k few g q =
      let d = within g.daily g.is_daily in
      record {
        growth_least = omega (arith, g.is, one_least r g.daily d.0 n);
        growth_most = omega (arith, g.is, growth_most r g.daily n k d.1 few);
        root_most = root_most n s few q;
        f2_most = (row_limits c).f2_most;
        f4_most = (row_limits c).f4_most;
      }

-- The products of the formulas: none passes 64 bits, and no difference goes below 0.
module _ (x s f2 f4 : ℕ) (h : FormulaAsked x s f2 f4) where
  pub f2_root_most : f2 * s ≤ 5_366_563_200
  f2_root_most = mul-le-mul h.f2_most h.root_most

  pub high_product_most : x * (10_000_000_000 + f2 * s) ≤ 4_917_300_224_000_000_000
  high_product_most = mul-le-mul {m₂ = 15_366_563_200} h.growth_most (omega (arith, f2_root_most))

  pub low_product_most : x * (10_000_000_000 - f2 * s) ≤ 3_200_000_000_000_000_000
  low_product_most = mul-le-mul {m₂ = 10_000_000_000} h.growth_most (omega arith)

  pub low_product_least : f4 * 100_000_000_000_000 ≤ x * (10_000_000_000 - f2 * s)
  low_product_least =
      let l : 463_343_680_000_000_000 ≤ x * (10_000_000_000 - f2 * s) =
      mul-le-mul {m₁ = 4_633_436_800} h.growth_least (omega (arith, f2_root_most)) in
      omega (arith, l, h.f4_most)
