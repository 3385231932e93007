-- What users cite of the factors: the growth against the rates, and the limits of fa and fb.
-- Assumes nothing.
use Prim.Native.Nat.{ℕ, ◌+◌, ◌*◌, ◌-◌, ◌/◌, ◌^◌, ◌≤◌}
use mathlib.Core.Path.{◌≡◌, refl, ap}
use lib.Dec.{lit≤, lit<}
use native.Mathlib.Nat.{le_trans, mul-le-mul, mul-le-mul_right}
use native.Mathlib.Omega.{arith}
use Rattle.factors.proofs.FactorLimits.{high_daily, formula_asked, low_below, high_product_most}
use Rattle.factors.proofs.Multiplied.{down_step, rises, up_step}
use Rattle.factors.proofs.Powers.{at_least, at_most, high_power, low_power}
use Rattle.factors.specs.Factors.{Fa, FactorsAre, Fb, HighDaily, HighGrowth, LowGrowth, code_row, down, ga, gb, multiplied, one, up}
use Rattle.factors.specs.Numbers.{FormulaAsked}
use Rattle.factors.specs.declared.Code.{Code}
use Rattle.roots.proofs.Extremes.{least_one}
use Rattle.roots.specs.Roots.{Reaches, most_days}
use Rattle.rules.proofs.SeriesLimits as limits
use Rattle.rules.specs.Limits.{SeriesWithin}
use Rattle.rules.specs.Refusals.{clean, number, refused_at, series_row_fault}
use Rattle.rules.specs.declared.Refusal.{Refusal}
use Rattle.rules.specs.declared.SeriesRow.{SeriesRow}

-- A series row with these factors.
abbrev pub with_factors : SeriesRow → ℕ → ℕ → SeriesRow
with_factors r fa fb =
    record { pv = r.pv; fa = fa; fb = fb; f3 = r.f3; m = r.m; option = r.option; spare = r.spare }

-- "the high growth to the power 360 is never below ga to the power n, nor the low one above gb to the power n, in the common
-- scale": for every code, and every n, also those above 1,800.
pub high_growth : (c : Code) (n x : ℕ) → HighGrowth c n x → ga c ^ n * one ^ 360 ≤ x ^ 360 * one ^ n
unfolding multiplied
high_growth c n x h =
    rw h.is
    (high_power one h.daily 360 n (lit< tt) (ga c) (multiplied up h.daily n)
    (le_trans (mul-le-mul_right (one ^ 360) h.is_daily.holds) (at_most one h.daily (multiplied down h.daily) refl (down_step h.daily) 360))
    (at_least one h.daily (multiplied up h.daily) refl (up_step h.daily) n))

pub low_growth : (c : Code) (n x : ℕ) → LowGrowth c n x → x ^ 360 * one ^ n ≤ gb c ^ n * one ^ 360
unfolding multiplied
low_growth c n x h =
    rw h.is
    (low_power one h.daily 360 n (lit< tt) (gb c) (multiplied down h.daily n)
    (le_trans (at_least one h.daily (multiplied up h.daily) refl (up_step h.daily) 360) (mul-le-mul_right (one ^ 360) h.is_daily.holds))
    (at_most one h.daily (multiplied down h.daily) refl (down_step h.daily) n))

-- "(14: n above 1,800, or code not 0 to 3.)": a refusal has this number, and row 0.
pub refused_number : (k n : ℕ) (w : Refusal) (row : ℕ) → FactorsAre k n (refused_at w row) → (number w ≡ 14) × (row ≡ 0)
refused_number k n w row (_, e, z) = (ap number e, z)

-- The formulas, with their products as one number.
high_least : (x p q : ℕ) → one ≤ x → 1_000_000 ≤ (x * (10_000_000_000 + p) + q * 100_000_000_000_000 + 999_999_999_999) / 1_000_000_000_000
high_least x p q h = omega (arith, mul-le-mul_right p h)

high_most : (z q : ℕ) → z ≤ 4_917_300_224_000_000_000 → q ≤ 1_500 → (z + q * 100_000_000_000_000 + 999_999_999_999) / 1_000_000_000_000 ≤ 10_000_000
high_most z q h k = omega arith

low_most : (y x q : ℕ) → y ≤ x
    → (y - q * 100_000_000_000_000) / 1_000_000_000_000 ≤ (x + q * 100_000_000_000_000 + 999_999_999_999) / 1_000_000_000_000
low_most y x q h = omega arith

-- "Every fa so made keeps its limit of document 01", and every fb is at most its fa.
module _ (c : Code) (n fa : ℕ) (few : n ≤ most_days) (h : Fa c n fa) where
  parts : FormulaAsked h.growth h.root (code_row c).f2 (code_row c).f4
  parts = formula_asked c (HighDaily c) up n h.growth h.root (high_daily c) (lit≤ tt) few h.is_growth h.is_root_lem

  pub fa_least : 1_000_000 ≤ fa
  fa_least = rw h.is (high_least h.growth ((code_row c).f2 * h.root) (code_row c).f4 parts.growth_least)

  pub fa_most : fa ≤ 10_000_000
  fa_most =
      rw h.is
      (high_most (h.growth * (10_000_000_000 + (code_row c).f2 * h.root)) (code_row c).f4
      (high_product_most h.growth h.root (code_row c).f2 (code_row c).f4 parts) parts.f4_most)

  pub fb_most : (fb : ℕ) → Fb c n fb → fb ≤ fa
  fb_most fb k =
      let x = h.is_growth in
      let y = k.is_growth in
      let d = low_below c x.daily y.daily x.is_daily.holds y.is_daily in
      let grown : k.growth ≤ h.growth =
      omega (arith, x.is, y.is, rises down up y.daily x.daily n (lit≤ tt) d) in
      rw (h.is, k.is, least_one (Reaches n) k.root h.root k.is_root_lem h.is_root_lem)
      (low_most (k.growth * (10_000_000_000 - (code_row c).f2 * h.root)) (h.growth * (10_000_000_000 + (code_row c).f2 * h.root)) (code_row c).f4
      (mul-le-mul grown (omega arith)))

  -- "so that a series row made of them keeps its limits": where the other fields of a row keep document 01's limits, which is
  -- that the row does with fa 1,000,000 and fb 0, the row with these fa and fb keeps them and has no fault. Its own are not
  -- looked at.
  module _ (fb : ℕ) (k : Fb c n fb) (r : SeriesRow) (w : SeriesWithin (with_factors r 1_000_000 0)) where
    pub series_within : SeriesWithin (with_factors r fa fb)
    series_within =
        record {
          pv_least = w.pv_least;
          pv_most = w.pv_most;
          fa_least = fa_least;
          fa_most = fa_most;
          fb_most = fb_most fb k;
          f3_most = w.f3_most;
          m_least = w.m_least;
          m_most = w.m_most;
          option_most = w.option_most;
          spare_zero = w.spare_zero;
        }

    pub series_clean : series_row_fault (with_factors r fa fb) ≡ clean
    series_clean = limits.series_clean (with_factors r fa fb) series_within
