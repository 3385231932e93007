-- For code: the numbers of a code let its growths be multiplied and its formulas be worked out, and these come to fa and fb.
-- Assumes nothing.
use Prim.Native.Nat.{ℕ, zero, suc, ◌≤◌, ◌<◌}
use mathlib.Core.Path.{◌≡◌, refl, ap₂, subst, sym, ◌∙◌}
use lib.Dec.{lit≤}
use native.Mathlib.Omega.{arith}
use Rattle.factors.proofs.FactorLimits.{high_daily, formula_asked, low_daily}
use Rattle.factors.specs.Factors.{factors_told, FactorsAre, HighDaily, HighGrowth, LowDaily, LowGrowth, code_number, code_row, down, high_factor, low_factor, multiplied, up}
use Rattle.factors.specs.Numbers.{FormulaAsked, GrowthAsked, NumbersOf}
use Rattle.factors.specs.declared.Code.{Code}
use Rattle.factors.specs.declared.codes.CodeNumbers.{CodeNumbers}
use Rattle.roots.specs.Roots.{Root, most_days}
use Rattle.std.specs.Prelude.{Result}
use Rattle.rules.specs.declared.Refused.{Refused}
use Rattle.factors.specs.declared.formulas.Factors.{Factors}

module _ (c : Code) (r : CodeNumbers) (n : ℕ) (h : NumbersOf c r) (few : n ≤ most_days) where
  pub high_growth_asked : (rounding : ℕ) → rounding ≤ up → GrowthAsked rounding r.high n
  high_growth_asked rounding l =
      record { rounding_most = l; daily_most = (high_daily c r.high h.high_is).1; days_most = few }

  pub low_growth_asked : (rounding : ℕ) → rounding ≤ up → GrowthAsked rounding r.low n
  low_growth_asked rounding l =
      record { rounding_most = l; daily_most = (low_daily c r.low h.low_is).1; days_most = few }

  -- The same of the code's own numbers, which are those of its row.
  own : (x s : ℕ) → FormulaAsked x s (code_row c).f2 (code_row c).f4 → FormulaAsked x s r.f2 r.f4
  own x s j =
      record {
        growth_least = j.growth_least;
        growth_most = j.growth_most;
        root_most = j.root_most;
        f2_most = subst (λ (y : ℕ). y ≤ 2_400) (sym h.f2_is) j.f2_most;
        f4_most = subst (λ (y : ℕ). y ≤ 1_500) (sym h.f4_is) j.f4_most;
      }

  high_grown : (x : ℕ) → x ≡ multiplied up r.high n → HighGrowth c n x
  high_grown x e = record { daily = r.high; is_daily = h.high_is; is = e }

  low_grown : (x : ℕ) → x ≡ multiplied down r.low n → LowGrowth c n x
  low_grown x e = record { daily = r.low; is_daily = h.low_is; is = e }

  module _ (x s : ℕ) (q : Root n s) where
    pub high_formula_asked : x ≡ multiplied up r.high n → FormulaAsked x s r.f2 r.f4
    high_formula_asked e = own x s (formula_asked c (HighDaily c) up n x s (high_daily c) (lit≤ tt) few (high_grown x e) q)

    pub low_formula_asked : x ≡ multiplied down r.low n → FormulaAsked x s r.f2 r.f4
    low_formula_asked e = own x s (formula_asked c (LowDaily c) down n x s (low_daily c) (lit≤ tt) few (low_grown x e) q)

  pub factors_are : (x y s fa fb : ℕ) → Root n s → x ≡ multiplied up r.high n → y ≡ multiplied down r.low n
      → fa ≡ high_factor r.f2 r.f4 x s → fb ≡ low_factor r.f2 r.f4 y s → FactorsAre (code_number c) n (factors_told fa fb)
  factors_are x y s fa fb q a b i j = (
    c,
    refl,
    few,
    record {
      growth = x;
      is_growth = high_grown x a;
      root = s;
      is_root_lem = q;
      is = i ∙ ap₂ (λ (f2 f4 : ℕ). high_factor f2 f4 x s) h.f2_is h.f4_is;
    },
    record {
      growth = y;
      is_growth = low_grown y b;
      root = s;
      is_root_lem = q;
      is = j ∙ ap₂ (λ (f2 f4 : ℕ). low_factor f2 f4 y s) h.f2_is h.f4_is;
    },
  )

-- The answer to a number that names a code is that to the code's own number.
pub told_number : (j k n : ℕ) (a : Result Factors Refused) → k ≡ j → FactorsAre j n a → FactorsAre k n a
told_number j k n a e h = subst (λ (x : ℕ). FactorsAre x n a) (sym e) h

-- A number that is none of a code's.
pub above_three : (k : ℕ) → (k ≡ 0 → ⊥) → (k ≡ 1 → ⊥) → (k ≡ 2 → ⊥) → (k ≡ 3 → ⊥) → 3 < k
above_three zero a b c d = absurd (a refl)
above_three (suc zero) a b c d = absurd (b refl)
above_three (suc (suc zero)) a b c d = absurd (c refl)
above_three (suc (suc (suc zero))) a b c d = absurd (d refl)
above_three (suc (suc (suc (suc k)))) a b c d = omega arith
