-- Counting up from a number below which none reaches n days.
-- Assumes nothing.
use Prim.Native.Nat.{ℕ, ◌+◌, ◌*◌, ◌≤◌, ◌<◌}
use native.Mathlib.Nat.{mul-le-mul}
use native.Mathlib.Omega.{arith}
use Rattle.roots.proofs.Extremes.{above}
use Rattle.roots.proofs.Squares.{reaches_rises}
use Rattle.roots.specs.Roots.{Reaches, Root, most_days}

abbrev pub NoneBelow : ℕ → ℕ → Type 0
NoneBelow n s = (y : ℕ) → Reaches n y → s ≤ y

-- The root of a day is not below that of the day before.
pub next_day : (n s : ℕ) → Root n s → NoneBelow (n + 1) s
next_day n s r y h = r.least y (omega arith)

module _ (n s : ℕ) (few : n ≤ most_days) (none : NoneBelow n s) where
  pub square_most : s * s ≤ 5_000_000_100_624
  square_most = let l = none 2_236_068 (omega arith) in mul-le-mul l l

  module _ (short : s * s * 360 < n * 1_000_000_000_000) where
    pub next_number : NoneBelow n (s + 1)
    next_number y h = omega (arith, above (Reaches n) (reaches_rises n) s (λ k. omega arith) y h)

    pub below_most : s < 2_236_068
    below_most = omega (arith, next_number 2_236_068 (omega arith))
