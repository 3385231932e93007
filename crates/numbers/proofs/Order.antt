-- Two numbers are in order, equal, or neither; the newest of the numbers below n + 1.
-- Assumes nothing.
use Prim.Native.Nat.{ℕ, ◌+◌, ◌≤◌, ◌<◌}
use mathlib.Core.Logic.{◌⊎◌, inl, inr}
use mathlib.Core.Path.{◌≡◌}
use native.Mathlib.Nat.{eq-or-lt_of_le}
use native.Mathlib.Omega.{arith}
use Rattle.rules.proofs.Tests.{lt_or_ge}

pub split : (x y : ℕ) → (x < y) ⊎ (y ≤ x)
split x y = lt_or_ge x y

pub same : (x y : ℕ) → (x ≡ y) ⊎ (x ≡ y → ⊥)
same x y = go (split x y) (split y x)
  where
    go : (x < y) ⊎ (y ≤ x) → (y < x) ⊎ (x ≤ y) → (x ≡ y) ⊎ (x ≡ y → ⊥)
    go (inl a) b = inr (λ q. omega arith)
    go (inr a) (inl b) = inr (λ q. omega arith)
    go (inr a) (inr b) = inl (omega arith)

pub newest : (h n : ℕ) → h < n + 1 → (h ≡ n) ⊎ (h < n)
newest h n l = let m : h ≤ n = omega arith in eq-or-lt_of_le m
