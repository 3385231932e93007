-- Growth against a yearly rate, as powers. Every law is over variables, so that no power of a number is worked out.
-- Assumes nothing.
use Prim.Native.Nat.{ℕ, zero, suc, ◌*◌, ◌^◌, ◌≤◌, ◌<◌}
use mathlib.Core.Path.{◌≡◌}
use native.Mathlib.Nat.{le_of_mul-le-mul_right, mul-le-mul_right, one-le-pow, pow-le-pow_left, pow-suc, pow-zero}
use native.Mathlib.Omega.{arith}

one_power : (n : ℕ) → 1 ^ n ≡ 1
one_power zero = pow-zero 1
one_power (suc n) = rw (pow-suc 1 n, one_power n)

power_product : (a b n : ℕ) → (a * b) ^ n ≡ a ^ n * b ^ n
power_product a b zero = rw (pow-zero (a * b), pow-zero a, pow-zero b)
power_product a b (suc n) =
    rw (pow-suc (a * b) n, pow-suc a n, pow-suc b n, power_product a b n) (regroup (a ^ n) (b ^ n) a b)
  where
    regroup : (x y u v : ℕ) → x * y * (u * v) ≡ x * u * (y * v)
    regroup x y u v = omega arith

power_swap : (d n m : ℕ) → (d ^ n) ^ m ≡ (d ^ m) ^ n
power_swap d zero m = rw (pow-zero d, pow-zero (d ^ m), one_power m)
power_swap d (suc n) m =
    rw (pow-suc d n, pow-suc (d ^ m) n, power_product (d ^ n) d m, power_swap d n m)

-- Multiplications by d in the scale s, from s, each at least, or at most, the exact one.
module _ (s d : ℕ) (u : ℕ → ℕ) (start : u 0 ≡ s) where
  pub at_least : ((n : ℕ) → u n * d ≤ u (suc n) * s) → (n : ℕ) → s * d ^ n ≤ u n * s ^ n
  at_least step zero = rw (pow-zero d, pow-zero s, start) (omega arith)
  at_least step (suc n) =
      rw (pow-suc d n, pow-suc s n) (go (d ^ n) (s ^ n) (u n) (u (suc n)) (at_least step n) (step n))
    where
      go : (p q x y : ℕ) → s * p ≤ x * q → x * d ≤ y * s → s * (p * d) ≤ y * (q * s)
      go p q x y h k = omega (arith, mul-le-mul_right d h, mul-le-mul_right q k)

  pub at_most : ((n : ℕ) → u (suc n) * s ≤ u n * d) → (n : ℕ) → u n * s ^ n ≤ s * d ^ n
  at_most step zero = rw (pow-zero d, pow-zero s, start) (omega arith)
  at_most step (suc n) =
      rw (pow-suc d n, pow-suc s n) (go (d ^ n) (s ^ n) (u n) (u (suc n)) (at_most step n) (step n))
    where
      go : (p q x y : ℕ) → x * q ≤ s * p → y * s ≤ x * d → y * (q * s) ≤ s * (p * d)
      go p q x y h k = omega (arith, mul-le-mul_right d h, mul-le-mul_right q k)

-- Where g is at most s × (d/s)^m and x at least s × (d/s)^n, g to the power n is at most x to the power m in the common scale
-- (`high_power`); with both turned round, at least (`low_power`). `cancel` serves both.
module _ (s d m n : ℕ) (some : 0 < s) where
  positive : 0 < (s ^ n) ^ m
  positive = one-le-pow m (s ^ n) (one-le-pow n s some)

  cancel : (a b c e f p : ℕ) → 0 < p → a * p ≤ e * f → c * f ≤ b * p → a * c ≤ b * e
  cancel a b c e f p h k l = le_of_mul-le-mul_right {k = p} (omega (arith, mul-le-mul_right c k, mul-le-mul_right e l)) h

  pub high_power : (g x : ℕ) → g * s ^ m ≤ s * d ^ m → s * d ^ n ≤ x * s ^ n → g ^ n * s ^ m ≤ x ^ m * s ^ n
  high_power g x a b =
      cancel (g ^ n) (x ^ m) (s ^ m) (s ^ n) ((d ^ n) ^ m) ((s ^ n) ^ m) positive
      (rw (power_product g (s ^ m) n, power_product s (d ^ m) n, ← power_swap s n m, ← power_swap d n m) at (pow-le-pow_left a n))
      (rw (power_product s (d ^ n) m, power_product x (s ^ n) m) at (pow-le-pow_left b m))

  pub low_power : (g x : ℕ) → s * d ^ m ≤ g * s ^ m → x * s ^ n ≤ s * d ^ n → x ^ m * s ^ n ≤ g ^ n * s ^ m
  low_power g x a b =
      cancel (x ^ m) (g ^ n) (s ^ n) (s ^ m) ((d ^ n) ^ m) ((s ^ n) ^ m) positive
      (rw (power_product s (d ^ n) m, power_product x (s ^ n) m) at (pow-le-pow_left b m))
      (rw (power_product g (s ^ m) n, power_product s (d ^ m) n, ← power_swap s n m, ← power_swap d n m) at (pow-le-pow_left a n))
