-- S(n) by two products, one that reaches and one that does not; its limit, and that every n has one.
-- Assumes nothing.
use Prim.Native.Nat.{ℕ, zero, suc, ◌*◌, ◌≤◌, ◌<◌}
use mathlib.Core.Bool.{Bool, ◌&&◌}
use mathlib.Core.Logic.{◌⊎◌, inl, inr}
use lib.Dec.{T, leb, ltb, leb→le, lit≤, ltb→lt}
use native.Mathlib.Nat.{mul-le-mul}
use native.Mathlib.Omega.{arith}
use Rattle.numbers.proofs.Order.{split}
use Rattle.roots.proofs.Every.{both_left, both_right}
use Rattle.roots.proofs.Extremes.{least_by, least_some}
use Rattle.roots.specs.Roots.{Reaches, Root, most_days}

pub reaches_rises : (n x y : ℕ) → x ≤ y → Reaches n x → Reaches n y
reaches_rises n x y l h = omega (arith, h, mul-le-mul l l)

-- s reaches, and the number before it does not: the test of the table's entry n.
abbrev pub is_root : ℕ → ℕ → Bool
is_root n zero = leb (n * 1_000_000_000_000) 0
is_root n (suc p) = leb (n * 1_000_000_000_000) (suc p * suc p * 360) && ltb (p * p * 360) (n * 1_000_000_000_000)

pub root_by : (n s : ℕ) → T (is_root n s) → Root n s
root_by n zero t = record { holds = leb→le (n * 1_000_000_000_000) 0 t; least = λ y h. omega arith }
root_by n (suc p) t =
    let a = leb (n * 1_000_000_000_000) (suc p * suc p * 360) in
    let b = ltb (p * p * 360) (n * 1_000_000_000_000) in
    least_by (Reaches n) (reaches_rises n) p
    (λ h. omega (arith, h, ltb→lt (p * p * 360) (n * 1_000_000_000_000) (both_right a b t)))
    (leb→le (n * 1_000_000_000_000) (suc p * suc p * 360) (both_left a b t))

-- S(1,800) is the largest root.
pub root_most : (n s : ℕ) → n ≤ most_days → Root n s → s ≤ 2_236_068
root_most n s few r = r.least 2_236_068 (omega arith)

-- Every number of days has a root.
pub root_some : (n : ℕ) → (s : ℕ) × Root n s
root_some n = least_some (Reaches n) (λ s. go s (split (s * s * 360) (n * 1_000_000_000_000))) (n * 1_000_000) (reached n)
  where
    go : (s : ℕ) → (s * s * 360 < n * 1_000_000_000_000) ⊎ (n * 1_000_000_000_000 ≤ s * s * 360) → Reaches n s ⊎ (Reaches n s → ⊥)
    go s (inl l) = inr (λ h. omega arith)
    go s (inr l) = inl l

    reached : (k : ℕ) → Reaches k (k * 1_000_000)
    reached zero = lit≤ tt
    reached (suc k) = omega (arith, mul-le-mul {n₁ = 1} {m₁ = suc k} {n₂ = suc k} {m₂ = suc k} (omega arith) (omega arith))
