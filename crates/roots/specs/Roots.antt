-- Document 02, request 2: S(n), and what "the least" and "the greatest" mean there and in crate factors.
use Rattle.std.specs.Prelude.{ℕ, ◌*◌, ◌≤◌}

-- x is the least number of which P holds.
pub record Least (P : ℕ → Type 0) (x : ℕ) : Type 0 where
  pub holds : P x
  pub least : (y : ℕ) → P y → x ≤ y

-- x is the greatest number of which P holds.
pub record Greatest (P : ℕ → Type 0) (x : ℕ) : Type 0 where
  pub holds : P x
  pub greatest : (y : ℕ) → P y → y ≤ x

-- "n, 0 to 1,800 days"
abbrev pub most_days : ℕ
most_days = 1_800

-- "S × S × 360 ≥ n × 10^12"
abbrev pub Reaches : ℕ → ℕ → Type 0
Reaches n s = n * 1_000_000_000_000 ≤ s * s * 360

-- "S(n) is the least whole number with S × S × 360 ≥ n × 10^12". It is the square root of n / 360 in millionths, rounded up.
abbrev pub Root : ℕ → ℕ → Type 0
Root n s = Least (Reaches n) s
