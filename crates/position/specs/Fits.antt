-- What the sums and products of one row ask of its size. Every row of an accepted file has it.
use Rattle.std.specs.Prelude.{ℕ, ◌≤◌, Result, Ok, Err}
use Rattle.rules.specs.OnePosition.{unit_margin}
use Rattle.rules.specs.declared.Position.{Position}
use Rattle.rules.specs.declared.Series.{Series}
use Rattle.rules.specs.declared.Refused.{Refused}

pub record RowFits (s : Series) (p : Position) : Type 0 where
  pub unit_most : unit_margin s p ≤ 100_000_000_000_000
  pub m_most : s.m ≤ 1_000
  pub q_most : p.q ≤ 100_000
  pub premium_most : p.premium ≤ 10_000_000

-- The amount of an answer, 0 where it is refused.
abbrev pub amount_in : Result ℕ Refused → ℕ
amount_in (Ok n) = n
amount_in (Err refusal) = 0
