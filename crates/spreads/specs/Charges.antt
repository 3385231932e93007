-- What is charged for a contract of a written row, of a unit margin, beside a held one.
use Rattle.std.specs.Prelude.{ℕ, Option, Some, None}

-- The spread's unit, or the written unit margin where the rows do not pair: a pair is worth making exactly where the charge
-- is below the unit margin.
abbrev pub charge_of : ℕ → Option ℕ → ℕ
charge_of unit None = unit
charge_of unit (Some spread) = spread
