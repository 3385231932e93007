-- A day and its answer as a C program has them.
use Rattle.std.specs.Prelude.{ℕ, Result, Ok, Err}
use Rattle.rules.specs.Refusals.{number}
use Rattle.rules.specs.declared.Day.{Day}
use Rattle.serpentgleam.specs.declared.Answer.{Answer}
use Rattle.rules.specs.declared.Refused.{Refused}

-- The day of four numbers, in the order of the call.
abbrev pub day_of : ℕ → ℕ → ℕ → ℕ → Day
day_of series high low close = record { series = series; high = high; low = low; close = close }

-- Refusal 0 where the day was applied; else the refusal's number and its row. The value is 0 in both.
abbrev pub day_numbers : Result (Unit {0}) Refused → Answer
day_numbers (Ok u) = record { refusal = 0; row = 0; value = 0 }
day_numbers (Err refusal) = record { refusal = number refusal.why; row = refusal.row; value = 0 }
