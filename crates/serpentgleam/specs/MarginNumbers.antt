-- The numbers by which a C program is told an answer.
use Rattle.rules.specs.Refusals.{number}
use Rattle.serpentgleam.specs.declared.Answer.{Answer}
use Rattle.serpentgleam.specs.declared.Margin.{Margin}
use Rattle.std.specs.Prelude.{ℕ, Result, Ok, Err}
use Rattle.rules.specs.declared.Refused.{Refused}
use Rattle.rules.specs.declared.Tally.{Tally}

-- Refusal 0 where the file is accepted; else the refusal's number and its row, with no lines and total 0.
abbrev pub margin_numbers : Result Tally Refused → Margin
margin_numbers (Ok margin) = record { refusal = 0; row = 0; lines = margin.count; total = margin.total }
margin_numbers (Err refusal) = record { refusal = number refusal.why; row = refusal.row; lines = 0; total = 0 }

-- The same of a number: one asked of a file, how many pairs a call made or left, or the bytes of a load. Refusal 0 and the
-- number, or the refusal's number and its row with 0.
abbrev pub answer_numbers : Result ℕ Refused → Answer
answer_numbers (Ok n) = record { refusal = 0; row = 0; value = n }
answer_numbers (Err refusal) = record { refusal = number refusal.why; row = refusal.row; value = 0 }
