-- The numbers by which a C program is told what a call with a list of lines has worked out. Those of its answer are
-- `MarginNumbers.answer_numbers`.
use Rattle.std.specs.Prelude.{Bool, cond, Result, Ok, Err}
use Rattle.rules.specs.Refusals.{number}
use Rattle.rules.specs.declared.Refusal.TheVariants.{NotFirstPairs}
use Rattle.serpentgleam.specs.declared.Answer.{Answer}
use Rattle.rules.specs.declared.Refused.{Refused}
use Rattle.instalments.specs.declared.CallLines.{CallLines}

-- The numbers of what a call has worked out, where the caller's list begins with its lines or does not.
abbrev pub told_numbers : Result CallLines Refused → Bool → Answer
told_numbers (Ok lines) same =
    cond same (record { refusal = 0; row = 0; value = lines.value }) (record { refusal = number NotFirstPairs; row = 0; value = 0 })
told_numbers (Err refusal) same = record { refusal = number refusal.why; row = refusal.row; value = 0 }
