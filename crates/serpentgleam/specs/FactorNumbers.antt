-- The numbers by which a C program is told fa and fb.
use Rattle.std.specs.Prelude.{ℕ, ◌≡◌, Result, Ok, Err}
use Rattle.factors.specs.Factors.{FactorsAre}
use Rattle.rules.specs.Refusals.{number}
use Rattle.serpentgleam.specs.declared.FactorNumbers.{FactorNumbers}
use Rattle.rules.specs.declared.Refused.{Refused}
use Rattle.factors.specs.declared.formulas.Factors.{Factors}

-- Refusal 0, and fa and fb in millionths; or the refusal's number and its row with 0 and 0.
abbrev pub factor_numbers : Result Factors Refused → FactorNumbers
factor_numbers (Ok told) = record { refusal = 0; row = 0; fa = told.fa; fb = told.fb }
factor_numbers (Err refusal) = record { refusal = number refusal.why; row = refusal.row; fa = 0; fb = 0 }

-- The numbers are those of what is answered to a code and a number of days. There is one such answer
-- (`OneAnswer` of crate factors).
pub record FactorsTold (code days : ℕ) (r : FactorNumbers) : Type 0 where
  pub answer : Result Factors Refused
  pub is_answer : FactorsAre code days answer
  pub is : r ≡ factor_numbers answer
