-- What `serpentgleam_load` tells a C program, for every seed, every p and every buffer of `room` bytes.
-- Assumes nothing.
use Prim.Native.Nat.{ℕ}
use mathlib.Core.Path.{◌≡◌, refl, sym, ap, ◌∙◌}
use native.Mathlib.Omega.{arith}
use Rattle.load.proofs.LoadAnswers.{made, made_within, not_made}
use Rattle.load.specs.Load.{LoadWithin, NoLoad, load_answer, load_size}
use Rattle.rules.proofs.Answers.{number_range}
use Rattle.rules.specs.Refusals.{number}
use Rattle.serpentgleam.specs.MarginNumbers.{answer_numbers}
use Rattle.std.specs.Prelude.{Result, Ok, Err}
use Rattle.rules.specs.declared.Refused.{Refused}

module _ (seed p room : ℕ) where
  -- Seed, p and room within their limits: refusal 0 and the bytes of the file.
  pub load_told : LoadWithin seed p room → answer_numbers (load_answer seed p room) ≡ record { refusal = 0; row = 0; value = load_size p }
  load_told w = ap answer_numbers (made seed p room w)

  -- Else 20, and nothing else.
  pub no_load_told : NoLoad seed p room → answer_numbers (load_answer seed p room) ≡ record { refusal = 20; row = 0; value = 0 }
  no_load_told n = ap answer_numbers (not_made seed p room n)

  -- The other way round: refusal 0 is given only where they are within their limits.
  pub no_load_refusal : (answer_numbers (load_answer seed p room)).refusal ≡ 0 → LoadWithin seed p room
  no_load_refusal z = go (load_answer seed p room) refl
    where
      go : (x : Result ℕ Refused) → load_answer seed p room ≡ x → LoadWithin seed p room
      go (Ok bytes) e = (made_within seed p room bytes e).0
      go (Err refusal) e =
          let y : number refusal.why ≡ 0 = sym (ap (λ (x : Result ℕ Refused). (answer_numbers x).refusal) e) ∙ z in
          absurd (omega (arith, number_range refusal.why))
