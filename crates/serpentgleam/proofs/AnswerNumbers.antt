-- What the operations tell a C program, for every file, every list and every day: the numbers of `rules`' Answers and
-- DayAnswers.
-- Assumes nothing.
use Prim.Native.Nat.{ℕ, ◌≤◌, ◌<◌}
use mathlib.Core.List.{List}
use mathlib.Core.Path.{◌≡◌, refl, sym, ap, ◌∙◌}
use native.Mathlib.Omega.{arith}
use lib.ListN.{length}
use Rattle.rules.proofs.Answers.{margin_accepted, margin_refused, margin_short, number_range, premium_accepted, premium_refused, room_enough}
use Rattle.rules.proofs.DayAnswers.{day_done, day_no_series, day_of_refused, day_only, day_wrong_prices}
use Rattle.rules.proofs.Demand3.{answered}
use Rattle.rules.specs.Day.{DayWithin, day_answer}
use Rattle.rules.specs.File.{Account}
use Rattle.rules.specs.Lines.{entries_for, lines, margin_answer, premium_answer, premiums, total}
use Rattle.rules.specs.Refusals.{accepted, meaning, number, refused}
use Rattle.rules.specs.declared.Day.{Day}
use Rattle.serpentgleam.specs.DayNumbers.{day_numbers}
use Rattle.serpentgleam.specs.MarginNumbers.{answer_numbers, margin_numbers}
use Rattle.std.specs.Prelude.{Result, Ok, Err}
use Rattle.rules.specs.declared.Refused.{Refused}
use Rattle.rules.specs.declared.Tally.{Tally}

module _ (b : List ℕ) (n : ℕ) where
  -- An accepted file and a list of at least 2 × p entries: refusal 0, row 0, the line count and the total.
  pub accepted_numbers : (a : Account) → meaning b ≡ accepted a → entries_for a.positions ≤ n
      → margin_numbers (margin_answer b n) ≡ record { refusal = 0; row = 0; lines = length (lines a); total = total a }
  accepted_numbers a e long = ap margin_numbers (margin_accepted b a e n long)

  -- An accepted file and a shorter list: 12, and nothing else.
  pub short_numbers : (a : Account) → meaning b ≡ accepted a → n < entries_for a.positions
      → margin_numbers (margin_answer b n) ≡ record { refusal = 12; row = 0; lines = 0; total = 0 }
  short_numbers a e short = ap margin_numbers (margin_short b a e n short)

  -- A refused file: its number and row.
  pub refused_numbers : (k row : ℕ) → meaning b ≡ refused k row
      → margin_numbers (margin_answer b n) ≡ record { refusal = k; row = row; lines = 0; total = 0 }
  refused_numbers k row e =
      let r = margin_refused b k row e n in
      ap margin_numbers r.2 ∙ ap (λ (x : ℕ). record { refusal = x; row = row; lines = 0; total = 0 }) r.1

  -- The other way round: refusal 0 is given only where the file is accepted and the list has at least 2 × p entries.
  pub no_refusal : (margin_numbers (margin_answer b n)).refusal ≡ 0 → (a : Account) × (meaning b ≡ accepted a) × (entries_for a.positions ≤ n)
  no_refusal z = go (margin_answer b n) refl
    where
      go : (x : Result Tally Refused) → margin_answer b n ≡ x → (a : Account) × (meaning b ≡ accepted a) × (entries_for a.positions ≤ n)
      go (Ok margin) e =
          let k = answered b n margin.count margin.total e in
          (k.0, k.1, room_enough b k.0 k.1 n margin.count margin.total e)
      go (Err refusal) e =
          let y : number refusal.why ≡ 0 = sym (ap (λ (x : Result Tally Refused). (margin_numbers x).refusal) e) ∙ z in
          absurd (omega (arith, number_range refusal.why))

-- The premiums that `serpentgleam_premiums` tells: of an accepted file its account's, of a refused one its number and row.
module _ (b : List ℕ) where
  pub accepted_premiums : (a : Account) → meaning b ≡ accepted a
      → answer_numbers (premium_answer b) ≡ record { refusal = 0; row = 0; value = premiums a }
  accepted_premiums a e = ap answer_numbers (premium_accepted b a e)

  pub refused_premiums : (k row : ℕ) → meaning b ≡ refused k row
      → answer_numbers (premium_answer b) ≡ record { refusal = k; row = row; value = 0 }
  refused_premiums k row e =
      let r = premium_refused b k row e in
      ap answer_numbers r.2 ∙ ap (λ (x : ℕ). record { refusal = x; row = row; value = 0 }) r.1

-- A day that `serpentgleam_day` is asked for: of a refused file its number and row; of an accepted one 16, 17 or 0.
module _ (b : List ℕ) (d : Day) where
  pub refused_day : (k row : ℕ) → meaning b ≡ refused k row → day_numbers (day_answer b d) ≡ record { refusal = k; row = row; value = 0 }
  refused_day k row e =
      let r = day_of_refused b d k row e in
      ap day_numbers r.2 ∙ ap (λ (x : ℕ). record { refusal = x; row = row; value = 0 }) r.1

  module _ (a : Account) (e : meaning b ≡ accepted a) where
    pub no_series_day : a.series ≤ d.series → day_numbers (day_answer b d) ≡ record { refusal = 16; row = 0; value = 0 }
    no_series_day h = ap day_numbers (day_no_series b d a e h)

    pub wrong_prices_day : d.series < a.series → (DayWithin a.series d → ⊥) → day_numbers (day_answer b d) ≡ record { refusal = 17; row = 0; value = 0 }
    wrong_prices_day h out = ap day_numbers (day_wrong_prices b d a e h out)

    pub applied_day : DayWithin a.series d → day_numbers (day_answer b d) ≡ record { refusal = 0; row = 0; value = 0 }
    applied_day w = ap day_numbers (day_done b d a e w)

  -- The other way round: refusal 0 is given only where the file is accepted and the day is within its limits.
  pub no_day_refusal : (day_numbers (day_answer b d)).refusal ≡ 0 → (a : Account) × (meaning b ≡ accepted a) × DayWithin a.series d
  no_day_refusal z = go (day_answer b d) refl
    where
      go : (x : Result (Unit {0}) Refused) → day_answer b d ≡ x → (a : Account) × (meaning b ≡ accepted a) × DayWithin a.series d
      go (Ok u) e = day_only b d e
      go (Err refusal) e =
          let y : number refusal.why ≡ 0 = sym (ap (λ (x : Result (Unit {0}) Refused). (day_numbers x).refusal) e) ∙ z in
          absurd (omega (arith, number_range refusal.why))
