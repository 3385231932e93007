-- What the two calls of the pairing in instalments tell a C program, for every file, list, count and allowance: the numbers of
-- `rules`' InstalmentAnswers.
-- Assumes nothing.
use Prim.Native.Nat.{ℕ, ◌≤◌, ◌<◌}
use mathlib.Core.List.{List}
use mathlib.Core.Path.{◌≡◌, refl, sym, ap, ◌∙◌}
use native.Mathlib.Omega.{arith}
use lib.ListN.{length}
use Rattle.rules.proofs.Answers.{number_range}
use Rattle.rules.proofs.InstalmentAnswers.{FirstPairs, pair_18, pair_accepted, pair_goes, pair_only, pair_refused, pair_short, so_far_18, so_far_accepted, so_far_goes, so_far_only, so_far_refused, so_far_short}
use Rattle.rules.specs.File.{Account}
use Rattle.rules.specs.Instalments.{amount_so_far, made_of, pair_answer}
use Rattle.rules.specs.Lines.{entries_for, total_after}
use Rattle.rules.specs.Refusals.{accepted, meaning, number, refused}
use Rattle.rules.specs.declared.Line.{Line}
use Rattle.serpentgleam.specs.MarginNumbers.{answer_numbers}
use Rattle.std.specs.Prelude.{Result, Ok, Err}
use Rattle.rules.specs.declared.Refused.{Refused}

-- `serpentgleam_pair`, and `serpentgleam_amount_so_far`.
module _ (b : List ℕ) (out : List Line) (count : ℕ) where
  -- A refused file: its number and row.
  pub refused_pairs : (k row : ℕ) → meaning b ≡ refused k row → (allowance : ℕ)
      → answer_numbers (pair_answer b out count allowance) ≡ record { refusal = k; row = row; value = 0 }
  refused_pairs k row e allowance =
      let r = pair_refused b out count k row e allowance in
      ap answer_numbers r.2 ∙ ap (λ (x : ℕ). record { refusal = x; row = row; value = 0 }) r.1

  pub refused_so_far : (k row : ℕ) → meaning b ≡ refused k row → answer_numbers (amount_so_far b out count) ≡ record { refusal = k; row = row; value = 0 }
  refused_so_far k row e =
      let r = so_far_refused b out count k row e in
      ap answer_numbers r.2 ∙ ap (λ (x : ℕ). record { refusal = x; row = row; value = 0 }) r.1

  module _ (a : Account) (e : meaning b ≡ accepted a) where
    -- An accepted file and a list of fewer than 2 × p entries: 12.
    pub short_pairs : length out < entries_for a.positions → (allowance : ℕ)
        → answer_numbers (pair_answer b out count allowance) ≡ record { refusal = 12; row = 0; value = 0 }
    short_pairs short allowance = ap answer_numbers (pair_short b a e out count short allowance)

    pub short_so_far : length out < entries_for a.positions → answer_numbers (amount_so_far b out count) ≡ record { refusal = 12; row = 0; value = 0 }
    short_so_far short = ap answer_numbers (so_far_short b a e out count short)

    -- A list of at least 2 × p entries whose first lines are not the account's first pairs: 18.
    pub other_pairs : entries_for a.positions ≤ length out → (FirstPairs a out count → ⊥) → (allowance : ℕ)
        → answer_numbers (pair_answer b out count allowance) ≡ record { refusal = 18; row = 0; value = 0 }
    other_pairs long wrong allowance = ap answer_numbers (pair_18 b a e out count long wrong allowance)

    pub other_so_far : entries_for a.positions ≤ length out → (FirstPairs a out count → ⊥)
        → answer_numbers (amount_so_far b out count) ≡ record { refusal = 18; row = 0; value = 0 }
    other_so_far long wrong = ap answer_numbers (so_far_18 b a e out count long wrong)

    -- Else the pairs made, and the amount after the pairs that there are.
    pub made_pairs : entries_for a.positions ≤ length out → FirstPairs a out count → (allowance : ℕ)
        → answer_numbers (pair_answer b out count allowance) ≡ record { refusal = 0; row = 0; value = made_of a count allowance }
    made_pairs long f allowance = ap answer_numbers (pair_goes b a e out count long f allowance)

    pub told_so_far : entries_for a.positions ≤ length out → FirstPairs a out count
        → answer_numbers (amount_so_far b out count) ≡ record { refusal = 0; row = 0; value = total_after a count }
    told_so_far long f = ap answer_numbers (so_far_goes b a e out count long f)

  -- The other way round: refusal 0 is given only where the file is accepted, the list has at least 2 × p entries and the first
  -- pairs stand in it.
  abbrev Goes : Type 0
  Goes = (a : Account) × (meaning b ≡ accepted a) × (entries_for a.positions ≤ length out) × FirstPairs a out count

  pub no_pair_refusal : (allowance : ℕ) → (answer_numbers (pair_answer b out count allowance)).refusal ≡ 0 → Goes
  no_pair_refusal allowance z = go (pair_answer b out count allowance) refl
    where
      go : (x : Result ℕ Refused) → pair_answer b out count allowance ≡ x → Goes
      go (Ok made) q =
          let k = pair_accepted b out count allowance made q in
          let s = pair_only b k.0 k.1 out count allowance made q in
          (k.0, k.1, s.0, s.1)
      go (Err refusal) q =
          let y : number refusal.why ≡ 0 = sym (ap (λ (x : Result ℕ Refused). (answer_numbers x).refusal) q) ∙ z in
          absurd (omega (arith, number_range refusal.why))

  pub no_so_far_refusal : (answer_numbers (amount_so_far b out count)).refusal ≡ 0 → Goes
  no_so_far_refusal z = go (amount_so_far b out count) refl
    where
      go : (x : Result ℕ Refused) → amount_so_far b out count ≡ x → Goes
      go (Ok amount) q =
          let k = so_far_accepted b out count amount q in
          let s = so_far_only b k.0 k.1 out count amount q in
          (k.0, k.1, s.0, s.1)
      go (Err refusal) q =
          let y : number refusal.why ≡ 0 = sym (ap (λ (x : Result ℕ Refused). (answer_numbers x).refusal) q) ∙ z in
          absurd (omega (arith, number_range refusal.why))
