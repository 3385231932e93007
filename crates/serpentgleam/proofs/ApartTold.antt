-- What the call that takes pairs apart tells a C program, for every file, list, count and k: the numbers of `rules`'
-- ApartAnswers.
-- Assumes nothing.
use Prim.Native.Nat.{ℕ, ◌-◌, ◌≤◌, ◌<◌}
use mathlib.Core.List.{List}
use mathlib.Core.Path.{◌≡◌, refl, sym, ap, ◌∙◌}
use native.Mathlib.Omega.{arith}
use lib.ListN.{length}
use Rattle.rules.proofs.Answers.{number_range}
use Rattle.rules.proofs.ApartAnswers.{apart_18, apart_19, apart_accepted, apart_goes, apart_only, apart_refused, apart_short}
use Rattle.rules.proofs.InstalmentAnswers.{FirstPairs}
use Rattle.rules.specs.File.{Account}
use Rattle.rules.specs.Lines.{entries_for}
use Rattle.rules.specs.Refusals.{accepted, meaning, number, refused}
use Rattle.rules.specs.TakingApart.{apart_answer}
use Rattle.rules.specs.declared.Line.{Line}
use Rattle.serpentgleam.specs.MarginNumbers.{answer_numbers}
use Rattle.std.specs.Prelude.{Result, Ok, Err}
use Rattle.rules.specs.declared.Refused.{Refused}

module _ (b : List ℕ) (out : List Line) (count k : ℕ) where
  -- A refused file: its number and row.
  pub refused_apart : (n row : ℕ) → meaning b ≡ refused n row
      → answer_numbers (apart_answer b out count k) ≡ record { refusal = n; row = row; value = 0 }
  refused_apart n row e =
      let r = apart_refused b out count k n row e in
      ap answer_numbers r.2 ∙ ap (λ (x : ℕ). record { refusal = x; row = row; value = 0 }) r.1

  module _ (a : Account) (e : meaning b ≡ accepted a) where
    -- An accepted file and a list of fewer than 2 × p entries: 12.
    pub short_apart : length out < entries_for a.positions → answer_numbers (apart_answer b out count k) ≡ record { refusal = 12; row = 0; value = 0 }
    short_apart short = ap answer_numbers (apart_short b a e out count short k)

    -- A list of at least 2 × p entries whose first lines are not the account's first pairs: 18.
    pub other_apart : entries_for a.positions ≤ length out → (FirstPairs a out count → ⊥)
        → answer_numbers (apart_answer b out count k) ≡ record { refusal = 18; row = 0; value = 0 }
    other_apart long wrong = ap answer_numbers (apart_18 b a e out count long wrong k)

    -- More to take apart than there are: 19.
    pub above_apart : entries_for a.positions ≤ length out → FirstPairs a out count → count < k
        → answer_numbers (apart_answer b out count k) ≡ record { refusal = 19; row = 0; value = 0 }
    above_apart long f h = ap answer_numbers (apart_19 b a e out count long f k h)

    -- Else the new count.
    pub left_apart : entries_for a.positions ≤ length out → FirstPairs a out count → k ≤ count
        → answer_numbers (apart_answer b out count k) ≡ record { refusal = 0; row = 0; value = count - k }
    left_apart long f h = ap answer_numbers (apart_goes b a e out count long f k h)

  -- The other way round: refusal 0 is given only where the file is accepted, the list has at least 2 × p entries, the first pairs
  -- stand in it, and there are k of them.
  abbrev Goes : Type 0
  Goes = (a : Account) × (meaning b ≡ accepted a) × (entries_for a.positions ≤ length out) × FirstPairs a out count × (k ≤ count)

  pub no_apart_refusal : (answer_numbers (apart_answer b out count k)).refusal ≡ 0 → Goes
  no_apart_refusal z = go (apart_answer b out count k) refl
    where
      go : (x : Result ℕ Refused) → apart_answer b out count k ≡ x → Goes
      go (Ok left) q =
          let known = apart_accepted b out count k left q in
          let s = apart_only b out count k known.0 known.1 left q in
          (known.0, known.1, s.0, s.1, s.2)
      go (Err refusal) q =
          let y : number refusal.why ≡ 0 = sym (ap (λ (x : Result ℕ Refused). (answer_numbers x).refusal) q) ∙ z in
          absurd (omega (arith, number_range refusal.why))
