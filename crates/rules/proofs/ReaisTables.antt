-- Computed values of document 02 [6]: part of the table of `RuleValues`.
use Prim.Native.Nat.{ℕ}
use mathlib.Core.List.{List, [], ◌∷◌, ◌++◌}
use mathlib.Core.Path.{◌≡◌}
use lib.IntN.{pos}
use Rattle.rules.proofs.CheckOrder.{series_row_bytes, trailer_bytes}
use Rattle.rules.proofs.FileTables.{row_bytes}
use Rattle.rules.specs.File.{account_of, layout, span}
use Rattle.rules.specs.Lines.{comes_to, lines_given, margin_answer, premium_answer, total_after}
use Rattle.rules.specs.OnePosition.{amount_answer, rounded_up, signed_answer}
use Rattle.rules.specs.Reais.{most_amount}
use Rattle.std.specs.Prelude.{Ok}

-- 0; what gives one real, from a millionth of a centavo to 100 centavos; and a millionth of a centavo more.
abbrev pub Roundings : Type 0
Roundings =
    (rounded_up 0 ≡ 0)
    × (rounded_up 1 ≡ 100)
    × (rounded_up 99_999_999 ≡ 100)
    × (rounded_up 100_000_000 ≡ 100)
    × (rounded_up 100_000_001 ≡ 200)

-- Call series PV 10, fa 1.2, fb 0.8, f3 0, M 1; written PE 10, Q 2; by itself, and with held PE 11, Q 1 and the premium
-- given.
abbrev written_row : List ℕ
written_row = series_row_bytes 10 1_200_000 800_000 0 1 0 0 ++ row_bytes 0 1 0 4 2 10 0 0 0 0

abbrev alone : List ℕ
alone = written_row ++ trailer_bytes 1 1 (span 1 1) 0

abbrev pub paired : ℕ → List ℕ
paired premium = written_row ++ row_bytes 0 0 0 4 1 11 0 0 0 premium ++ trailer_bytes 1 2 (span 1 2) 0

-- Each line is rounded up by itself, so that a pair can raise the total: 4 centavos by themselves are 100; 1 centavo for
-- the pair and 2 for the contract left are 100 each.
abbrev pub PairRaises : Type 0
PairRaises =
    (margin_answer alone 2 ≡ comes_to 1 100)
    × (total_after (account_of (paired 0) (layout (paired 0))) 0 ≡ 100)
    × (margin_answer (paired 0) 4 ≡ comes_to 2 200)
    × (lines_given (paired 0) 4
    ≡ record { kind = 1; secondNumber = 0; thirdNumber = 1; fourthNumber = 1; fifthNumber = 100 }
    ∷ record { kind = 2; secondNumber = 0; thirdNumber = 1; fourthNumber = 100; fifthNumber = 0 }
    ∷ [])

-- A written row's amount is rounded; premiums are exact, as a held row's amount, by themselves and in the total.
abbrev pub ExactPremiums : Type 0
ExactPremiums =
    (signed_answer (amount_answer (paired 7) 0) ≡ pos 100)
    × (signed_answer (amount_answer (paired 7) 1) ≡ pos 7)
    × (premium_answer (paired 7) ≡ Ok 7)
    × (margin_answer (paired 7) 4 ≡ comes_to 2 207)

-- PV 10,000,000, fa 10,000,000, M 1,000; written PE 1, Q 100,000.
abbrev largest : List ℕ
largest = series_row_bytes 10_000_000 10_000_000 0 0 1_000 0 0 ++ row_bytes 0 1 0 4 100_000 1 0 0 0 0 ++ trailer_bytes 1 1 (span 1 1) 0

abbrev pub Largest : Type 0
Largest = (signed_answer (amount_answer largest 0) ≡ pos most_amount) × (margin_answer largest 2 ≡ comes_to 1 most_amount)
