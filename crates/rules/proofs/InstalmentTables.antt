-- Values of pairing in instalments, one theorem: the account of document 01's example after none, one and two pairs, from its
-- bytes; the list after a call; each way to be refused with 18, and what is refused before it; an account without positions.
-- Assumes nothing.
use Prim.Native.Nat.{ℕ}
use mathlib.Core.List.{List, [], ◌∷◌, ◌++◌}
use mathlib.Core.Path.{◌≡◌, refl}
use Rattle.rules.proofs.CheckOrder.{no_rows}
use Rattle.rules.proofs.FileTables.{row_bytes, two_rows}
use Rattle.rules.proofs.PrintedOutput.{example}
use Rattle.rules.proofs.ReaisTables.{paired}
use Rattle.rules.specs.File.{layout, position_row, series_row}
use Rattle.rules.specs.Instalments.{after_calls, amount_so_far, begins_with, begun, instalment_fault, list_paired, pair_answer}
use Rattle.rules.specs.Lines.{left_lines, pair_lines, premiums, sum_over, sum_to}
use Rattle.rules.specs.OnePosition.{unit_margin}
use Rattle.rules.specs.Pairs.{along, gap_of, left_after, made_after, may_of, through}
use Rattle.rules.specs.Refusals.{file_read, matched_fault, position_row_fault, position_rows, refuse, refused_at, rows, series_row_fault, series_rows, trailer_fault}
use Rattle.rules.specs.Spreads.{unit_spread}
use Rattle.rules.specs.declared.Line.{Line}
use Rattle.rules.specs.declared.Refusal.TheVariants.{FileSize, ListTooShort, NotFirstPairs, PositionRange}
use Rattle.std.specs.Prelude.{Ok}

abbrev pub line_of : ℕ → ℕ → ℕ → ℕ → ℕ → Line
line_of kind second third fourth fifth =
    record { kind = kind; secondNumber = second; thirdNumber = third; fourthNumber = fourth; fifthNumber = fifth }

-- An entry that is no line.
abbrev pub mark : ℕ → Line
mark n = line_of n n n n n

-- Lists with these two entries first, for an account of three positions: one entry too short, long enough, one entry more.
abbrev pub short_of : Line → Line → List Line
short_of x y = x ∷ y ∷ mark 9 ∷ mark 10 ∷ mark 11 ∷ []

abbrev pub enough_of : Line → Line → List Line
enough_of x y = short_of x y ++ (mark 12 ∷ [])

abbrev pub list_of : Line → Line → List Line
list_of x y = enough_of x y ++ (mark 13 ∷ [])

-- "pair 0 2 3 0" and "pair 0 1 4 3000", after none, one and both of which the list is this.
abbrev pub first_pair : Line
first_pair = line_of 1 0 2 3 0

abbrev pub second_pair : Line
second_pair = line_of 1 0 1 4 3_000

abbrev pub no_pairs : List Line
no_pairs = list_of (mark 7) (mark 8)

abbrev pub one_pair : List Line
one_pair = list_of first_pair (mark 8)

abbrev pub two_pairs : List Line
two_pairs = list_of first_pair second_pair

-- The largest number of 64 bits.
abbrev pub huge : ℕ
huge = 18_446_744_073_709_551_615

-- Row 0 has 500 ticks × 5 centavos for each of 10 contracts, then of 7, then of 3; the pairs have 0 and 3,000; premiums 300.
-- Entries from count on are not looked at.
abbrev Amounts : Type 0
Amounts =
    (amount_so_far example no_pairs 0 ≡ Ok 25_300)
    × (amount_so_far example one_pair 1 ≡ Ok 17_800)
    × (amount_so_far example two_pairs 2 ≡ Ok 10_800)
    × (amount_so_far example two_pairs 1 ≡ Ok 17_800)
    × (amount_so_far example two_pairs 0 ≡ Ok 25_300)
    -- Each line is rounded up by itself, and premiums are exact: 4 centavos and 7; 1, 2 and 7.
    × (amount_so_far (paired 7) no_pairs 0 ≡ Ok 107)
    × (amount_so_far (paired 7) (list_of (line_of 1 0 1 1 100) (mark 8)) 1 ≡ Ok 207)

-- How many pairs are made, by the count and the allowance: there are two.
abbrev PairsMade : Type 0
PairsMade =
    (pair_answer example no_pairs 0 0 ≡ Ok 0)
    × (pair_answer example no_pairs 0 1 ≡ Ok 1)
    × (pair_answer example no_pairs 0 2 ≡ Ok 2)
    × (pair_answer example no_pairs 0 3 ≡ Ok 2)
    × (pair_answer example no_pairs 0 huge ≡ Ok 2)
    × (pair_answer example one_pair 1 0 ≡ Ok 0)
    × (pair_answer example one_pair 1 1 ≡ Ok 1)
    × (pair_answer example one_pair 1 2 ≡ Ok 1)
    × (pair_answer example one_pair 1 huge ≡ Ok 1)
    × (pair_answer example two_pairs 2 0 ≡ Ok 0)
    × (pair_answer example two_pairs 2 1 ≡ Ok 0)
    × (pair_answer example two_pairs 2 huge ≡ Ok 0)

-- The list after a call; begun anew, the first line is written again and the entry after it stays; refused, all stay.
abbrev ListsAfter : Type 0
ListsAfter =
    (list_paired example no_pairs 0 0 ≡ no_pairs)
    × (list_paired example no_pairs 0 1 ≡ one_pair)
    × (list_paired example no_pairs 0 2 ≡ two_pairs)
    × (list_paired example no_pairs 0 huge ≡ two_pairs)
    × (list_paired example one_pair 1 0 ≡ one_pair)
    × (list_paired example one_pair 1 1 ≡ two_pairs)
    × (list_paired example one_pair 1 huge ≡ two_pairs)
    × (list_paired example two_pairs 2 huge ≡ two_pairs)
    × (list_paired example two_pairs 0 1 ≡ two_pairs)
    × (list_paired example no_pairs 1 1 ≡ no_pairs)
    × (list_paired example one_pair 2 1 ≡ one_pair)
    × (after_calls example (1 ∷ 0 ∷ 5 ∷ []) (begun no_pairs) ≡ record { list = two_pairs; count = 2 })

-- 18: each of the five numbers of the first and of the second line.
abbrev refused18 : List Line → ℕ → Type 0
refused18 out count =
    (pair_answer example out count 1 ≡ refused_at NotFirstPairs 0) × (amount_so_far example out count ≡ refused_at NotFirstPairs 0)

abbrev NumbersWrong : Type 0
NumbersWrong =
    refused18 (list_of (line_of 2 0 2 3 0) second_pair) 1
    × refused18 (list_of (line_of 1 1 2 3 0) second_pair) 1
    × refused18 (list_of (line_of 1 0 1 3 0) second_pair) 1
    × refused18 (list_of (line_of 1 0 2 4 0) second_pair) 1
    × refused18 (list_of (line_of 1 0 2 3 1) second_pair) 2
    × refused18 (list_of first_pair (line_of 0 0 1 4 3_000)) 2
    × refused18 (list_of first_pair (line_of 1 2 1 4 3_000)) 2
    × refused18 (list_of first_pair (line_of 1 0 0 4 3_000)) 2
    × refused18 (list_of first_pair (line_of 1 0 1 3 3_000)) 2
    × refused18 (list_of first_pair (line_of 1 0 1 4 2_900)) 2

-- 18: a count above the pairs, with the left line too; above the list; and as large as it can be.
abbrev CountsWrong : Type 0
CountsWrong =
    refused18 two_pairs 3
    × refused18 (first_pair ∷ second_pair ∷ line_of 2 0 3 7_500 0 ∷ mark 10 ∷ mark 11 ∷ mark 12 ∷ []) 3
    × refused18 two_pairs 8
    × refused18 two_pairs huge
    × refused18 one_pair 2
    × refused18 no_pairs 1

-- The file's refusal before 12, and 12 before 18; a list of twice as many entries as positions is long
-- enough.
abbrev Order : Type 0
Order =
    (pair_answer (7 ∷ []) [] 1 1 ≡ refused_at FileSize 0)
    × (amount_so_far (7 ∷ []) [] 1 ≡ refused_at FileSize 0)
    × (pair_answer (two_rows (row_bytes 0 1 0 4 10 3100 0 0 0 1)) [] 1 1 ≡ refused_at PositionRange 1)
    × (amount_so_far (two_rows (row_bytes 0 1 0 4 10 3100 0 0 0 1)) [] 1 ≡ refused_at PositionRange 1)
    × (pair_answer example (short_of (mark 7) (mark 8)) 1 1 ≡ refused_at ListTooShort 0)
    × (amount_so_far example (short_of (mark 7) (mark 8)) huge ≡ refused_at ListTooShort 0)
    × (pair_answer example (short_of first_pair second_pair) 2 1 ≡ refused_at ListTooShort 0)
    × (list_paired example (short_of (mark 7) (mark 8)) 0 1 ≡ short_of (mark 7) (mark 8))
    × (pair_answer example (enough_of (mark 7) (mark 8)) 0 1 ≡ Ok 1)
    × (list_paired example (enough_of (mark 7) (mark 8)) 0 3 ≡ enough_of first_pair second_pair)

-- Without positions there are no pairs.
abbrev NoPairs : Type 0
NoPairs =
    (pair_answer no_rows [] 0 huge ≡ Ok 0)
    × (list_paired no_rows [] 0 huge ≡ [])
    × (amount_so_far no_rows [] 0 ≡ Ok 0)
    × (list_paired no_rows (mark 7 ∷ []) 0 huge ≡ mark 7 ∷ [])
    × (pair_answer no_rows [] 1 0 ≡ refused_at NotFirstPairs 0)
    × (amount_so_far no_rows (mark 7 ∷ []) huge ≡ refused_at NotFirstPairs 0)

pub instalment_values : Amounts × PairsMade × ListsAfter × NumbersWrong × CountsWrong × Order × NoPairs
unfolding pair_answer list_paired amount_so_far after_calls instalment_fault begins_with left_lines pair_lines left_after made_after through along may_of gap_of unit_spread unit_margin premiums sum_to sum_over file_read layout series_row position_row series_rows position_rows rows trailer_fault series_row_fault position_row_fault matched_fault refuse
instalment_values = (
  (refl, refl, refl, refl, refl, refl, refl),
  (refl, refl, refl, refl, refl, refl, refl, refl, refl, refl, refl, refl),
  (refl, refl, refl, refl, refl, refl, refl, refl, refl, refl, refl, refl),
  ((refl, refl), (refl, refl), (refl, refl), (refl, refl), (refl, refl), (refl, refl), (refl, refl), (refl, refl), (refl, refl), (refl, refl)),
  ((refl, refl), (refl, refl), (refl, refl), (refl, refl), (refl, refl), (refl, refl)),
  (refl, refl, refl, refl, refl, refl, refl, refl, refl, refl),
  (refl, refl, refl, refl, refl, refl),
)
