-- Values of taking pairs apart, one theorem: the account of document 01's example with none, one and two pairs in the list,
-- from its bytes; the list after a call; pairing, taking apart and pairing again; 19, and what is refused before it; an
-- account without positions.
-- Assumes nothing.
use Prim.Native.Nat.{ℕ}
use mathlib.Core.List.{List, [], ◌∷◌}
use mathlib.Core.Path.{◌≡◌, refl}
use Rattle.rules.proofs.CheckOrder.{no_rows}
use Rattle.rules.proofs.FileTables.{row_bytes, two_rows}
use Rattle.rules.proofs.InstalmentTables.{enough_of, first_pair, huge, line_of, list_of, mark, no_pairs, one_pair, second_pair, short_of, two_pairs}
use Rattle.rules.proofs.PrintedOutput.{example}
use Rattle.rules.specs.File.{account_of, layout, position_row, series_row}
use Rattle.rules.specs.Instalments.{PairedList, after_call, amount_so_far, begins_with, instalment_fault, list_paired, pair_answer}
use Rattle.rules.specs.Lines.{left_lines, pair_lines, premiums, sum_over, sum_to}
use Rattle.rules.specs.OnePosition.{unit_margin}
use Rattle.rules.specs.Pairs.{along, gap_of, left_after, made_after, may_of, through}
use Rattle.rules.specs.Refusals.{file_read, matched_fault, position_row_fault, position_rows, refuse, refused_at, rows, series_row_fault, series_rows, trailer_fault}
use Rattle.rules.specs.Spreads.{unit_spread}
use Rattle.rules.specs.TakingApart.{after_apart, apart_answer, apart_fault, back_again, contracts_left, list_apart}
use Rattle.rules.specs.declared.Line.{Line}
use Rattle.rules.specs.declared.Refusal.{Refusal}
use Rattle.rules.specs.declared.Refusal.TheVariants.{AboveCount, FileSize, ListTooShort, NotFirstPairs, PositionRange}
use Rattle.std.specs.Prelude.{Ok}

-- An entry of zeros.
abbrev zeros : Line
zeros = mark 0

abbrev paired_list : List Line → ℕ → PairedList
paired_list out count = record { list = out; count = count }

-- The new count, by the count and k.
abbrev Counts : Type 0
Counts =
    (apart_answer example no_pairs 0 0 ≡ Ok 0)
    × (apart_answer example one_pair 1 0 ≡ Ok 1)
    × (apart_answer example one_pair 1 1 ≡ Ok 0)
    × (apart_answer example two_pairs 2 0 ≡ Ok 2)
    × (apart_answer example two_pairs 2 1 ≡ Ok 1)
    × (apart_answer example two_pairs 2 2 ≡ Ok 0)
    -- Entries from count on are not looked at.
    × (apart_answer example two_pairs 1 1 ≡ Ok 0)
    × (apart_answer example two_pairs 0 0 ≡ Ok 0)

-- The list after a call: the latest lines are removed, and the entries after the count stay, a pair line too.
abbrev ListsApart : Type 0
ListsApart =
    (list_apart example no_pairs 0 0 ≡ no_pairs)
    × (list_apart example one_pair 1 0 ≡ one_pair)
    × (list_apart example one_pair 1 1 ≡ list_of zeros (mark 8))
    × (list_apart example two_pairs 2 0 ≡ two_pairs)
    × (list_apart example two_pairs 2 1 ≡ list_of first_pair zeros)
    × (list_apart example two_pairs 2 2 ≡ list_of zeros zeros)
    × (list_apart example two_pairs 1 1 ≡ list_of zeros second_pair)
    × (list_apart example two_pairs 0 0 ≡ two_pairs)
    × (list_apart example (enough_of first_pair second_pair) 2 2 ≡ enough_of zeros zeros)
    -- One after the other, as both at once; the amount after it, as before the pair.
    × (after_apart example 1 (after_apart example 1 (paired_list two_pairs 2)) ≡ paired_list (list_of zeros zeros) 0)
    × (amount_so_far example (list_apart example two_pairs 2 1) 1 ≡ Ok 17_800)
    × (amount_so_far example (list_apart example two_pairs 2 2) 0 ≡ Ok 25_300)

-- Row 0 has 10 contracts, of which the pairs take 3 and 4; rows 1 and 2 have 4 and 3.
abbrev left : ℕ → PairedList → ℕ → Type 0
left n kept row = contracts_left (account_of example (layout example)) kept row ≡ n

abbrev Contracts : Type 0
Contracts =
    left 3 (paired_list two_pairs 2) 0
    × left 7 (after_apart example 1 (paired_list two_pairs 2)) 0
    × left 10 (after_apart example 2 (paired_list two_pairs 2)) 0
    × left 4 (after_apart example 1 (paired_list two_pairs 2)) 1
    × left 0 (after_apart example 1 (paired_list two_pairs 2)) 2
    × left 3 (after_apart example 2 (paired_list two_pairs 2)) 2

-- Pairing, taking apart as many as were made, and pairing again.
abbrev RoundTrips : Type 0
RoundTrips =
    (back_again example 0 (paired_list no_pairs 0) ≡ paired_list no_pairs 0)
    × (back_again example 1 (paired_list no_pairs 0) ≡ paired_list (list_of zeros (mark 8)) 0)
    × (back_again example huge (paired_list no_pairs 0) ≡ paired_list (list_of zeros zeros) 0)
    × (back_again example 1 (paired_list one_pair 1) ≡ paired_list (list_of first_pair zeros) 1)
    × (back_again example 5 (paired_list two_pairs 2) ≡ paired_list two_pairs 2)
    × (after_call example 1 (back_again example 1 (paired_list no_pairs 0)) ≡ paired_list one_pair 1)
    × (after_call example huge (back_again example huge (paired_list no_pairs 0)) ≡ paired_list two_pairs 2)
    × (after_call example 1 (after_apart example 1 (paired_list two_pairs 2)) ≡ paired_list two_pairs 2)
    × (after_call example huge (after_apart example 2 (paired_list two_pairs 2)) ≡ paired_list two_pairs 2)
    -- Refused, the pairing makes none and none are taken apart.
    × (back_again example 1 (paired_list no_pairs 1) ≡ paired_list no_pairs 1)
    × (back_again example 1 (paired_list one_pair 2) ≡ paired_list one_pair 2)

-- Refused with row 0, and the list stays as it is.
abbrev refused : Refusal → List Line → ℕ → ℕ → Type 0
refused w out count k = (apart_answer example out count k ≡ refused_at w 0) × (list_apart example out count k ≡ out)

-- 19: k above the count, whatever stands after the count.
abbrev AboveTheCount : Type 0
AboveTheCount =
    refused AboveCount no_pairs 0 1
    × refused AboveCount no_pairs 0 huge
    × refused AboveCount one_pair 1 2
    × refused AboveCount one_pair 1 huge
    × refused AboveCount two_pairs 2 3
    × refused AboveCount two_pairs 2 huge
    × refused AboveCount two_pairs 1 2
    × refused AboveCount two_pairs 0 1
    × refused AboveCount (enough_of first_pair second_pair) 2 3

-- 18 before 19, and 18 alone: other lines, or a count above the pairs.
abbrev LinesBefore : Type 0
LinesBefore =
    refused NotFirstPairs no_pairs 1 2
    × refused NotFirstPairs no_pairs 1 1
    × refused NotFirstPairs no_pairs 1 0
    × refused NotFirstPairs one_pair 2 3
    × refused NotFirstPairs one_pair 2 1
    × refused NotFirstPairs (list_of (line_of 1 0 2 4 0) second_pair) 1 2
    × refused NotFirstPairs (list_of first_pair (line_of 1 0 1 4 2_900)) 2 1
    × refused NotFirstPairs two_pairs 3 4
    × refused NotFirstPairs two_pairs 3 1
    × refused NotFirstPairs two_pairs 8 huge
    × refused NotFirstPairs two_pairs huge huge

-- 12 before 18 and 19, and the file's refusal before all of them.
abbrev Order : Type 0
Order =
    refused ListTooShort (short_of (mark 7) (mark 8)) 0 0
    × refused ListTooShort (short_of (mark 7) (mark 8)) 0 1
    × refused ListTooShort (short_of (mark 7) (mark 8)) 1 2
    × refused ListTooShort (short_of first_pair second_pair) 2 3
    × refused ListTooShort (short_of first_pair second_pair) 2 1
    × (apart_answer (7 ∷ []) [] 0 1 ≡ refused_at FileSize 0)
    × (apart_answer (7 ∷ []) (mark 7 ∷ []) 1 2 ≡ refused_at FileSize 0)
    × (list_apart (7 ∷ []) (mark 7 ∷ []) 1 1 ≡ mark 7 ∷ [])
    × (apart_answer (two_rows (row_bytes 0 1 0 4 10 3100 0 0 0 1)) [] 1 2 ≡ refused_at PositionRange 1)

-- Without positions there are no pairs.
abbrev NoPairs : Type 0
NoPairs =
    (apart_answer no_rows [] 0 0 ≡ Ok 0)
    × (apart_answer no_rows [] 0 1 ≡ refused_at AboveCount 0)
    × (apart_answer no_rows [] 1 1 ≡ refused_at NotFirstPairs 0)
    × (list_apart no_rows (mark 7 ∷ []) 0 0 ≡ mark 7 ∷ [])
    × (list_apart no_rows (mark 7 ∷ []) 0 huge ≡ mark 7 ∷ [])
    × (back_again no_rows huge (paired_list [] 0) ≡ paired_list [] 0)

pub apart_values : Counts × ListsApart × Contracts × RoundTrips × AboveTheCount × LinesBefore × Order × NoPairs
unfolding apart_answer apart_fault list_apart pair_answer list_paired amount_so_far instalment_fault begins_with left_lines pair_lines left_after made_after through along may_of gap_of unit_spread unit_margin premiums sum_to sum_over file_read layout series_row position_row series_rows position_rows rows trailer_fault series_row_fault position_row_fault matched_fault refuse
apart_values = (
  (refl, refl, refl, refl, refl, refl, refl, refl),
  (refl, refl, refl, refl, refl, refl, refl, refl, refl, refl, refl, refl),
  (refl, refl, refl, refl, refl, refl),
  (refl, refl, refl, refl, refl, refl, refl, refl, refl, refl, refl),
  ((refl, refl), (refl, refl), (refl, refl), (refl, refl), (refl, refl), (refl, refl), (refl, refl), (refl, refl), (refl, refl)),
  ((refl, refl), (refl, refl), (refl, refl), (refl, refl), (refl, refl), (refl, refl), (refl, refl), (refl, refl), (refl, refl), (refl, refl), (refl, refl)),
  ((refl, refl), (refl, refl), (refl, refl), (refl, refl), (refl, refl), refl, refl, refl, refl),
  (refl, refl, refl, refl, refl, refl),
)
