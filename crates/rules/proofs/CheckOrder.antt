-- The order of the checks, by computation: rows and files with two faults at once, of which the first wins, one accepted
-- file with a cover sheet, and the refusals that come after the file.
-- Assumes nothing.
use Prim.Native.Nat.{ℕ}
use mathlib.Core.List.{List, [], ◌∷◌, ◌++◌}
use mathlib.Core.Path.{◌≡◌, refl}
use Rattle.rules.specs.File.{layout, position_row, series_row, span}
use Rattle.rules.specs.Lines.{comes_to, left_lines, lines, lines_given, list_after, margin_answer, pair_lines, premiums, sum_over, sum_to, total}
use Rattle.rules.specs.OnePosition.{amount_answer, position_amount, unit_margin}
use Rattle.rules.specs.Pairs.{along, left_after, made_after, may_of, through}
use Rattle.rules.specs.Refusals.{clean, file_read, matched_fault, meaning, position_row_fault, position_rows, refuse, refused, refused_at, rows, series_row_fault, series_rows, trailer_fault}
use Rattle.rules.specs.Spreads.{unit_spread}
use Rattle.rules.specs.Writing.{bytes2, bytes4}
use Rattle.rules.specs.declared.Line.{Line}
use Rattle.rules.specs.declared.PositionRow.{PositionRow}
use Rattle.rules.specs.declared.Refusal.TheVariants.{Trailer, SeriesRange, SeriesType, PositionTerms, PositionRange, LimiterPrice, BarrierPrice, BarrierSide, ListTooShort, RowAskedFor}
use Rattle.rules.specs.declared.SeriesRow.{SeriesRow}
use Rattle.std.specs.Prelude.{Ok, Err}

-- A call series row with the PV, type and spare number given.
abbrev series_with : ℕ → ℕ → ℕ → SeriesRow
series_with pv option spare =
    record { pv = pv; fa = 1_200_000; fb = 800_000; f3 = 50_000; m = 5; option = option; spare = spare }

-- A written row of series 0: its kind, flags, Q, PB, barrier price and REB.
abbrev row_with : ℕ → ℕ → ℕ → ℕ → ℕ → ℕ → PositionRow
row_with kind flags q pb price reb =
    record {
      series = 0;
      side = 1;
      kind = kind;
      flags = flags;
      blocked = 0;
      q = q;
      pe = 3100;
      pb = pb;
      price = price;
      reb = reb;
      premium = 0;
    }

abbrev call : SeriesRow
call = series_with 3000 0 0

-- Each row has the two faults named; the first is found.
pub order :
    -- 5 before 6
    (series_row_fault (series_with 0 2 0) ≡ Err SeriesRange)
    × (series_row_fault (series_with 3000 2 0) ≡ Err SeriesType)
    -- 7 before 8: kind 5, Q 0
    × (position_row_fault 1 call (row_with 5 4 0 0 0 0) ≡ Err PositionTerms)
    -- 7 before 10: flag 1 on kind 3, price 0
    × (position_row_fault 1 call (row_with 3 5 10 0 0 0) ≡ Err PositionTerms)
    -- 8 before 9: Q 0, PB = PE
    × (position_row_fault 1 call (row_with 0 6 0 3100 0 0) ≡ Err PositionRange)
    -- 8 before 10: REB 10,000,001 on kind 0
    × (position_row_fault 1 call (row_with 0 4 10 0 0 10_000_001) ≡ Err PositionRange)
    -- 9 before 10: PB = PE, a price on kind 0
    × (position_row_fault 1 call (row_with 0 6 10 3100 7 0) ≡ Err LimiterPrice)
    -- 9 before 11: PB without its flag, barrier = PV
    × (position_row_fault 1 call (row_with 1 4 10 3300 3000 0) ≡ Err LimiterPrice)
    -- 10 before 11: price 0 of an up barrier
    × (position_row_fault 1 call (row_with 1 4 10 0 0 0) ≡ Err BarrierPrice)
    -- 10 stays under flag 1
    × (position_row_fault 1 call (row_with 1 5 10 0 10_000_001 0) ≡ Err BarrierPrice)
    -- 11: barrier = PV; under flag 1 it is free
    × (position_row_fault 1 call (row_with 1 4 10 0 3000 0) ≡ Err BarrierSide)
    × (position_row_fault 1 call (row_with 1 5 10 0 3000 0) ≡ clean)
    -- 7: flag 16 on kinds 0, 1 and 2, and with flag 1 on kinds 2 and 3; a bit that is no flag
    × (position_row_fault 1 call (row_with 0 20 10 0 0 0) ≡ Err PositionTerms)
    × (position_row_fault 1 call (row_with 1 20 10 0 3500 0) ≡ Err PositionTerms)
    × (position_row_fault 1 call (row_with 2 20 10 0 2500 0) ≡ Err PositionTerms)
    × (position_row_fault 1 call (row_with 2 21 10 0 2500 0) ≡ Err PositionTerms)
    × (position_row_fault 1 call (row_with 3 21 10 0 3500 0) ≡ Err PositionTerms)
    × (position_row_fault 1 call (row_with 3 36 10 0 3500 0) ≡ Err PositionTerms)
    -- 10 stays under flag 16
    × (position_row_fault 1 call (row_with 3 20 10 0 10_000_001 0) ≡ Err BarrierPrice)
    -- 11: an out barrier = PV; under flag 16 it is free, on either side of PV
    × (position_row_fault 1 call (row_with 3 4 10 0 3000 0) ≡ Err BarrierSide)
    × (position_row_fault 1 call (row_with 3 20 10 0 3000 0) ≡ clean)
    × (position_row_fault 1 call (row_with 3 20 10 0 2000 0) ≡ clean)
    × (position_row_fault 1 call (row_with 4 20 10 0 4000 0) ≡ clean)
unfolding series_row_fault position_row_fault matched_fault refuse
order =
    (refl, refl, refl, refl, refl, refl, refl, refl, refl, refl, refl, refl, refl, refl, refl, refl, refl, refl, refl, refl, refl, refl, refl)

-- The bytes of rows and trailers here are written out beside `Writing`'s, so that a spare byte and the distance can be wrong.
-- A series row: PV, fa, fb, f3, M, type, last spare byte.
abbrev pub series_row_bytes : ℕ → ℕ → ℕ → ℕ → ℕ → ℕ → ℕ → List ℕ
series_row_bytes pv fa fb f3 m option spare =
    bytes4 pv ++ bytes4 fa ++ bytes4 fb ++ bytes4 f3 ++ bytes4 m ++ (option ∷ 0 ∷ 0 ∷ spare ∷ [])

-- A call series row of the PV and last spare byte given.
abbrev pub series_bytes : ℕ → ℕ → List ℕ
series_bytes pv spare = series_row_bytes pv 1_200_000 800_000 50_000 5 0 spare

-- A European written row of the kind, highest byte of the number blocked, contracts and barrier price given.
abbrev position_bytes : ℕ → ℕ → ℕ → ℕ → List ℕ
position_bytes kind blocked q price =
    (0 ∷ 0 ∷ 1 ∷ kind ∷ 4 ∷ 0 ∷ 0 ∷ blocked ∷ [])
    ++ bytes4 q
    ++ bytes4 3100
    ++ bytes4 0
    ++ bytes4 price
    ++ bytes4 0
    ++ bytes4 0

-- s, p, distance and the last four bytes.
abbrev pub trailer_bytes : ℕ → ℕ → ℕ → ℕ → List ℕ
trailer_bytes s p d spare = bytes2 s ++ bytes2 p ++ bytes4 d ++ bytes4 spare

-- Two series rows, the second by its PV and last spare byte, and two position rows.
abbrev file : ℕ → ℕ → List ℕ → List ℕ
file pv spare positions = series_bytes 3000 0 ++ series_bytes pv spare ++ positions ++ trailer_bytes 2 2 (span 2 2) 0

-- A call series and no positions.
abbrev pub no_rows : List ℕ
no_rows = series_bytes 3000 0 ++ trailer_bytes 1 0 (span 1 0) 0

-- Refusals are given by their number and row.
pub file_order :
    -- 1 before 2: 11 zero bytes
    (meaning (0 ∷ 0 ∷ 0 ∷ 0 ∷ 0 ∷ 0 ∷ 0 ∷ 0 ∷ 0 ∷ 0 ∷ 0 ∷ []) ≡ refused 1 0)
    -- 2 where p is 0 too: s 0; a spare byte, before 4
    × (meaning (trailer_bytes 0 0 12 0) ≡ refused 2 0)
    × (meaning (trailer_bytes 1 0 36 16_777_216) ≡ refused 2 0)
    -- 4 where p is 0 too: the right distance, longer than the file; a wrong one
    × (meaning (trailer_bytes 1 0 36 0) ≡ refused 4 0)
    × (meaning (series_bytes 3000 0 ++ trailer_bytes 1 0 12 0) ≡ refused 4 0)
    -- 5 and 6 where p is 0 too
    × (meaning (series_bytes 3000 0 ++ series_bytes 0 0 ++ trailer_bytes 2 0 (span 2 0) 0) ≡ refused 5 1)
    × (meaning (series_bytes 3000 1 ++ series_bytes 3000 0 ++ trailer_bytes 2 0 (span 2 0) 0) ≡ refused 6 0)
    -- 4: the right distance, longer than the file; a wrong one
    × (meaning (trailer_bytes 1 1 68 0) ≡ refused 4 0)
    × (meaning (trailer_bytes 1 1 12 0) ≡ refused 4 0)
    -- A later series row before an earlier position row: 5 in series row 1, 8 in position row 0
    × (meaning (file 0 0 (position_bytes 0 0 0 0 ++ position_bytes 0 0 1 0)) ≡ refused 5 1)
    -- An earlier row before a later one: 11 in position row 0, 7 in row 1
    × (meaning (file 3000 0 (position_bytes 1 0 1 3000 ++ position_bytes 5 0 1 0)) ≡ refused 11 0)
    -- The last row alone
    × (meaning (file 3000 0 (position_bytes 1 0 1 3001 ++ position_bytes 2 0 0 2999)) ≡ refused 8 1)
    -- The last spare byte of a series row, and the highest byte of the number blocked of a written row
    × (meaning (file 3000 1 (position_bytes 0 0 1 0 ++ position_bytes 0 0 1 0)) ≡ refused 6 1)
    × (meaning (file 3000 0 (position_bytes 0 0 1 0 ++ position_bytes 0 1 1 0)) ≡ refused 7 1)
    -- Accepted, after a cover sheet of three bytes that is not read
    × (file_read (255 ∷ 1 ∷ 2 ∷ file 3000 0 (position_bytes 1 0 1 3001 ++ position_bytes 2 0 1 2999)) ≡ Ok (record { series = 2; positions = 2; seriesStart = 3; positionsStart = 51; width = 32 }))
    -- The same without positions
    × (file_read (255 ∷ 1 ∷ 2 ∷ no_rows) ≡ Ok (record { series = 1; positions = 0; seriesStart = 3; positionsStart = 27; width = 32 }))
unfolding meaning file_read layout series_row position_row series_rows position_rows rows trailer_fault series_row_fault position_row_fault matched_fault refuse
file_order = (refl, refl, refl, refl, refl, refl, refl, refl, refl, refl, refl, refl, refl, refl, refl, refl)

-- Two written rows within the limits, and one row by itself.
abbrev two : List ℕ
two = file 3000 0 (position_bytes 0 0 1 0 ++ position_bytes 0 0 1 0)

abbrev one : List ℕ
one = series_bytes 3000 0 ++ position_bytes 0 0 1 0 ++ trailer_bytes 1 1 (span 1 1) 0

abbrev entry : ℕ → Line
entry n = record { kind = n; secondNumber = n; thirdNumber = n; fourthNumber = n; fifthNumber = n }

-- The list and the row asked for come after the file.
pub later_refusals :
    -- 2 before 12 and before 13
    (margin_answer (trailer_bytes 0 0 12 0) 0 ≡ refused_at Trailer 0)
    × (amount_answer (trailer_bytes 0 0 12 0) 9 ≡ refused_at Trailer 0)
    -- 12: "given below 2 × p entries"; they keep their content
    × (margin_answer two 3 ≡ refused_at ListTooShort 0)
    × (list_after two (entry 7 ∷ entry 8 ∷ entry 9 ∷ []) ≡ entry 7 ∷ entry 8 ∷ entry 9 ∷ [])
    -- 13: "row p or above"; row 1 has 500 ticks × 5 centavos
    × (amount_answer two 2 ≡ refused_at RowAskedFor 0)
    × (amount_answer two 1 ≡ Ok 2_500)
    -- Without positions every list is long enough, and no row is there
    × (margin_answer no_rows 0 ≡ comes_to 0 0)
    × (amount_answer no_rows 0 ≡ refused_at RowAskedFor 0)
unfolding margin_answer amount_answer list_after lines_given lines left_lines pair_lines left_after made_after premiums total sum_to sum_over file_read layout series_row position_row series_rows position_rows rows trailer_fault series_row_fault position_row_fault matched_fault refuse position_amount unit_margin
later_refusals = (refl, refl, refl, refl, refl, refl, refl, refl)

-- "entries after it stay": a list of two entries for one line, and a list without and with an entry for none.
pub entries_stay :
    (list_after one (entry 7 ∷ entry 8 ∷ [])
    ≡ record { kind = 2; secondNumber = 0; thirdNumber = 1; fourthNumber = 2_500; fifthNumber = 0 } ∷ entry 8 ∷ [])
    × (list_after no_rows [] ≡ [])
    × (list_after no_rows (entry 7 ∷ []) ≡ entry 7 ∷ [])
unfolding margin_answer list_after lines_given lines left_lines pair_lines left_after made_after through along may_of unit_spread file_read layout series_row position_row series_rows position_rows rows trailer_fault series_row_fault position_row_fault matched_fault refuse unit_margin
entries_stay = (refl, refl, refl)
