-- Values of the day: touches at equality and one tick short, flags set and set again, a file byte for byte, and the answers
-- where two faults meet.
-- Assumes nothing.
use Prim.Native.Nat.{ℕ}
use mathlib.Core.Bool.{true, false}
use mathlib.Core.List.{List, [], ◌∷◌, ◌++◌}
use mathlib.Core.Path.{◌≡◌, refl}
use Rattle.rules.proofs.CheckOrder.{no_rows, trailer_bytes}
use Rattle.rules.proofs.FileTables.{row_bytes, typed_bytes}
use Rattle.rules.specs.Day.{applied, crossed_in, crossed_out, day_answer, day_fault, day_written, file_after, flags_after, with_flag1, with_flag16}
use Rattle.rules.specs.File.{layout, position_row, series_row, span}
use Rattle.rules.specs.Refusals.{file_read, matched_fault, position_row_fault, position_rows, refuse, refused_at, rows, series_row_fault, series_rows, trailer_fault}
use Rattle.rules.specs.Writing.{stores}
use Rattle.rules.specs.declared.Barrier.TheVariants.{NoBarrier, UpIn, DownIn, UpOut, DownOut}
use Rattle.rules.specs.declared.Day.{Day}
use Rattle.rules.specs.declared.Refusal.TheVariants.{FileSize, SeriesAskedFor, DayPrices}

abbrev day : ℕ → ℕ → ℕ → ℕ → Day
day series high low close = record { series = series; high = high; low = low; close = close }

-- "Flag 1 is set where high ≥ IU or low ≤ ID"; flag 16 "is set where high ≥ OU or low ≤ OD".
abbrev usual : Day
usual = day 0 3_200 2_800 3_100

pub touches :
    (crossed_in usual (UpIn 3_200) ≡ true)
    × (crossed_in usual (UpIn 3_201) ≡ false)
    × (crossed_in usual (DownIn 2_800) ≡ true)
    × (crossed_in usual (DownIn 2_799) ≡ false)
    × (crossed_in usual (UpOut 3_200) ≡ false)
    × (crossed_in usual (DownOut 2_800) ≡ false)
    × (crossed_in usual NoBarrier ≡ false)
    × (crossed_out usual (UpOut 3_200) ≡ true)
    × (crossed_out usual (UpOut 3_201) ≡ false)
    × (crossed_out usual (DownOut 2_800) ≡ true)
    × (crossed_out usual (DownOut 2_799) ≡ false)
    × (crossed_out usual (UpIn 3_200) ≡ false)
    × (crossed_out usual (DownIn 2_800) ≡ false)
    × (crossed_out usual NoBarrier ≡ false)
touches = (refl, refl, refl, refl, refl, refl, refl, refl, refl, refl, refl, refl, refl, refl)

-- A flag set, and set again.
pub flags_set :
    (with_flag1 4 ≡ 5) × (with_flag1 5 ≡ 5) × (with_flag1 14 ≡ 15) × (with_flag1 15 ≡ 15)
    × (with_flag16 4 ≡ 20) × (with_flag16 20 ≡ 20) × (with_flag16 14 ≡ 30) × (with_flag16 30 ≡ 30)
flags_set = (refl, refl, refl, refl, refl, refl, refl, refl)

-- A cover sheet of two bytes, a call series and a put series by its PV, and rows of both: of the put series an up-and-in at
-- 66,051, a down-and-in at 2,800, an up-and-out one tick above 66,051, a down-and-out at 2,800, each by its flags, and an
-- up-and-out that has flag 16 already; between them a call that 66,051 would knock out.
abbrev day_file : ℕ → ℕ → ℕ → ℕ → ℕ → List ℕ
day_file pv up_in down_in up_out down_out =
    (7 ∷ 9 ∷ [])
    ++ typed_bytes 3_000 0
    ++ typed_bytes pv 1
    ++ row_bytes 1 1 1 up_in 10 2_900 0 66_051 40 0
    ++ row_bytes 0 1 3 4 10 3_100 0 3_200 40 0
    ++ row_bytes 1 0 2 down_in 10 2_900 0 2_800 40 7
    ++ row_bytes 1 1 3 up_out 10 2_900 0 66_052 40 0
    ++ row_bytes 1 1 4 down_out 10 2_900 0 2_800 40 0
    ++ row_bytes 1 1 3 20 10 2_900 0 3_200 40 0
    ++ trailer_bytes 2 6 (span 2 6) 0

abbrev wide : Day
wide = day 1 66_051 2_800 66_051

-- "PV becomes the close. Only flags of that series and its PV are written." Refused, the bytes keep their content.
pub bytes_after :
    (file_after (day_file 3_000 4 8 4 12) wide ≡ day_file 66_051 5 9 4 28)
    × (file_after (day_file 3_000 5 9 4 28) wide ≡ day_file 66_051 5 9 4 28)
    × (file_after (day_file 3_000 4 8 4 12) (day 1 66_051 2_801 66_051) ≡ day_file 66_051 5 8 4 12)
    × (file_after (day_file 3_000 4 8 4 12) (day 1 3_100 2_900 2_999) ≡ day_file 2_999 4 8 4 12)
    × (file_after (day_file 3_000 4 8 4 12) (day 2 66_051 2_800 66_051) ≡ day_file 3_000 4 8 4 12)
    × (file_after (day_file 3_000 4 8 4 12) (day 1 66_051 2_800 66_052) ≡ day_file 3_000 4 8 4 12)
    × (file_after (7 ∷ []) wide ≡ 7 ∷ [])
unfolding file_after day_written day_fault stores flags_after file_read layout series_row position_row series_rows position_rows rows trailer_fault series_row_fault position_row_fault matched_fault refuse
bytes_after = (refl, refl, refl, refl, refl, refl, refl)

-- "The reading's refusals first; then 16 .. 17": the first of two faults is answered, with row 0 for 16 and 17.
pub day_answers :
    (day_answer (7 ∷ []) (day 9 0 0 0) ≡ refused_at FileSize 0)
    × (day_answer no_rows (day 1 0 0 0) ≡ refused_at SeriesAskedFor 0)
    × (day_answer no_rows (day 1 3_200 2_800 3_100) ≡ refused_at SeriesAskedFor 0)
    -- 17: high below low; the close below, and above; each of the three out of its range
    × (day_answer no_rows (day 0 2_799 2_800 2_799) ≡ refused_at DayPrices 0)
    × (day_answer no_rows (day 0 3_200 2_800 2_799) ≡ refused_at DayPrices 0)
    × (day_answer no_rows (day 0 3_200 2_800 3_201) ≡ refused_at DayPrices 0)
    × (day_answer no_rows (day 0 3_200 0 3_100) ≡ refused_at DayPrices 0)
    × (day_answer no_rows (day 0 0 0 0) ≡ refused_at DayPrices 0)
    × (day_answer no_rows (day 0 10_000_001 2_800 3_100) ≡ refused_at DayPrices 0)
    × (day_answer no_rows (day 0 10_000_001 10_000_001 10_000_001) ≡ refused_at DayPrices 0)
    -- The ends of the range, and one price all day
    × (day_answer no_rows (day 0 10_000_000 1 1) ≡ applied)
    × (day_answer no_rows (day 0 10_000_000 1 10_000_000) ≡ applied)
    × (day_answer no_rows (day 0 1 1 1) ≡ applied)
unfolding day_answer day_fault file_read layout series_row position_row series_rows position_rows rows trailer_fault series_row_fault position_row_fault matched_fault refuse
day_answers = (refl, refl, refl, refl, refl, refl, refl, refl, refl, refl, refl, refl, refl)
