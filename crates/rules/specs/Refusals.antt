-- Document 01, Where a file is turned back: each refusal a test, in the order of the table, and the one meaning of a
-- file.
use Rattle.std.specs.Prelude.{ℕ, zero, suc, Bool, true, false, not, ◌&&◌, ◌||◌, List, [], ◌∷◌, eqb, leb, ltb, length, Result, Ok, Err}
use Rattle.rules.specs.File.{Account, account_of, distance, flags_of, layout, position_count, position_of, position_row, series_count, series_row, span, trailer_spare, trailer_width}
use Rattle.rules.specs.Limits.{most_bytes, most_positions, most_series}
use Rattle.rules.specs.declared.Layout.{Layout}
use Rattle.rules.specs.declared.Position.{Position}
use Rattle.rules.specs.declared.PositionRow.{PositionRow}
use Rattle.rules.specs.declared.Refusal.{Refusal}
use Rattle.rules.specs.declared.Refusal.TheVariants.{FileSize, Trailer, Distance, SeriesRange, SeriesType, PositionTerms, PositionRange, LimiterPrice, BarrierPrice, BarrierSide, ListTooShort, RowAskedFor, FactorsAskedFor, SeriesAskedFor, DayPrices, NotFirstPairs, AboveCount, LoadAskedFor}
use Rattle.rules.specs.declared.SeriesRow.{SeriesRow}
use Rattle.rules.specs.declared.Refused.{Refused}

-- The table's column "Number". Refusals 1 to 11 are a file's and tested here; 12 is tested in `Lines.margin_for_list`, for
-- the caller's list (and in `Instalments.instalment_checks`), and 13 in `OnePosition.amount_for_row`, for the row asked for, each
-- after the file. Document 02, request 1: "Refusal 3 is withdrawn." Its number is given to nothing else. Request 2's 14 is no
-- file's: it is tested in `FactorsAre` of crate factors. Request 5's 16 and 17 are a day's, tested in `Day.day_checks` after the
-- file. No request gives 15. Request 7's 18 is tested in `Instalments.instalment_checks`, after 12, and request 8's 19 in
-- `TakingApart.apart_checks`, after 18. Request 10's 20 is no file's: it is tested in `wrong_load` of crate load.
abbrev pub number : Refusal → ℕ
number FileSize = 1
number Trailer = 2
number Distance = 4
number SeriesRange = 5
number SeriesType = 6
number PositionTerms = 7
number PositionRange = 8
number LimiterPrice = 9
number BarrierPrice = 10
number BarrierSide = 11
number ListTooShort = 12
number RowAskedFor = 13
number FactorsAskedFor = 14
number SeriesAskedFor = 16
number DayPrices = 17
number NotFirstPairs = 18
number AboveCount = 19
number LoadAskedFor = 20

-- x is not from least to most.
abbrev pub outside : ℕ → ℕ → ℕ → Bool
outside least most x = ltb x least || ltb most x

-- x is not 0.
abbrev pub nonzero : ℕ → Bool
nonzero x = not (eqb x 0)

-- 1: "file below 12 or above 65,536 bytes"
abbrev pub wrong_size : List ℕ → Bool
wrong_size b = outside trailer_width most_bytes (length b)

-- 2: "s not 1 to 32, p above 256, or one of the last four bytes not zero"
abbrev pub wrong_trailer : List ℕ → Bool
wrong_trailer b = outside 1 most_series (series_count b) || ltb most_positions (position_count b) || nonzero (trailer_spare b)

-- 4: "distance not as above, or longer than the file"
abbrev pub wrong_distance : List ℕ → Bool
wrong_distance b =
    not (eqb (distance b) (span (series_count b) (position_count b))) || ltb (length b) (distance b)

-- 5: "PV, fa, fb, f3 or M outside its range": PV 1 to 10,000,000; fa 1,000,000 to 10,000,000; fb 0 to fa; f3 0 to
-- 1,000,000; M 1 to 1,000.
abbrev pub wrong_series_range : SeriesRow → Bool
wrong_series_range r =
    outside 1 10_000_000 r.pv
    || outside 1_000_000 10_000_000 r.fa
    || ltb r.fa r.fb
    || ltb 1_000_000 r.f3
    || outside 1 1_000 r.m

-- 6: "type above 1 or a spare byte not zero"
abbrev pub wrong_series_type : SeriesRow → Bool
wrong_series_type r = ltb 1 r.option || nonzero r.spare

-- "Flags: 1 already knocked in (kinds 1 and 2 only) .. other bits zero"; document 02 [5]: "A new flag 16, allowed on kinds 3
-- and 4". The five flags together are 31.
abbrev pub wrong_flags : PositionRow → Bool
wrong_flags r =
    ltb 31 r.flags
    || ((flags_of r.flags).knockedIn && outside 1 2 r.kind)
    || ((flags_of r.flags).knockedOut && outside 3 4 r.kind)

-- 7: "series, side, kind, flags or a spare byte wrong": series below s; side 0 or 1; kind 0 to 4. Document 02 [9], of the bytes
-- of the number blocked: "on a written row they stay zero under refusal 7".
abbrev pub wrong_terms : ℕ → PositionRow → Bool
wrong_terms s r =
    leb s r.series
    || ltb 1 r.side
    || ltb 4 r.kind
    || wrong_flags r
    || (eqb r.side 1 && nonzero r.blocked)

-- 8: "Q, PE, REB or premium wrong": Q 1 to 100,000; PE 1 to 10,000,000; REB 0 to 10,000,000; premium 0 to 10,000,000,
-- "zero on a written row". Document 02 [9], of the number blocked: "A number above Q is refused with 8."
abbrev pub wrong_range : PositionRow → Bool
wrong_range r =
    outside 1 100_000 r.q
    || outside 1 10_000_000 r.pe
    || ltb 10_000_000 r.reb
    || ltb 10_000_000 r.premium
    || (eqb r.side 1 && nonzero r.premium)
    || ltb r.q r.blocked

-- 9: "PB wrong". "Without the limiter flag PB is 0. With it, a call has PE < PB ≤ 10,000,000 and a put 0 ≤ PB < PE."
-- The first number is the series' type.
abbrev pub wrong_limiter : ℕ → PositionRow → Bool
wrong_limiter option r =
    (not (flags_of r.flags).limited && nonzero r.pb)
    || ((flags_of r.flags).limited && eqb option 0 && (leb r.pb r.pe || ltb 10_000_000 r.pb))
    || ((flags_of r.flags).limited && not (eqb option 0) && leb r.pe r.pb)

-- 10: "barrier price outside its rule or range, or REB with kind 0". "Kind 0 has barrier price 0 and REB 0. Other
-- kinds have a price of 1 to 10,000,000".
abbrev pub wrong_barrier_price : PositionRow → Bool
wrong_barrier_price r =
    (eqb r.kind 0 && (nonzero r.price || nonzero r.reb))
    || (nonzero r.kind && outside 1 10_000_000 r.price)

-- 11: "barrier on the wrong side of PV": "above PV for kinds 1 and 3, below PV for kinds 2 and 4, except where flag 1
-- is set"; a row with flag 16 "is exempt from refusal 11" (document 02 [5]).
abbrev pub wrong_barrier_side : ℕ → PositionRow → Bool
wrong_barrier_side pv r =
    (not (flags_of r.flags).knockedIn && not (flags_of r.flags).knockedOut)
    && (((eqb r.kind 1 || eqb r.kind 3) && leb r.price pv)
    || ((eqb r.kind 2 || eqb r.kind 4) && leb pv r.price))

-- What checks find: nothing, or the refusal.
abbrev pub Fault : Type 0
Fault = Result (Unit {0}) Refusal

abbrev pub clean : Fault
clean = Ok tt

-- "The answer is the number and the row": turned back for this refusal at this row.
abbrev pub refused_at : {A : Type 0} → Refusal → ℕ → Result A Refused
refused_at w row = Err (record { why = w; row = row })

-- "Checked from top to bottom .. first fault wins": the refusal w where the test holds, else what comes after it.
unfoldable pub refuse : Bool → Refusal → Fault → Fault
refuse true w next = Err w
refuse false w next = next

-- A check: its test, which holds where the check fails, and the refusal given then.
abbrev pub Check : Type 0
Check = Bool × Refusal

-- "Checked from top to bottom": the refusal of the first check that fails.
abbrev pub first_fault : List Check → Fault
first_fault [] = clean
first_fault ((test, w) ∷ later) = refuse test w (first_fault later)

-- The trailer's rows of the table, 1, 2 and 4. Document 02, request 1: "A file with p = 0 shall be accepted when the rest is
-- in order", so that no check asks whether p is 0.
abbrev pub trailer_checks : List ℕ → List Check
trailer_checks b =
    (wrong_size b, FileSize)
    ∷ (wrong_trailer b, Trailer)
    ∷ (wrong_distance b, Distance)
    ∷ []

unfoldable pub trailer_fault : List ℕ → Fault
trailer_fault b = first_fault (trailer_checks b)

-- A series row's, 5 and 6.
abbrev pub series_row_checks : SeriesRow → List Check
series_row_checks r = (wrong_series_range r, SeriesRange) ∷ (wrong_series_type r, SeriesType) ∷ []

unfoldable pub series_row_fault : SeriesRow → Fault
series_row_fault r = first_fault (series_row_checks r)

-- A position row's from 8 on: the checks that look at the row's series, which refusal 7 has shown to be there.
abbrev pub matched_checks : SeriesRow → PositionRow → List Check
matched_checks k r =
    (wrong_range r, PositionRange)
    ∷ (wrong_limiter k.option r, LimiterPrice)
    ∷ (wrong_barrier_price r, BarrierPrice)
    ∷ (wrong_barrier_side k.pv r, BarrierSide)
    ∷ []

unfoldable pub matched_fault : SeriesRow → PositionRow → Fault
matched_fault k r = first_fault (matched_checks k r)

-- A position row's, 7 to 11: s is the number of series, k the row's series.
abbrev pub position_row_checks : ℕ → SeriesRow → PositionRow → List Check
position_row_checks s k r = (wrong_terms s r, PositionTerms) ∷ matched_checks k r

unfoldable pub position_row_fault : ℕ → SeriesRow → PositionRow → Fault
position_row_fault s k r = first_fault (position_row_checks s k r)

-- The fault of series row i of a file, and of position row i.
abbrev pub series_fault : List ℕ → Layout → ℕ → Fault
series_fault b l i = series_row_fault (series_row b l i)

abbrev pub position_fault : List ℕ → Layout → ℕ → Fault
position_fault b l i =
    position_row_fault l.series (series_row b l (position_row b l i).series) (position_row b l i)

-- The position, or its refusal.
abbrev pub read_as : Fault → Position → Result Position Refusal
read_as (Ok u) p = Ok p
read_as (Err w) p = Err w

-- The reading of position row i.
unfoldable pub position_read : List ℕ → Layout → ℕ → Result Position Refusal
position_read b l i = read_as (position_fault b l i) (position_of (position_row b l i))

-- "A row that cannot be read ends the reading with its number": the fault at row i, or what comes after it.
abbrev pub or_else : Fault → ℕ → Result Layout Refused → Result Layout Refused
or_else (Ok u) i next = next
or_else (Err w) i next = refused_at w i

-- "each row whole before the next": rows 0 to n - 1 of a table, whose faults f gives, and then what comes after it.
-- Row n - 1 stands innermost, so that row 0 is looked at first. What this finds is the first row with a fault, or that
-- there is none: the laws `Scan.rows_stop` and `Scan.rows_clean`.
unfoldable pub rows : (ℕ → Fault) → ℕ → Result Layout Refused → Result Layout Refused
rows f zero next = next
rows f (suc n) next = rows f n (or_else (f n) n next)

-- The position rows of a file, all before them being without fault.
unfoldable pub position_rows : List ℕ → Layout → Result Layout Refused
position_rows b l = rows (position_fault b l) l.positions (Ok l)

-- "series rows before position rows"
unfoldable pub series_rows : List ℕ → Layout → Result Layout Refused
series_rows b l = rows (series_fault b l) l.series (position_rows b l)

-- The reading of a file. "counted from 0 in its own table (0 for the trailer ..)"
unfoldable pub file_read : List ℕ → Result Layout Refused
file_read b = or_else (trailer_fault b) 0 (series_rows b (layout b))

-- "The answer is the number and the row", or the account.
pub data Meaning : Type 0 where
  refused : (number row : ℕ) → Meaning
  accepted : Account → Meaning

-- What a reading means: document 01's number and row, or the account where the rows stand.
abbrev pub meant : List ℕ → Result Layout Refused → Meaning
meant b (Err refusal) = refused (number refusal.why) refusal.row
meant b (Ok l) = accepted (account_of b l)

-- The meaning of a file, from its bytes.
unfoldable pub meaning : List ℕ → Meaning
meaning b = meant b (file_read b)
