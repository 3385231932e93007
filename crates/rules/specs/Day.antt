-- Document 02 [5], What the day crossed: the file after a series' high, low and close.
use Rattle.std.specs.Prelude.{ℕ, ◌+◌, ◌*◌, ◌-◌, ◌/◌, ◌%◌, ◌≤◌, ◌<◌, Bool, false, cond, ◌||◌, List, [], ◌∷◌, ◌≡◌, eqb, leb, ltb, length, Result, Ok, Err}
use Rattle.std.proofs.lemmas.List.Edits.{sets}
use Rattle.rules.specs.File.{Account, barrier_of, position_row, series_width, u8_at}
use Rattle.rules.specs.Refusals.{Check, Fault, accepted, file_read, first_fault, meaning, outside, refused_at}
use Rattle.rules.specs.Writing.{bytes4, stores}
use Rattle.rules.specs.declared.Barrier.{Barrier}
use Rattle.rules.specs.declared.Barrier.TheVariants.{NoBarrier, UpIn, DownIn, UpOut, DownOut}
use Rattle.rules.specs.declared.Day.{Day}
use Rattle.rules.specs.declared.Flags.{Flags}
use Rattle.rules.specs.declared.Layout.{Layout}
use Rattle.rules.specs.declared.Position.{Position}
use Rattle.rules.specs.declared.PositionRow.{PositionRow}
use Rattle.rules.specs.declared.Refusal.TheVariants.{SeriesAskedFor, DayPrices}
use Rattle.rules.specs.declared.Series.{Series}
use Rattle.rules.specs.declared.Refused.{Refused}

-- "Flag 1 is set where high ≥ IU or low ≤ ID."
abbrev pub crossed_in : Day → Barrier → Bool
crossed_in d NoBarrier = false
crossed_in d (UpIn iu) = leb iu d.high
crossed_in d (DownIn id) = leb d.low id
crossed_in d (UpOut ou) = false
crossed_in d (DownOut od) = false

-- Flag 16 "is set where high ≥ OU or low ≤ OD."
abbrev pub crossed_out : Day → Barrier → Bool
crossed_out d NoBarrier = false
crossed_out d (UpIn iu) = false
crossed_out d (DownIn id) = false
crossed_out d (UpOut ou) = leb ou d.high
crossed_out d (DownOut od) = leb d.low od

-- Flags with flag 1 set, and with flag 16, whether or not it was.
abbrev pub with_flag1 : ℕ → ℕ
with_flag1 flags = flags + (1 - flags % 2)

abbrev pub with_flag16 : ℕ → ℕ
with_flag16 flags = flags + 16 * (1 - flags / 16 % 2)

-- The flags of a row with this barrier, of the day's series, after the day.
abbrev pub flags_crossed : Day → Barrier → ℕ → ℕ
flags_crossed d barrier flags =
    cond (crossed_in d barrier) (with_flag1 flags) (cond (crossed_out d barrier) (with_flag16 flags) flags)

-- "Only flags of that series .. are written": the flags of any row after the day.
unfoldable pub flags_after : Day → PositionRow → ℕ
flags_after d r = cond (eqb r.series d.series) (flags_crossed d (barrier_of r.kind r.price) r.flags) r.flags

-- Where the flags of position row r stand, and the PV of series row i.
abbrev pub flags_place : Layout → ℕ → ℕ
flags_place l r = l.positionsStart + l.width * r + 4

abbrev pub pv_place : Layout → ℕ → ℕ
pv_place l i = l.seriesStart + series_width * i

-- A file with the layout l, the flags of its first n position rows brought up to date.
abbrev pub flags_written : List ℕ → Layout → Day → ℕ → List ℕ
flags_written b l d n = stores (flags_place l) (λ r. flags_after d (position_row b l r) ∷ []) n b

-- The flags, and then "PV becomes the close."
unfoldable pub day_written : List ℕ → Layout → Day → List ℕ
day_written b l d = sets (flags_written b l d l.positions) (pv_place l d.series) (bytes4 d.close)

-- 17: "high below low, close outside them, or any of the three not 1 to 10,000,000"
abbrev pub wrong_day : Day → Bool
wrong_day d =
    ltb d.high d.low
    || outside d.low d.high d.close
    || outside 1 10_000_000 d.high
    || outside 1 10_000_000 d.low
    || outside 1 10_000_000 d.close

-- A day within its limits, as plain ranges, for an account of s series: neither 16 nor 17. The close is from low to high, so that
-- 1 for the low and 10,000,000 for the high are limits of all three.
pub record DayWithin (s : ℕ) (d : Day) : Type 0 where
  pub series_below : d.series < s
  pub low_least : 1 ≤ d.low
  pub close_least : d.low ≤ d.close
  pub close_most : d.close ≤ d.high
  pub high_most : d.high ≤ 10_000_000

-- "then 16: series not in the account; 17": of an account with s series.
abbrev pub day_checks : ℕ → Day → List Check
day_checks s d = (leb s d.series, SeriesAskedFor) ∷ (wrong_day d, DayPrices) ∷ []

unfoldable pub day_fault : ℕ → Day → Fault
day_fault s d = first_fault (day_checks s d)

-- What a day that is applied is answered.
abbrev pub applied : Result (Unit {0}) Refused
applied = Ok tt

-- The answer and the bytes by what the day's checks find, c being the file with the day written. The row is 0. "the bytes
-- then keep their content"
abbrev pub answer_by : Fault → Result (Unit {0}) Refused
answer_by (Ok u) = applied
answer_by (Err w) = refused_at w 0

abbrev pub bytes_by : Fault → List ℕ → List ℕ → List ℕ
bytes_by (Ok u) b c = c
bytes_by (Err w) b c = b

-- "The reading's refusals first", then the day's.
abbrev pub answer_read : Day → Result Layout Refused → Result (Unit {0}) Refused
answer_read d (Err refusal) = Err refusal
answer_read d (Ok l) = answer_by (day_fault l.series d)

abbrev pub bytes_read : List ℕ → Day → Result Layout Refused → List ℕ
bytes_read b d (Err refusal) = b
bytes_read b d (Ok l) = bytes_by (day_fault l.series d) b (day_written b l d)

-- The answer of the operation to any bytes and any day, and the lent bytes after it.
unfoldable pub day_answer : List ℕ → Day → Result (Unit {0}) Refused
day_answer b d = answer_read d (file_read b)

unfoldable pub file_after : List ℕ → Day → List ℕ
file_after b d = bytes_read b d (file_read b)

-- What the day makes of a position and of series i, said of the account and not of bytes.
abbrev pub flags_of_day : Day → Position → Flags
flags_of_day d p =
    record {
      knockedIn = p.flags.knockedIn || crossed_in d p.terms.barrier;
      limited = p.flags.limited;
      european = p.flags.european;
      beforeAnnex = p.flags.beforeAnnex;
      knockedOut = p.flags.knockedOut || crossed_out d p.terms.barrier;
    }

abbrev pub position_after : Day → Position → Position
position_after d p =
    record {
      series = p.series;
      side = p.side;
      terms = p.terms;
      flags = cond (eqb p.series d.series) (flags_of_day d p) p.flags;
      q = p.q;
      blocked = p.blocked;
      premium = p.premium;
    }

abbrev pub series_after : Day → ℕ → Series → Series
series_after d i s =
    record {
      pv = cond (eqb i d.series) d.close s.pv;
      fa = s.fa;
      fb = s.fb;
      f3 = s.f3;
      m = s.m;
      option = s.option;
    }

-- The account c is the account a after the day: as many rows, each as the day leaves it.
pub record After (d : Day) (a c : Account) : Type 0 where
  pub series_same : c.series ≡ a.series
  pub series_are : (i : ℕ) → i < a.series → c.series_at i ≡ series_after d i (a.series_at i)
  pub positions_same : c.positions ≡ a.positions
  pub positions_are : (r : ℕ) → r < a.positions → c.position_at r ≡ position_after d (a.position_at r)

-- "A file accepted before is accepted after", whatever the day: refused, the day leaves the file; applied, the file means the
-- account after it.
abbrev pub AcceptedAfterDemand : List ℕ → Day → Type 0
AcceptedAfterDemand b d =
    (a : Account) → meaning b ≡ accepted a
    → (c : Account) × (meaning (file_after b d) ≡ accepted c) × (day_answer b d ≡ applied → After d a c)

-- "The same day applied again alters no byte", of any bytes.
abbrev pub SameDayAgainDemand : List ℕ → Day → Type 0
SameDayAgainDemand b d = file_after (file_after b d) d ≡ file_after b d

-- "Only flags of that series and its PV are written": byte j is neither.
abbrev pub Untouched : List ℕ → Layout → Day → ℕ → Type 0
Untouched b l d j =
    ((r : ℕ) → r < l.positions → (position_row b l r).series ≡ d.series → j ≡ flags_place l r → ⊥)
    × ((k : ℕ) → k < 4 → j ≡ pv_place l d.series + k → ⊥)

-- No byte comes or goes, and every other byte of an accepted file stays, the cover sheet's too.
abbrev pub OnlyWrittenDemand : List ℕ → Day → Type 0
OnlyWrittenDemand b d =
    (length (file_after b d) ≡ length b)
    × ((l : Layout) → file_read b ≡ Ok l → (j : ℕ) → Untouched b l d j → u8_at (file_after b d) j ≡ u8_at b j)
