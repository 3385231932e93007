-- Document 01, The account file: where each number stands, and what a row means.
use Rattle.std.specs.Prelude.{ℕ, ◌+◌, ◌*◌, ◌-◌, ◌/◌, ◌%◌, Bool, cond, List, eqb, length, get_or}
use Rattle.rules.specs.declared.Barrier.{Barrier}
use Rattle.rules.specs.declared.Barrier.TheVariants.{NoBarrier, UpIn, DownIn, UpOut, DownOut}
use Rattle.rules.specs.declared.Flags.{Flags}
use Rattle.rules.specs.declared.Layout.{Layout}
use Rattle.rules.specs.declared.Limiter.{Limiter}
use Rattle.rules.specs.declared.Limiter.TheVariants.{NoLimiter, At}
use Rattle.rules.specs.declared.OptionType.{OptionType}
use Rattle.rules.specs.declared.OptionType.TheVariants.{Call, Put}
use Rattle.rules.specs.declared.Position.{Position}
use Rattle.rules.specs.declared.PositionRow.{PositionRow}
use Rattle.rules.specs.declared.Series.{Series}
use Rattle.rules.specs.declared.SeriesRow.{SeriesRow}
use Rattle.rules.specs.declared.Side.{Side}
use Rattle.rules.specs.declared.Side.TheVariants.{Held, Written}
use Rattle.rules.specs.declared.Terms.{Terms}

-- A file is the list of its bytes. "little-endian": the low byte comes first. Past the end a byte counts as 0, so
-- that every definition has a value; the reader never looks there.
abbrev pub u8_at : List ℕ → ℕ → ℕ
u8_at b i = get_or b i 0

abbrev pub u16_at : List ℕ → ℕ → ℕ
u16_at b i = u8_at b i + 256 * u8_at b (i + 1)

-- Three bytes are one number. That of a series row's spare bytes is zero exactly where each of them is; that of a position row
-- is how many contracts are blocked (document 02 [9]).
abbrev pub u24_at : List ℕ → ℕ → ℕ
u24_at b i = u8_at b i + 256 * u8_at b (i + 1) + 65_536 * u8_at b (i + 2)

abbrev pub u32_at : List ℕ → ℕ → ℕ
u32_at b i = u8_at b i + 256 * u8_at b (i + 1) + 65_536 * u8_at b (i + 2) + 16_777_216 * u8_at b (i + 3)

-- "Trailer, 12 bytes", "Series row, 24 bytes", "Position row, 32 bytes"
abbrev pub trailer_width : ℕ
trailer_width = 12

abbrev pub series_width : ℕ
series_width = 24

abbrev pub position_width : ℕ
position_width = 32

-- "Trailer, 12 bytes: series count s, u16 .. position count p, u16 .. distance, u32, from the file's end back to the
-- first series row .. four zero bytes." The trailer stands "at the very end".
abbrev pub series_count : List ℕ → ℕ
series_count b = u16_at b (length b - trailer_width)

abbrev pub position_count : List ℕ → ℕ
position_count b = u16_at b (length b - 10)

abbrev pub distance : List ℕ → ℕ
distance b = u32_at b (length b - 8)

abbrev pub trailer_spare : List ℕ → ℕ
trailer_spare b = u32_at b (length b - 4)

-- "equal to 12 + 24 × s + 32 × p"
abbrev pub span : ℕ → ℕ → ℕ
span s p = trailer_width + series_width * s + position_width * p

-- Where the tables stand, by the trailer. The position rows follow the series rows.
unfoldable pub layout : List ℕ → Layout
layout b =
    record {
      series = series_count b;
      positions = position_count b;
      seriesStart = length b - distance b;
      positionsStart = length b - distance b + series_width * series_count b;
      width = position_width;
    }

-- "Series row, 24 bytes: PV u32 .. fa u32 .. fb u32 .. f3 u32 .. M u32 .. type u8 .. three zero bytes."
abbrev pub series_row_from : List ℕ → ℕ → SeriesRow
series_row_from b at =
    record {
      pv = u32_at b at;
      fa = u32_at b (at + 4);
      fb = u32_at b (at + 8);
      f3 = u32_at b (at + 12);
      m = u32_at b (at + 16);
      option = u8_at b (at + 20);
      spare = u24_at b (at + 21);
    }

-- Series row i of a file with the layout l.
unfoldable pub series_row : List ℕ → Layout → ℕ → SeriesRow
series_row b l i = series_row_from b (l.seriesStart + series_width * i)

-- "Position row, 32 bytes: series u16 .. side u8 .. barrier kind u8; flags u8; three zero bytes; then u32 each: Q ..
-- PE .. PB; barrier price; REB .. unsettled premium". Document 02 [9], of the three: "Bytes 5 to 7 of a held row become the
-- number blocked".
abbrev pub position_row_from : List ℕ → ℕ → PositionRow
position_row_from b at =
    record {
      series = u16_at b at;
      side = u8_at b (at + 2);
      kind = u8_at b (at + 3);
      flags = u8_at b (at + 4);
      blocked = u24_at b (at + 5);
      q = u32_at b (at + 8);
      pe = u32_at b (at + 12);
      pb = u32_at b (at + 16);
      price = u32_at b (at + 20);
      reb = u32_at b (at + 24);
      premium = u32_at b (at + 28);
    }

-- Position row i of a file with the layout l.
unfoldable pub position_row : List ℕ → Layout → ℕ → PositionRow
position_row b l i = position_row_from b (l.positionsStart + l.width * i)

-- "type u8, 0 call, 1 put"
abbrev pub option_of : ℕ → OptionType
option_of n = cond (eqb n 0) Call Put

-- "side u8, 0 held, 1 written"
abbrev pub side_of : ℕ → Side
side_of n = cond (eqb n 0) Held Written

-- "A barrier is none (0), up-and-in (1), down-and-in (2), up-and-out (3) or down-and-out (4), each with its price"
abbrev pub barrier_of : ℕ → ℕ → Barrier
barrier_of kind price =
    cond (eqb kind 1) (UpIn price)
    (cond (eqb kind 2) (DownIn price) (cond (eqb kind 3) (UpOut price) (cond (eqb kind 4) (DownOut price) NoBarrier)))

-- "Flags: 1 already knocked in .. 2 has a limiter, 4 European, 8 opened before the annex"; document 02 [5]: "A new flag 16 ..
-- marks a knock-out that was touched".
abbrev pub flags_of : ℕ → Flags
flags_of n =
    record {
      knockedIn = eqb (n % 2) 1;
      limited = eqb (n / 2 % 2) 1;
      european = eqb (n / 4 % 2) 1;
      beforeAnnex = eqb (n / 8 % 2) 1;
      knockedOut = eqb (n / 16 % 2) 1;
    }

-- "Without the limiter flag PB is 0. With it" PB is the limiter.
abbrev pub limiter_of : Bool → ℕ → Limiter
limiter_of limited pb = cond limited (At pb) NoLimiter

-- What a series row means.
abbrev pub series_of : SeriesRow → Series
series_of r =
    record {
      pv = r.pv;
      fa = r.fa;
      fb = r.fb;
      f3 = r.f3;
      m = r.m;
      option = option_of r.option;
    }

-- The terms of a position row, as they stand there.
abbrev pub terms_of : PositionRow → Terms
terms_of r =
    record {
      pe = r.pe;
      limiter = limiter_of (flags_of r.flags).limited r.pb;
      barrier = barrier_of r.kind r.price;
      reb = r.reb;
    }

-- What a position row means.
abbrev pub position_of : PositionRow → Position
position_of r =
    record {
      series = r.series;
      side = side_of r.side;
      terms = terms_of r;
      flags = flags_of r.flags;
      q = r.q;
      blocked = r.blocked;
      premium = r.premium;
    }

-- An account: its series and its positions, each counted from 0.
pub record Account : Type 0 where
  pub series : ℕ
  pub series_at : ℕ → Series
  pub positions : ℕ
  pub position_at : ℕ → Position

-- The account of a file with the layout l.
abbrev pub account_of : List ℕ → Layout → Account
account_of b l =
    record {
      series = l.series;
      series_at = λ i. series_of (series_row b l i);
      positions = l.positions;
      position_at = λ i. position_of (position_row b l i);
    }

-- The series of position row r.
abbrev pub series_of_row : Account → ℕ → Series
series_of_row a r = a.series_at (a.position_at r).series
