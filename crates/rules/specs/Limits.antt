-- Document 01, The account file: its limits as plain ranges and sizes, with no reference to the reader's tests.
use Rattle.std.specs.Prelude.{ℕ, ◌+◌, ◌*◌, ◌/◌, ◌%◌, ◌≤◌, ◌<◌, List, ◌⊎◌, ◌≡◌, length}
use Rattle.rules.specs.File.{distance, layout, position_count, position_row, position_width, series_count, series_row, series_width, span, trailer_spare, trailer_width}
use Rattle.rules.specs.declared.Layout.{Layout}
use Rattle.rules.specs.declared.PositionRow.{PositionRow}
use Rattle.rules.specs.declared.SeriesRow.{SeriesRow}

-- "At most 65,536 bytes"; "series count s, u16, 1 to 32; position count p, u16, 1 to 256", and by document 02, request 1,
-- p may be 0: the most bytes, series and positions of a file, by the names that the tests and the contracts use.
abbrev pub most_bytes : ℕ
most_bytes = 65_536

abbrev pub most_series : ℕ
most_series = 32

abbrev pub most_positions : ℕ
most_positions = 256

-- "PV u32, 1 to 10,000,000; fa u32, 1,000,000 to 10,000,000; fb u32, 0 to fa; f3 u32, 0 to 1,000,000; M u32, 1 to
-- 1,000; type u8, 0 call, 1 put; three zero bytes"
pub record SeriesWithin (r : SeriesRow) : Type 0 where
  pub pv_least : 1 ≤ r.pv
  pub pv_most : r.pv ≤ 10_000_000
  pub fa_least : 1_000_000 ≤ r.fa
  pub fa_most : r.fa ≤ 10_000_000
  pub fb_most : r.fb ≤ r.fa
  pub f3_most : r.f3 ≤ 1_000_000
  pub m_least : 1 ≤ r.m
  pub m_most : r.m ≤ 1_000
  pub option_most : r.option ≤ 1
  pub spare_zero : r.spare ≡ 0

-- A position row, in an account of s series, whose series row is k.
pub record PositionWithin (s : ℕ) (k : SeriesRow) (r : PositionRow) : Type 0 where
  -- "series u16, below s; side u8, 0 held, 1 written"
  pub series_below : r.series < s
  pub side_most : r.side ≤ 1
  -- "none (0), up-and-in (1), down-and-in (2), up-and-out (3) or down-and-out (4)"
  pub kind_most : r.kind ≤ 4
  -- "Flags: 1 already knocked in (kinds 1 and 2 only), 2 has a limiter, 4 European, 8 opened before the annex; other
  -- bits zero"; document 02 [5]: "A new flag 16, allowed on kinds 3 and 4"
  pub flags_most : r.flags ≤ 31
  pub knocked_in_kind : r.flags % 2 ≡ 1 → (1 ≤ r.kind) × (r.kind ≤ 2)
  pub knocked_out_kind : r.flags / 16 % 2 ≡ 1 → (3 ≤ r.kind) × (r.kind ≤ 4)
  -- Document 02 [9]: "on a written row they stay zero", the bytes of the number blocked
  pub blocked_written : r.side ≡ 1 → r.blocked ≡ 0
  -- "Q 1 to 100,000; PE 1 to 10,000,000"
  pub q_least : 1 ≤ r.q
  pub q_most : r.q ≤ 100_000
  -- Document 02 [9]: "the number blocked, at most Q"
  pub blocked_most : r.blocked ≤ r.q
  pub pe_least : 1 ≤ r.pe
  pub pe_most : r.pe ≤ 10_000_000
  -- "REB 0 to 10,000,000; unsettled premium 0 to 10,000,000, zero on a written row"
  pub reb_most : r.reb ≤ 10_000_000
  pub premium_most : r.premium ≤ 10_000_000
  pub premium_written : r.side ≡ 1 → r.premium ≡ 0
  -- "Without the limiter flag PB is 0. With it, a call has PE < PB ≤ 10,000,000 and a put 0 ≤ PB < PE."
  pub pb_none : r.flags / 2 % 2 ≡ 0 → r.pb ≡ 0
  pub pb_call : r.flags / 2 % 2 ≡ 1 → k.option ≡ 0 → (r.pe < r.pb) × (r.pb ≤ 10_000_000)
  pub pb_put : r.flags / 2 % 2 ≡ 1 → k.option ≡ 1 → r.pb < r.pe
  -- "Kind 0 has barrier price 0 and REB 0. Other kinds have a price of 1 to 10,000,000"
  pub price_none : r.kind ≡ 0 → r.price ≡ 0
  pub reb_none : r.kind ≡ 0 → r.reb ≡ 0
  pub price_some : 1 ≤ r.kind → (1 ≤ r.price) × (r.price ≤ 10_000_000)
  -- "above PV for kinds 1 and 3, below PV for kinds 2 and 4, except where flag 1 is set"; a row with flag 16 "is exempt from
  -- refusal 11" (document 02 [5])
  pub price_above : r.flags % 2 ≡ 0 → r.flags / 16 % 2 ≡ 0 → (r.kind ≡ 1) ⊎ (r.kind ≡ 3) → k.pv < r.price
  pub price_below : r.flags % 2 ≡ 0 → r.flags / 16 % 2 ≡ 0 → (r.kind ≡ 2) ⊎ (r.kind ≡ 4) → r.price < k.pv

-- The trailer.
pub record TrailerWithin (b : List ℕ) : Type 0 where
  -- "At most 65,536 bytes", and the trailer's own 12
  pub size_least : trailer_width ≤ length b
  pub size_most : length b ≤ most_bytes
  -- "series count s, u16, 1 to 32; position count p, u16, 1 to 256"; document 02, request 1: "A file with p = 0 shall be
  -- accepted when the rest is in order."
  pub series_least : 1 ≤ series_count b
  pub series_most : series_count b ≤ most_series
  pub positions_most : position_count b ≤ most_positions
  -- "distance, u32, from the file's end back to the first series row, equal to 12 + 24 × s + 32 × p; four zero bytes"
  pub distance_is : distance b ≡ span (series_count b) (position_count b)
  pub distance_most : distance b ≤ length b
  pub spare_zero : trailer_spare b ≡ 0

-- The whole file: a cover sheet of any bytes, then the rows and the trailer.
pub record FileWithin (b : List ℕ) : Type 0 where
  pub trailer : TrailerWithin b
  pub series_rows_lem : (i : ℕ) → i < series_count b → SeriesWithin (series_row b (layout b) i)
  pub position_rows_lem : (i : ℕ) → i < position_count b → PositionWithin (series_count b) (series_row b (layout b) (position_row b (layout b) i).series) (position_row b (layout b) i)

-- The rows of a layout stand within the file, before its trailer. What every reader of a row requires.
pub record Placed (b : List ℕ) (l : Layout) : Type 0 where
  pub size_most : length b ≤ most_bytes
  pub series_most : l.series ≤ most_series
  pub positions_most : l.positions ≤ most_positions
  pub width_is : l.width ≡ position_width
  pub positions_start_is : l.positionsStart ≡ l.seriesStart + series_width * l.series
  pub room : l.positionsStart + position_width * l.positions + trailer_width ≤ length b
