-- The table of an account's rows, made once before the pairs: five columns with a number of each row. The first
-- has the marks; the columns of the lanes the links, then come the unit margins; the last column is the pairing's.
use Rattle.std.specs.Prelude.{ℕ, ◌+◌, ◌*◌, ◌-◌, ◌/◌, ◌%◌, ◌≤◌, ◌<◌, Bool, true, cond, List, ◌≡◌, eqb, length}
use Rattle.account.specs.Known.{Known}
use Rattle.lanes.specs.Keys.{Links, down_lane, fits_lanes, last, line_column, place_of, table_size, unit_column, up_lane}
use Rattle.lanes.specs.Limiters.{Nearest, if_written}
use Rattle.numbers.specs.Lists.{nth}
use Rattle.rules.specs.File.{Account, account_of, series_of_row}
use Rattle.rules.specs.Limits.{most_positions, most_series}
use Rattle.rules.specs.OnePosition.{unit_margin}
use Rattle.rules.specs.Pairs.{is_written, may_be_paired}
use Rattle.rules.specs.declared.Layout.{Layout}
use Rattle.rules.specs.declared.Position.{Position}
use Rattle.rules.specs.declared.Side.{Side}
use Rattle.rules.specs.declared.Side.TheVariants.{Held, Written}

-- What a row can be in a pair: its held row, 0, its written row, 1, or neither, 2. A held row that stays out of
-- the lanes (`Keys.fits_lanes`) is neither.
abbrev pub side_role : Bool → Side → ℕ
side_role fits Held = cond fits 0 2
side_role fits Written = 1

abbrev pub role_of : Bool → Position → ℕ
role_of fits p = cond (may_be_paired p) (side_role fits p.side) 2

-- The mark of a row: its place, and its role where a key has the row.
abbrev pub mark_of : Bool → Position → ℕ
mark_of fits p = place_of p + role_of fits p

-- What keys have, of a mark x: the place, the same as the lane counts it, and the top.
abbrev pub mark_place : ℕ → ℕ
mark_place x = x / 256 * 256

abbrev pub mark_from : ℕ → ℕ → ℕ
mark_from o x = cond (eqb o up_lane) (mark_place x) (last - mark_place x)

abbrev pub mark_group : ℕ → ℕ
mark_group x = x / 1_099_511_627_776 * 1_099_511_627_776

abbrev pub mark_top : ℕ → ℕ → ℕ
mark_top o x =
    cond (eqb (x / 1_099_511_627_776 % 4) 3)
    (cond (eqb o up_lane) (mark_place x + 256) 0)
    (cond (eqb o up_lane) (mark_group x + 1_099_511_627_776) (last + 256 - mark_group x))

abbrev pub Marks : Account → List ℕ → Type 0
Marks a table = (r : ℕ) → r < a.positions → nth table r ≡ mark_of (fits_lanes a r) (a.position_at r)

-- The unit margins of the written rows.
abbrev pub Units : Account → List ℕ → Type 0
Units a table =
    (r : ℕ) → r < a.positions → is_written (a.position_at r).side ≡ true
    → nth table (unit_column + r) ≡ unit_margin (series_of_row a r) (a.position_at r)

-- The first n numbers ascend.
abbrev pub Ascending : List ℕ → ℕ → Type 0
Ascending keys n = (i j : ℕ) → i ≤ j → j < n → nth keys i ≤ nth keys j

-- The first n numbers are the places and rows of the rows before m with this role, in ascending order, each row once.
pub record Sorted (table : List ℕ) (role : ℕ) (keys : List ℕ) (n m : ℕ) : Type 0 where
  pub ascending : Ascending keys n
  pub apart : (i j : ℕ) → i < j → j < n → nth keys i % 256 ≡ nth keys j % 256 → ⊥
  pub has : (r : ℕ) → r < m → nth table r % 256 ≡ role → (j : ℕ) × (j < n) × (nth keys j ≡ mark_place (nth table r) + r)
  pub only : (j : ℕ) → j < n → (r : ℕ) × (r < m) × (nth table r % 256 ≡ role) × (nth keys j ≡ mark_place (nth table r) + r)
  pub few : n ≤ m

-- The table before lines are put into its last column.
pub record Table (a : Account) (table : List ℕ) : Type 0 where
  pub room : table_size ≤ length table
  pub marks : Marks a table
  pub units : Units a table
  pub up : Links a up_lane table
  pub down : Links a down_lane table

-- The last column is as it was.
abbrev pub SameLines : List ℕ → List ℕ → Type 0
SameLines old new = (i : ℕ) → line_column ≤ i → nth new i ≡ nth old i

-- What making the table rests on, and what it gives.
pub record TableAsked (b : List ℕ) (l : Layout) (table written keys starts : List ℕ) : Type 0 where
  pub file : Known b l
  pub room : table_size ≤ length table
  pub written_room : most_positions ≤ length written
  pub keys_room : most_positions ≤ length keys
  pub starts_room : most_positions ≤ length starts

pub record TableFilled (a : Account) (old new written : List ℕ) (n : ℕ) : Type 0 where
  pub table : Table a new
  pub lines : SameLines old new
  pub sorted : Sorted new 1 written n a.positions

-- What marks rest on: how near the nearest limiter of each series' written rows is.
pub record MarksAsked (b : List ℕ) (l : Layout) (near table : List ℕ) : Type 0 where
  pub file : Known b l
  pub near_room : most_series ≤ length near
  pub near_are : Nearest (account_of b l) l.positions near
  pub room : line_column ≤ length table

-- The same, and a row p that was read.
pub record FitsAsked (b : List ℕ) (l : Layout) (near : List ℕ) (p : Position) (row : ℕ) : Type 0 where
  pub file : Known b l
  pub near_room : most_series ≤ length near
  pub near_are : Nearest (account_of b l) l.positions near
  pub series_below : p.series < l.series
  pub read : p ≡ (account_of b l).position_at row

-- Marks and unit margins of the rows before m.
pub record Marked (a : Account) (m : ℕ) (old new : List ℕ) : Type 0 where
  pub marks : (r : ℕ) → r < m → nth new r ≡ mark_of (fits_lanes a r) (a.position_at r)
  pub units : (r : ℕ) → r < m → nth new (unit_column + r) ≡ if_written (a.position_at r).side (unit_margin (series_of_row a r) (a.position_at r))
  pub lines : SameLines old new
