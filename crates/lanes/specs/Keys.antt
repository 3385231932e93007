-- Held rows in the order of their strikes, as numbers. A key carries series, family, strike and row, so that its order is
-- first the series', then the family's, then the strike's, then the row's. There are two lanes of keys: the up lane counts
-- upwards, the down lane from `last` downwards, but for rows of one strike, which stand in both in the order of the file.
-- A row's number takes the last 8 bits of a key. A lane is named by the column of the table (Marks) that has its links.
use Rattle.std.specs.Prelude.{ℕ, ◌+◌, ◌*◌, ◌-◌, ◌≤◌, ◌<◌, Bool, true, cond, ◌&&◌, ◌||◌, List, ◌≡◌, eqb, ltb}
use Rattle.lanes.specs.Limiters.{limiter_fits}
use Rattle.numbers.specs.Lists.{nth}
use Rattle.rules.specs.File.{Account}
use Rattle.rules.specs.Limits.{most_positions}
use Rattle.rules.specs.Pairs.{is_held, is_written, may_be_paired}
use Rattle.rules.specs.OnePosition.{normal}
use Rattle.rules.specs.declared.Barrier.{Barrier}
use Rattle.rules.specs.declared.Barrier.TheVariants.{NoBarrier, UpIn, DownIn, UpOut, DownOut}
use Rattle.rules.specs.declared.Position.{Position}

-- The columns of the table: the marks of the rows from 0 on, their links in both lanes, the unit margins, and the pairing's
-- lines; and the numbers of the whole table.
abbrev pub up_lane : ℕ
up_lane = most_positions

abbrev pub down_lane : ℕ
down_lane = 512

abbrev pub unit_column : ℕ
unit_column = 768

abbrev pub line_column : ℕ
line_column = 1_024

abbrev pub table_size : ℕ
table_size = 1_280

-- What stands for no key, no rank and no distance: above all of them.
abbrev pub none : ℕ
none = 1_152_921_504_606_846_976

-- Where the down lane counts from: above all places.
abbrev pub last : ℕ
last = 281_474_976_710_656

-- A held row that may be paired: no other row is the held row of a pair.
abbrev pub pairs_as_held : Position → Bool
pairs_as_held p = is_held p.side && may_be_paired p

-- A written row that may be paired: no other row is the written row of a pair.
abbrev pub pairs_as_written : Position → Bool
pairs_as_written p = is_written p.side && may_be_paired p

-- Row r has contracts that are not blocked (document 02 [9]).
abbrev pub some_unblocked : Account → ℕ → Bool
some_unblocked a r = ltb (a.position_at r).blocked (a.position_at r).q

-- The held rows in the lanes. One whose limiter bars its pair with every written row of its series is left out, and one whose
-- contracts are all blocked.
abbrev pub fits_lanes : Account → ℕ → Bool
fits_lanes a r = limiter_fits a r && some_unblocked a r

abbrev pub in_lanes : Account → ℕ → Bool
in_lanes a r = pairs_as_held (a.position_at r) && fits_lanes a r

-- The rows that have links.
abbrev pub is_linked : Account → ℕ → Bool
is_linked a r = in_lanes a r || pairs_as_written (a.position_at r)

-- What keys and ranks rest on.
pub record InRange (p : Position) : Type 0 where
  pub series_most : p.series ≤ 32
  pub pe_most : p.terms.pe ≤ 10_000_000

-- Rows that may pair are of one family: no barrier, up-and-out, down-and-out, or knock-ins, which pair with identical rows
-- only.
abbrev pub barrier_family : Barrier → ℕ
barrier_family NoBarrier = 0
barrier_family (UpIn price) = 3
barrier_family (DownIn price) = 3
barrier_family (UpOut price) = 1
barrier_family (DownOut price) = 2

-- "after flag 1 is applied"
unfoldable pub family : Position → ℕ
family p = barrier_family (normal p).barrier

-- The part of a key that series and family make, and the key without the row.
abbrev pub group_of : Position → ℕ
group_of p = (p.series * 4 + family p) * 1_099_511_627_776

abbrev pub place_of : Position → ℕ
place_of p = group_of p + p.terms.pe * 256

-- The same as the lane counts it.
abbrev pub from_of : ℕ → Position → ℕ
from_of o p = cond (eqb o up_lane) (place_of p) (last - place_of p)

-- Where the keys of the rows end that may pair with p: with the group, or for knock-ins with the strike. In the down lane, which
-- is looked at strictly below the strike, a knock-in has no such row, and the end is 0.
abbrev pub top_of : ℕ → Position → ℕ
top_of o p =
    cond (eqb (family p) 3)
    (cond (eqb o up_lane) (place_of p + 256) 0)
    (cond (eqb o up_lane) (group_of p + 1_099_511_627_776) (last + 256 - group_of p))

-- The same of row r.
abbrev pub top : Account → ℕ → ℕ → ℕ
top a o r = top_of o (a.position_at r)

abbrev pub from : Account → ℕ → ℕ → ℕ
from a o r = from_of o (a.position_at r)

-- The key of row r in the lane.
abbrev pub key : Account → ℕ → ℕ → ℕ
key a o r = cond (in_lanes a r) (from a o r + r) none

-- A written row looks in the up lane at its own strike and above it, in the down lane strictly below it, so that it
-- meets a held row in one lane only.
abbrev pub slack : ℕ → ℕ
slack o = cond (eqb o up_lane) 0 256

abbrev pub start : Account → ℕ → ℕ → ℕ
start a o r = from a o r + slack o

-- Where the keys begin that row r has its link among: after its own key, for a written row at its start.
abbrev pub link_from : Account → ℕ → ℕ → ℕ
link_from a o r = cond (in_lanes a r) (from a o r + r + 1) (start a o r)

-- y is the least of the first n keys that are at least lo; none where there is no such key.
pub record LeastKey (keys : ℕ → ℕ) (n lo y : ℕ) : Type 0 where
  pub lowest : (h : ℕ) → h < n → lo ≤ keys h → y ≤ keys h
  pub at_least : y < none → lo ≤ y
  pub is_key : y < none → (h : ℕ) × (h < n) × (keys h ≡ y)
  pub most : y ≤ none

-- The links of one lane: the next key after a held row's own, the first from a written row's start.
abbrev pub Links : Account → ℕ → List ℕ → Type 0
Links a o table =
    (r : ℕ) → r < a.positions → is_linked a r ≡ true
    → LeastKey (key a o) a.positions (link_from a o r) (nth table (o + r))
