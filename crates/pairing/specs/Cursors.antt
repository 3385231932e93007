-- The places of a written row in both lanes, and its nearest held row as a rank. Everything is said of the contracts left
-- now, and stays true while they fall.
use Rattle.std.specs.Prelude.{ℕ, ◌+◌, ◌*◌, ◌-◌, ◌/◌, ◌%◌, ◌≤◌, ◌<◌, min, Bool, true, cond, ◌&&◌, List, ◌≡◌, eqb, ltb, length}
use Rattle.account.specs.Accepted.{account_in}
use Rattle.account.specs.Known.{Known}
use Rattle.lanes.specs.Keys.{Links, down_lane, from, key, last, none, pairs_as_written, some_unblocked, start, top, up_lane}
use Rattle.lanes.specs.Marks.{mark_from, mark_top}
use Rattle.numbers.specs.Lists.{nth}
use Rattle.pairing.specs.declared.Standing.{Standing}
use Rattle.pairing.specs.declared.Written.{Written}
use Rattle.pairing.specs.declared.rows_now.RowsNow.{RowsNow}
use Rattle.rules.proofs.PairOrder.{rank}
use Rattle.rules.specs.File.{Account, account_of, series_of_row}
use Rattle.rules.specs.Limits.{most_positions}
use Rattle.rules.specs.Lines.{spread_unit}
use Rattle.rules.specs.OnePosition.{normal, unit_margin}
use Rattle.rules.specs.Pairs.{available, book_of, is_held, is_written, may_be_paired, may_of}
use Rattle.rules.specs.Spreads.{unit_spread}
use Rattle.rules.specs.declared.Layout.{Layout}
use Rattle.rules.specs.declared.Position.{Position}

-- The leaf of a row that is not spent and has no rank.
abbrev pub idle : ℕ
idle = 1_152_921_504_606_846_977

-- Row w as it is read once a search: its terms after flag 1, its series, its unit margin.
pub record Reading (a : Account) (w : Written) : Type 0 where
  pub terms_is : w.terms ≡ normal (a.position_at w.row)
  pub series_is : w.series ≡ series_of_row a w.row
  pub unit_is : w.unit ≡ unit_margin (series_of_row a w.row) (a.position_at w.row)
  pub written : pairs_as_written (a.position_at w.row) ≡ true

-- Rows w and h have all that may_pair asks before the margins are compared.
abbrev pub meet : Position → Position → Bool
meet w h =
    is_written w.side
    && is_held h.side
    && eqb w.series h.series
    && (may_be_paired w && may_be_paired h)

abbrev pub Meets : Account → ℕ → ℕ → Type 0
Meets a w h = meet (a.position_at w) (a.position_at h) ≡ true

-- The spread's unit of written row w and held row h.
abbrev pub spread_at : Account → ℕ → ℕ → ℕ
spread_at a w h = spread_unit (unit_spread (series_of_row a w) (a.position_at h) (a.position_at w))

-- What the question about rows w and h answers: a number below the written unit margin exactly where they may pair, and then
-- the spread's unit.
pub record Answered (a : Account) (w h unit charge : ℕ) : Type 0 where
  pub yes : charge < unit → (may_of a w h ≡ true) × (charge ≡ spread_at a w h)
  pub no : unit ≤ charge → may_of a w h ≡ true → ⊥

-- Rows w and h may pair, and h has contracts left, which are not blocked: the written row's own contracts do not count here,
-- since the next row of its line may take its place.
pub record Open (a : Account) (left : List ℕ) (w h : ℕ) : Type 0 where
  pub may_pair_lem : may_of a w h ≡ true
  pub held_left : 1 ≤ nth left h
  pub unblocked : some_unblocked a h ≡ true

-- No row has more contracts left than may be paired.
abbrev pub Usable : Account → List ℕ → Type 0
Usable a left = (r : ℕ) → r < a.positions → nth left r ≤ available a r

abbrev pub Shut : Account → List ℕ → ℕ → Type 0
Shut a left w = (h : ℕ) → h < a.positions → Open a left w h → ⊥

-- A cursor u of row w in lane o: no open pair of the row lies between its start and u; below the top of the row's
-- group u is the key of a row.
pub record Cursor (a : Account) (left : List ℕ) (o w u : ℕ) : Type 0 where
  pub passed : (h : ℕ) → h < a.positions → Open a left w h → start a o w ≤ key a o h → u ≤ key a o h
  pub after : u < top a o w → start a o w ≤ u
  pub row : u < top a o w → u % 256 < a.positions
  pub is_key : u < top a o w → key a o (u % 256) ≡ u

-- The cursors of row w in both lanes.
pub record Places (a : Account) (left : List ℕ) (w u d : ℕ) : Type 0 where
  pub up : Cursor a left up_lane w u
  pub down : Cursor a left down_lane w d
  pub written : pairs_as_written (a.position_at w) ≡ true

-- The distance of a cursor c: strike difference and held row in one number.
abbrev pub distance_to : ℕ → ℕ → ℕ → ℕ
distance_to c f t = cond (ltb c t) (c - f) none

abbrev pub distance : Account → ℕ → ℕ → ℕ → ℕ
distance a o w u = distance_to u (from a o w) (top a o w)

-- The rank from the written row and the lesser distance.
abbrev pub rank_from : ℕ → ℕ → ℕ
rank_from w m = m / 256 * 65_536 + w * 256 + m % 256

-- The rank r of row w: at most that of each open pair of the row, and that of the row and a held row; or above none, and
-- then no pair of the row is open.
pub record Ranked (a : Account) (left : List ℕ) (w r : ℕ) : Type 0 where
  pub lowest : r < none → (h : ℕ) → h < a.positions → Open a left w h → r ≤ rank (book_of a) w h
  pub row : r < none → r % 256 < a.positions
  pub is_rank : r < none → r ≡ rank (book_of a) w (r % 256)
  pub shut : none ≤ r → Shut a left w
  pub above : none ≤ r → none < r

-- The rank that two cursors of row w give.
abbrev pub rank_at : Account → ℕ → ℕ → ℕ → ℕ
rank_at a w u d = rank_from w (min (distance a up_lane w u) (distance a down_lane w d))

-- The pair of row w and held row h was asked about: they may pair, and this is their spread's unit.
pub record Told (a : Account) (w h spread : ℕ) : Type 0 where
  pub may_pair_lem : may_of a w h ≡ true
  pub spread_is : spread ≡ spread_at a w h

-- What is kept of row w: its cursors, the rank that they give, and the spread's unit of the pair of that rank; none where
-- that pair was not asked about.
pub record Kept (a : Account) (left : List ℕ) (w : ℕ) (t : Standing) : Type 0 where
  pub ranked : Ranked a left w t.rank
  pub told : t.rank < none → t.spread < none → Told a w (t.rank % 256) t.spread
  pub places : t.rank < none → Places a left w t.up t.down
  pub rank_at_lem : t.rank < none → t.rank ≡ rank_at a w t.up t.down

-- The held row of the rank has contracts left.
abbrev pub Live : List ℕ → ℕ → Type 0
Live left r = r < none → 1 ≤ nth left (r % 256)

-- Row w as it stands after a look from cursors u and d on.
pub record Found (a : Account) (left : List ℕ) (w u d : ℕ) (t : Standing) : Type 0 where
  pub kept : Kept a left w t
  pub live : Live left t.rank
  pub later_up : u ≤ t.up
  pub later_down : d ≤ t.down

-- The pair of the rank was asked about.
abbrev pub Answer : Standing → Type 0
Answer t = t.rank < none → t.spread < none

-- What the question about a written row and a held row asks.
pub record Asked (b : List ℕ) (l : Layout) (w : Written) (h : ℕ) : Type 0 where
  pub file : Known b l
  pub held : h < l.positions
  pub reading : Reading (account_of b l) w
  pub meets : Meets (account_of b l) w.row h

-- What passing over spent rows asks: a cursor of row w in a lane, and the row's top there.
pub record SkipAsked (r : RowsNow) (o w u t : ℕ) : Type 0 where
  pub row : w < r.file.layout.positions
  pub room : o + most_positions ≤ length r.table.now
  pub links : Links (account_in r.file) o r.table.now
  pub cursor : Cursor (account_in r.file) r.left.now o w u
  pub top_is : t ≡ top (account_in r.file) o w

-- A cursor from u on that stands at a row with contracts left.
pub record Skipped (a : Account) (left : List ℕ) (o w u v : ℕ) : Type 0 where
  pub cursor : Cursor a left o w v
  pub live : v < top a o w → 1 ≤ nth left (v % 256)
  pub later : u ≤ v

-- What a search asks: the row as it is read, and its cursors.
pub record SearchAsked (r : RowsNow) (w : Written) (up down : ℕ) : Type 0 where
  pub row : w.row < r.file.layout.positions
  pub reading : Reading (account_in r.file) w
  pub places : Places (account_in r.file) r.left.now w.row up down

-- The mark of a row, and a cursor that has reached the row's start.
pub record DistanceAsked (o x u : ℕ) : Type 0 where
  pub mark_most : x ≤ last
  pub reached : u < mark_top o x → mark_from o x ≤ u
