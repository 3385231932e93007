-- What stands for all rows: the lines of rows with the same terms, the leaves of the tree, and what each step of a round
-- makes of them.
use Rattle.std.specs.Prelude.{ℕ, ◌+◌, ◌/◌, ◌%◌, ◌≤◌, ◌<◌, Bool, true, List, ◌⊎◌, ◌≡◌, length}
use Rattle.account.specs.Accepted.{account_in}
use Rattle.account.specs.Known.{Known}
use Rattle.lanes.specs.Keys.{line_column, none, pairs_as_written, place_of, start, table_size, top}
use Rattle.lanes.specs.Marks.{Sorted, Table}
use Rattle.numbers.specs.Lists.{nth}
use Rattle.pairing.specs.Cursors.{Kept, Live, Places, Shut, rank_at}
use Rattle.pairing.specs.declared.Standing.{Standing}
use Rattle.pairing.specs.declared.rows_now.RowsNow.{RowsNow}
use Rattle.rules.specs.File.{Account, account_of}
use Rattle.rules.specs.Limits.{most_positions}
use Rattle.rules.specs.Pairs.{gap_of, may_of}
use Rattle.rules.specs.declared.Layout.{Layout}
use Rattle.tree.specs.Tree.{LeafPut, Leafed, Tree, leaf}

-- The key of a written row that pairs.
pub record WrittenKey (a : Account) (x : ℕ) : Type 0 where
  pub row : x % 256 < a.positions
  pub key_is : x ≡ place_of (a.position_at (x % 256)) + x % 256
  pub written : pairs_as_written (a.position_at (x % 256)) ≡ true

-- Written rows of the same terms: what the pairing looks at is the same.
pub record Alike (a : Account) (v w : ℕ) : Type 0 where
  pub may : (h : ℕ) → may_of a v h ≡ may_of a w h
  pub gap : (h : ℕ) → gap_of a v h ≡ gap_of a w h
  pub written : pairs_as_written (a.position_at w) ≡ true
  pub starts : (o : ℕ) → start a o v ≡ start a o w
  pub tops : (o : ℕ) → top a o v ≡ top a o w

-- Written rows of the same terms stand in line: the table's last column has the row after row v, or 0, which is after
-- no row.
pub record After (a : Account) (v w : ℕ) : Type 0 where
  pub later : v < w
  pub row : w < a.positions
  pub alike : Alike a v w

abbrev pub line_after : List ℕ → ℕ → ℕ
line_after table v = nth table (line_column + v)

abbrev pub Lines : Account → List ℕ → Type 0
Lines a table = (v : ℕ) → v < a.positions → 1 ≤ line_after table v → After a v (line_after table v)

-- The leaf of row w.
abbrev pub leaf_of : Account → List ℕ → ℕ → ℕ
leaf_of a tree w = leaf a.positions tree w

-- The columns of the places: those in the up lane from 0 on, those in the down lane, the units of the spreads; and the
-- numbers of all.
abbrev pub down_column : ℕ
down_column = most_positions

abbrev pub spread_column : ℕ
spread_column = 512

abbrev pub places_size : ℕ
places_size = 768

-- What stands for row w: its rank is leaf w of the tree; its places and the unit of its spread stand beside it.
abbrev pub standing : Account → List ℕ → List ℕ → ℕ → Standing
standing a tree places w =
    record {
      rank = leaf_of a tree w;
      spread = nth places (spread_column + w);
      up = nth places w;
      down = nth places (down_column + w);
    }

-- The places of row w and the unit of its spread put, the others as they were.
pub record PlacesPut (old new : List ℕ) (w : ℕ) (t : Standing) : Type 0 where
  pub up : nth new w ≡ t.up
  pub down : nth new (down_column + w) ≡ t.down
  pub spread : nth new (spread_column + w) ≡ t.spread
  pub others : (v : ℕ) → v < most_positions → (v ≡ w → ⊥)
      → (nth new v ≡ nth old v) × (nth new (down_column + v) ≡ nth old (down_column + v)) × (nth new (spread_column + v) ≡ nth old (spread_column + v))

-- Row w waits for a row before it in line, which is not spent.
pub record Waits (a : Account) (table tree : List ℕ) (w : ℕ) : Type 0 where
  pub before : ℕ
  pub row : before < a.positions
  pub is_next : line_after table before ≡ w
  pub some : 1 ≤ w
  pub unspent : leaf_of a tree before ≡ none → ⊥

-- The leaves: below none a row's rank; none a spent row; above none a row without open pairs, or one that waits. The rows
-- from n on are not ranked yet, and of row x it is not said that it waits (`most_positions` is no row).
pub record Leaves (a : Account) (left table : List ℕ) (n x : ℕ) (tree places : List ℕ) : Type 0 where
  pub kept : (w : ℕ) → w < a.positions → leaf_of a tree w < none → Kept a left w (standing a tree places w)
  pub spent : (w : ℕ) → w < n → leaf_of a tree w ≡ none → nth left w ≡ 0
  pub waits : (w : ℕ) → w < a.positions → (w ≡ x → ⊥) → none < leaf_of a tree w → Shut a left w ⊎ Waits a table tree w
  pub fresh : (w : ℕ) → n ≤ w → w < a.positions → none ≤ leaf_of a tree w
  pub leafed : Leafed a.positions tree
  pub places_room : places_size ≤ length places

-- Every row stands, and the tree over the leaves is right.
pub record Standings (a : Account) (left table tree places : List ℕ) : Type 0 where
  pub leaves : Leaves a left table a.positions most_positions tree places
  pub right : Tree a.positions tree

-- The next row of the beginning.
pub record Begun (a : Account) (left table : List ℕ) (n : ℕ) (tree places : List ℕ) : Type 0 where
  pub leaves : Leaves a left table (n + 1) most_positions tree places
  pub some : leaf_of a tree n ≡ none → ⊥

-- The pair of row w's rank was asked about.
abbrev pub AskedAt : List ℕ → ℕ → Type 0
AskedAt places w = nth places (spread_column + w) < none

-- Row w ranked from cursors u and d on: its leaf live and no lower than what those give, the other leaves as they were. If
-- it was to ask, the tree is right and the pair of its rank was asked about.
pub record RowPut (a : Account) (left table old tree places : List ℕ) (w u d : ℕ) (ask : Bool) : Type 0 where
  pub leaves : Leaves a left table a.positions most_positions tree places
  pub live : Live left (leaf_of a tree w)
  pub put : LeafPut a.positions old tree w (leaf_of a tree w)
  pub above : leaf_of a tree w < none → rank_at a w u d ≤ leaf_of a tree w
  pub right : ask ≡ true → Tree a.positions tree
  pub told : ask ≡ true → leaf_of a tree w < none → AskedAt places w

-- Row w has a rank, and one of its two rows is spent.
pub record Stale (a : Account) (left tree : List ℕ) (w : ℕ) : Type 0 where
  pub row : w < a.positions
  pub some : leaf_of a tree w < none
  pub spent : (1 ≤ nth left w) × (1 ≤ nth left (leaf_of a tree w % 256)) → ⊥

-- Each leaf but w's is as it was, or it is above what w's was.
abbrev pub Lifted : Account → List ℕ → List ℕ → ℕ → Type 0
Lifted a old tree w = (x : ℕ) → x < a.positions → ((x ≡ w → ⊥) × (leaf_of a tree x ≡ leaf_of a old x)) ⊎ (leaf_of a old w < leaf_of a tree x)

-- Row w renewed.
pub record Renewed (a : Account) (left table old tree places : List ℕ) (w : ℕ) : Type 0 where
  pub leaves : Leaves a left table a.positions most_positions tree places
  pub lifted : Lifted a old tree w

-- Row w looked at in a pass: renewed if it is stale.
pub record Looked (a : Account) (left table old tree places : List ℕ) (w : ℕ) : Type 0 where
  pub leaves : Leaves a left table a.positions most_positions tree places
  pub each : (x : ℕ) → x < a.positions → ((x ≡ w → Stale a left old w → ⊥) × (leaf_of a tree x ≡ leaf_of a old x)) ⊎ (leaf_of a old w < leaf_of a tree x)

-- The rows before v looked at, where r is the least and row w's: every leaf is above r, but for w's where it comes later.
abbrev pub LookedTo : Account → List ℕ → ℕ → ℕ → ℕ → Type 0
LookedTo a tree r w v = (x : ℕ) → x < a.positions → (r < leaf_of a tree x) ⊎ ((x ≡ w) × (v ≤ w) × (leaf_of a tree w ≡ r))

-- The least is stale and has a row.
pub record StaleLeast (a : Account) (left tree : List ℕ) (w : ℕ) : Type 0 where
  pub stale : Stale a left tree w
  pub least : leaf_of a tree w ≡ nth tree 1

-- It was renewed: the least rises.
pub record Raised (a : Account) (left table old tree places : List ℕ) : Type 0 where
  pub standings : Standings a left table tree places
  pub rises : nth old 1 < nth tree 1

-- The least rank r is one of a pair with contracts left that was asked about.
pub record Settled (left places : List ℕ) (r : ℕ) : Type 0 where
  pub written_left : 1 ≤ nth left (r / 256 % 256)
  pub held_left : 1 ≤ nth left (r % 256)
  pub told : AskedAt places (r / 256 % 256)

-- The least was looked at again: it rises, or its pair was asked about, which it was not before.
pub record Nearer (a : Account) (left table old places₀ tree places : List ℕ) : Type 0 where
  pub standings : Standings a left table tree places
  pub nearer : (nth old 1 < nth tree 1)
      ⊎ ((nth tree 1 ≡ nth old 1) × AskedAt places (nth tree 1 / 256 % 256) × (AskedAt places₀ (nth old 1 / 256 % 256) → ⊥))

-- The least rank r, settled if there is one.
pub record BestRank (a : Account) (left table tree places : List ℕ) (r : ℕ) : Type 0 where
  pub standings : Standings a left table tree places
  pub least : r ≡ nth tree 1
  pub settled : r < none → Settled left places r

-- What each step asks. The lines: a table, the keys of the written rows, and lines as far as they are put.
pub record LinesAsked (b : List ℕ) (l : Layout) (table written : List ℕ) (n : ℕ) : Type 0 where
  pub file : Known b l
  pub filled : Table (account_of b l) table
  pub sorted : Sorted table 1 written n l.positions
  pub room : most_positions ≤ length written
  pub lines : Lines (account_of b l) table

-- Two neighbours among the written rows' keys, which rise.
pub record NeighboursAsked (b : List ℕ) (l : Layout) (table : List ℕ) (x y : ℕ) : Type 0 where
  pub file : Known b l
  pub filled : Table (account_of b l) table
  pub lines : Lines (account_of b l) table
  pub first : WrittenKey (account_of b l) x
  pub second : WrittenKey (account_of b l) y
  pub rising : x < y

-- Lines put into the table, which is else as it was.
pub record Lined (a : Account) (old table : List ℕ) : Type 0 where
  pub filled : Table a table
  pub lines : Lines a table
  pub same : (i : ℕ) → i < line_column → nth table i ≡ nth old i

-- A table in which no row stands in line.
pub record TableNew (b : List ℕ) (l : Layout) (table : List ℕ) : Type 0 where
  pub file : Known b l
  pub room : table_size ≤ length table
  pub no_lines : (v : ℕ) → v < most_positions → line_after table v ≡ 0

-- The same, and room for what the table is made with.
pub record FillAsked (b : List ℕ) (l : Layout) (table written keys starts : List ℕ) : Type 0 where
  pub table_new : TableNew b l table
  pub written_room : most_positions ≤ length written
  pub keys_room : most_positions ≤ length keys
  pub starts_room : most_positions ≤ length starts

-- The table filled.
pub record Prepared (a : Account) (table : List ℕ) : Type 0 where
  pub filled : Table a table
  pub lines : Lines a table

-- The first look at row w.
pub record BeginAsked (r : RowsNow) (tree places : List ℕ) (w : ℕ) : Type 0 where
  pub row : w < r.file.layout.positions
  pub leaves : Leaves (account_in r.file) r.left.now r.table.now w most_positions tree places

-- The row after row w in line.
pub record NextAsked (r : RowsNow) (tree places : List ℕ) (w : ℕ) : Type 0 where
  pub row : w < r.file.layout.positions
  pub lines : Lines (account_in r.file) r.table.now
  pub begun : Begun (account_in r.file) r.left.now r.table.now w tree places

-- The first look at all rows.
pub record BeginAllAsked (r : RowsNow) (tree places : List ℕ) : Type 0 where
  pub lines : Lines (account_in r.file) r.table.now
  pub leaves : Leaves (account_in r.file) r.left.now r.table.now 0 most_positions tree places

-- Row w ranked from the places of row v.
pub record RankAsked (r : RowsNow) (tree places : List ℕ) (v w : ℕ) (climb : Bool) : Type 0 where
  pub row : w < r.file.layout.positions
  pub from_row : v < r.file.layout.positions
  pub leaves : Leaves (account_in r.file) r.left.now r.table.now r.file.layout.positions w tree places
  pub cursors : Places (account_in r.file) r.left.now w (nth places v) (nth places (down_column + v))
  pub right : climb ≡ true → Tree r.file.layout.positions tree

-- Row w, which is stale.
pub record RenewAsked (r : RowsNow) (tree places : List ℕ) (w : ℕ) (climb : Bool) : Type 0 where
  pub row : w < r.file.layout.positions
  pub lines : Lines (account_in r.file) r.table.now
  pub leaves : Leaves (account_in r.file) r.left.now r.table.now r.file.layout.positions most_positions tree places
  pub stale : Stale (account_in r.file) r.left.now tree w
  pub right : climb ≡ true → Tree r.file.layout.positions tree

-- Row w, stale or not.
pub record LookAsked (r : RowsNow) (tree places : List ℕ) (w : ℕ) : Type 0 where
  pub row : w < r.file.layout.positions
  pub lines : Lines (account_in r.file) r.table.now
  pub leaves : Leaves (account_in r.file) r.left.now r.table.now r.file.layout.positions most_positions tree places

-- All rows.
pub record RowsAsked (r : RowsNow) (tree places : List ℕ) : Type 0 where
  pub lines : Lines (account_in r.file) r.table.now
  pub standings : Standings (account_in r.file) r.left.now r.table.now tree places

-- All rows, where the least is row w's and stale.
pub record StaleAsked (r : RowsNow) (tree places : List ℕ) (w : ℕ) : Type 0 where
  pub rows : RowsAsked r tree places
  pub least : StaleLeast (account_in r.file) r.left.now tree w

-- The least, of rows w and h, which is not settled.
pub record LeastAsked (r : RowsNow) (tree places : List ℕ) (w h : ℕ) : Type 0 where
  pub rows : RowsAsked r tree places
  pub some : nth tree 1 < none
  pub written_is : w ≡ nth tree 1 / 256 % 256
  pub held_is : h ≡ nth tree 1 % 256
  pub unsettled : Settled r.left.now places (nth tree 1) → ⊥
