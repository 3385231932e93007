-- What one pair and the whole pairing promise.
use Rattle.std.specs.Prelude.{ℕ, ◌+◌, ◌*◌, ◌≤◌, ◌<◌, min, true, List, ◌≡◌, length, Some}
use Rattle.account.specs.Known.{Known}
use Rattle.lanes.specs.Keys.{table_size}
use Rattle.lanes.specs.Marks.{Units}
use Rattle.numbers.specs.Lists.{nth}
use Rattle.pairing.specs.Cursors.{spread_at}
use Rattle.pairing.specs.Resting.{Rests}
use Rattle.pairing.specs.Standings.{Lines, Standings, TableNew}
use Rattle.pairing.specs.declared.Instalment.{Instalment}
use Rattle.rules.specs.declared.Tally.{Tally}
use Rattle.lines.specs.LineNumbers.{line_from, lines_from, most_pair_numbers, numbers_per_line}
use Rattle.rules.specs.File.{Account, account_of}
use Rattle.rules.specs.Limits.{most_positions}
use Rattle.rules.specs.Lines.{pair_line, pair_lines, spread_amount, sum_over}
use Rattle.rules.specs.Pairs.{Made, available, contracts_after, may_of, pairs_after, taken}
use Rattle.rules.specs.declared.Layout.{Layout}
use Rattle.rules.specs.declared.Tally.{Tally}

-- The pair of rows w and h with the smaller quantity left.
abbrev pub pair_of : List ℕ → ℕ → ℕ → Made
pair_of left w h = record { written = w; held = h; quantity = min (nth left w) (nth left h) }

-- What making one pair asks: two rows of an accepted file with contracts left within their range, and room for line k.
pub record PairAsked (b : List ℕ) (l : Layout) (left numbers : List ℕ) (k w h spread : ℕ) : Type 0 where
  pub file : Known b l
  pub written : w < l.positions
  pub held : h < l.positions
  pub two : w ≡ h → ⊥
  pub may_pair_lem : may_of (account_of b l) w h ≡ true
  pub spread_is : spread ≡ spread_at (account_of b l) w h
  pub written_most : nth left w ≤ 100_000
  pub held_most : nth left h ≤ 100_000
  pub lefts : l.positions ≤ length left
  pub room : numbers_per_line * k + numbers_per_line ≤ length numbers

-- One pair made and written as line k.
pub record PairWritten (a : Account) (k w h : ℕ) (left₀ numbers₀ left numbers : List ℕ) (amount : ℕ) : Type 0 where
  pub amount_is : amount ≡ spread_amount a (pair_of left₀ w h)
  pub amount_most : amount ≤ 10_000_000_000_000_000
  pub left_is : (r : ℕ) → r < a.positions → nth left r ≡ taken (nth left₀) (Some (w, h)) r
  pub line_is : line_from numbers k ≡ pair_line a (pair_of left₀ w h)
  pub before : (i : ℕ) → i < numbers_per_line * k → nth numbers i ≡ nth numbers₀ i
  pub left_length : length left ≡ length left₀
  pub numbers_length : length numbers ≡ length numbers₀

-- What the pairing asks: an accepted file, room for all rows and the lines of all pairs, a table in which no row stands in
-- line, and of each row the contracts that may be paired.
pub record PairingAsked (b : List ℕ) (l : Layout) (table left numbers : List ℕ) : Type 0 where
  pub table_new : TableNew b l table
  pub lefts : most_positions ≤ length left
  pub room : most_pair_numbers ≤ length numbers
  pub contracts : (r : ℕ) → r < l.positions → nth left r ≡ available (account_of b l) r

-- After n rounds, of which t.count made a pair.
pub record PairedBy (n : ℕ) (a : Account) (left numbers : List ℕ) (t : Tally) : Type 0 where
  pub count_is : t.count ≡ length (pairs_after a n)
  pub total_is : t.total ≡ sum_over (spread_amount a) (pairs_after a n)
  pub total_most : t.total ≤ 10_000_000_000_000_000 * t.count
  pub left_is : (r : ℕ) → r < a.positions → nth left r ≡ contracts_after a n r
  pub lines_are : lines_from numbers t.count ≡ pair_lines a (pairs_after a n)

-- What the rounds ask: the rows stand, room for the lines, and the pairs that there are, one of each round.
pub record RoundsAsked (b : List ℕ) (l : Layout) (left numbers table tree places : List ℕ) (before : Tally) : Type 0 where
  pub rests : Rests b l left table
  pub lines : Lines (account_of b l) table
  pub standings : Standings (account_of b l) left table tree places
  pub room : most_pair_numbers ≤ length numbers
  pub paired : PairedBy before.count (account_of b l) left numbers before

-- After n rounds. As many rounds as there are pairs give the same, and the rows still stand, so that further rounds go on from
-- there.
pub record RoundsMade (n : ℕ) (a : Account) (left numbers table tree places : List ℕ) (t : Tally) : Type 0 where
  pub paired : PairedBy n a left numbers t
  pub one_each : PairedBy t.count a left numbers t
  pub standings : Standings a left table tree places

-- The pairs of the first `count` rounds and of as many more as allowed, how many the first are, and the unit margins of the
-- written rows in the table.
pub record PairedUp (a : Account) (count allowance : ℕ) (table left numbers : List ℕ) (r : Instalment) : Type 0 where
  pub first_is : r.first ≡ length (pairs_after a count)
  pub paired : PairedBy (count + allowance) a left numbers r.pairs
  pub units : Units a table
  pub room : table_size ≤ length table
