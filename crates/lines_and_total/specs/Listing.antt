-- What the parts of the whole account ask and promise. Lines and total are said relative to those already there.
use Rattle.std.specs.Prelude.{ℕ, ◌+◌, ◌*◌, ◌≤◌, ◌<◌, min, cond, true, List, [], ◌∷◌, ◌++◌, ◌≡◌, ltb, length}
use Rattle.account.specs.Known.{Known}
use Rattle.lanes.specs.Keys.{table_size}
use Rattle.lanes.specs.Marks.{Units}
use Rattle.numbers.specs.Lists.{nth}
use Rattle.lines.specs.LineNumbers.{lines_from, most_numbers, most_pair_numbers}
use Rattle.lines_and_total.specs.declared.Listed.{Listed}
use Rattle.pairing.specs.declared.Instalment.{Instalment}
use Rattle.rules.specs.declared.Tally.{Tally}
use Rattle.position.specs.Fits.{RowFits}
use Rattle.rules.specs.File.{Account, account_of, series_of_row}
use Rattle.rules.specs.Lines.{left_line, line_amount, lines_after, most_lines, pair_lines, sum_over, sum_to}
use Rattle.rules.specs.OnePosition.{unit_margin}
use Rattle.rules.specs.Pairs.{available, is_written, pairs_after}
use Rattle.rules.specs.declared.Layout.{Layout}
use Rattle.rules.specs.declared.Line.{Line}
use Rattle.rules.specs.declared.Position.{Position}
use Rattle.rules.specs.declared.Series.{Series}

-- The first n numbers are the contracts of rows 0 to n - 1 that may be paired.
abbrev pub ContractsTo : Account → List ℕ → ℕ → Type 0
ContractsTo a left n = (r : ℕ) → r < n → nth left r ≡ available a r

-- The quantity of row r's left line, where pairing may still use left r contracts: the blocked ones count too (document 02
-- [9]).
abbrev pub shown_left : Account → (ℕ → ℕ) → ℕ → ℕ
shown_left a left r = left r + (a.position_at r).blocked

-- The line of row r, where it has contracts left.
abbrev pub left_of : Account → (ℕ → ℕ) → ℕ → List Line
left_of a left r = cond (ltb 0 (left r)) (left_line a r (left r) ∷ []) []

-- The lines `extra` written after those of t₀, and their amounts added to its total.
pub record Added (extra : List Line) (numbers₀ numbers : List ℕ) (t₀ t : Tally) : Type 0 where
  pub count_is : t.count ≡ t₀.count + length extra
  pub lines_are : lines_from numbers t.count ≡ lines_from numbers₀ t₀.count ++ extra
  pub total_is : t.total ≡ t₀.total + sum_over line_amount extra
  pub total_most : t.total ≤ t₀.total + 10_000_000_000_000_000 * length extra
  pub numbers_length : length numbers ≡ length numbers₀

-- What the amount of q contracts left asks: of a written position its unit margin.
pub record LeftAsked (s : Series) (p : Position) (unit q : ℕ) : Type 0 where
  pub fits : RowFits s p
  pub unit_is : is_written p.side ≡ true → unit ≡ unit_margin s p
  pub q_most : q ≤ 100_000

-- The same of a row.
pub record AmountAsked (b : List ℕ) (l : Layout) (row unit q : ℕ) : Type 0 where
  pub file : Known b l
  pub row_below : row < l.positions
  pub unit_is : is_written ((account_of b l).position_at row).side ≡ true
      → unit ≡ unit_margin (series_of_row (account_of b l) row) ((account_of b l).position_at row)
  pub q_most : q ≤ 100_000

-- What the quantity of one row's left line asks: a row of an accepted file, and contracts within their range.
pub record LeftRead (b : List ℕ) (l : Layout) (left : List ℕ) (row : ℕ) : Type 0 where
  pub file : Known b l
  pub row_below : row < l.positions
  pub lefts : l.positions ≤ length left
  pub left_most : shown_left (account_of b l) (nth left) row ≤ 100_000

-- What the line of one row asks: a row of an accepted file, the unit margins, contracts left within their range, and room
-- for the line after the lines of t.
pub record RowAsked (b : List ℕ) (l : Layout) (table left numbers : List ℕ) (t : Tally) (row : ℕ) : Type 0 where
  pub file : Known b l
  pub row_below : row < l.positions
  pub table_room : table_size ≤ length table
  pub units : Units (account_of b l) table
  pub lefts : l.positions ≤ length left
  pub left_most : shown_left (account_of b l) (nth left) row ≤ 100_000
  pub room : most_numbers ≤ length numbers
  pub few : t.count + min 1 (shown_left (account_of b l) (nth left) row) ≤ most_lines
  pub total_most : t.total ≤ 10_000_000_000_000_000 * t.count

-- What the lines of all rows ask: together with the lines of t there are at most `most_lines`.
pub record RowsAsked (b : List ℕ) (l : Layout) (table left numbers : List ℕ) (t : Tally) : Type 0 where
  pub file : Known b l
  pub table_room : table_size ≤ length table
  pub units : Units (account_of b l) table
  pub lefts : l.positions ≤ length left
  pub left_most : (r : ℕ) → r < l.positions → shown_left (account_of b l) (nth left) r ≤ 100_000
  pub room : most_numbers ≤ length numbers
  pub few : t.count + sum_to (λ r. min 1 (shown_left (account_of b l) (nth left) r)) l.positions ≤ most_lines
  pub total_most : t.total ≤ 10_000_000_000_000_000 * t.count

-- The lines of the account after `count` rounds of pairing, how many of them are of pairs, and the sum of their amounts.
pub record AccountListed (a : Account) (count : ℕ) (numbers : List ℕ) (r : Listed) : Type 0 where
  pub first_is : r.first ≡ length (pairs_after a count)
  pub count_is : r.lines.count ≡ length (lines_after a count)
  pub lines_are : lines_from numbers r.lines.count ≡ lines_after a count
  pub pair_lines_lem : lines_from numbers r.first ≡ pair_lines a (pairs_after a count)
  pub total_is : r.lines.total ≡ sum_over line_amount (lines_after a count)
  pub total_most : r.lines.total ≤ 10_000_000_000_000_000 * most_lines
  pub numbers_length : length numbers ≡ most_numbers

-- The lines of the pairs after `count` rounds and as many more as allowed, and how many there are after each of the two.
pub record PairsListed (a : Account) (count allowance : ℕ) (numbers : List ℕ) (r : Instalment) : Type 0 where
  pub first_is : r.first ≡ length (pairs_after a count)
  pub count_is : r.pairs.count ≡ length (pairs_after a (count + allowance))
  pub lines_are : lines_from numbers r.pairs.count ≡ pair_lines a (pairs_after a (count + allowance))
  pub numbers_length : length numbers ≡ most_pair_numbers
