-- What the whole account promises.
use Rattle.std.specs.Prelude.{ℕ, ◌≤◌, List, ◌≡◌, length, Result}
use Rattle.lines.specs.LineNumbers.{line_count, lines_from, most_numbers}
use Rattle.rules.specs.Lines.{lines_given, margin_answer, most_lines}
use Rattle.rules.specs.declared.Refused.{Refused}
use Rattle.rules.specs.declared.Tally.{Tally}

-- The answer for a file and a list of `room` entries, and the lines as plain numbers.
pub record Settled (b : List ℕ) (room : ℕ) (numbers : List ℕ) (r : Result Tally Refused) : Type 0 where
  pub answer_is : r ≡ margin_answer b room
  pub lines_are : lines_from numbers (line_count r) ≡ lines_given b room
  pub count_most : line_count r ≤ room
  pub count_small : line_count r ≤ most_lines
  pub numbers_length : length numbers ≡ most_numbers
