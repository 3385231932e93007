-- A list of lines after some of its entries are written.
use Rattle.std.specs.Prelude.{ℕ, List, ◌++◌, drop, take}
use Rattle.lines.specs.LineNumbers.{lines_from}
use Rattle.rules.specs.declared.Line.{Line}

-- The entries before `from` as they were, then the numbers' lines `from` to n - 1, then the entries from n on as they were.
unfoldable pub entries_written : List ℕ → ℕ → ℕ → List Line → List Line
entries_written numbers from n lines = take from lines ++ drop from (lines_from numbers n ++ drop n lines)
