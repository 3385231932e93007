use Rattle.lines_and_total.specs.Listing.{Added, shown_left}
use Rattle.numbers.specs.Lists.{nth}
use Rattle.rules.specs.File.{account_of}
use Rattle.rules.specs.Lines.{left_lines}
use Rattle.lines_and_total.proofs.left.left_rows.Given as goal

abbrev pub invariant-loop-row : goal.invariant-loop-row
invariant-loop-row l = Added (left_lines (account_of l.file.bytes.now l.file.layout) (shown_left (account_of l.file.bytes.now l.file.layout) (nth l.left)) l.row) l.initial.numbers l.numbers l.initial.t l.t
