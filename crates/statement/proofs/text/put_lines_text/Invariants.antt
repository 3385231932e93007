use Rattle.std.proofs.Common.{◌*◌, ◌≤◌}
use Rattle.lines.specs.LineNumbers.{lines_from}
use Rattle.rules.specs.Output.{lines_text}
use Rattle.statement.specs.Puts.{Put}
use Rattle.statement.specs.Sizes.{most_line_text}
use Rattle.statement.proofs.text.put_lines_text.Given as goal

abbrev pub invariant-loop-i : goal.invariant-loop-i
invariant-loop-i l = Put l.fn.text l.text 0 l.at (lines_text (lines_from l.numbers l.i)) × (l.at ≤ most_line_text * l.i)
