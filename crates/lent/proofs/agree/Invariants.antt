-- The list begins with the first i lines of the numbers, or `same` is false.
use Rattle.std.proofs.Common.{◌≡◌}
use Rattle.lines.specs.LineNumbers.{lines_from}
use Rattle.rules.specs.Instalments.{begins_with}
use Rattle.lent.proofs.agree.Given as goal

abbrev pub invariant-loop-i : goal.invariant-loop-i
invariant-loop-i l = l.same ≡ begins_with (lines_from l.numbers l.i) l.lines
