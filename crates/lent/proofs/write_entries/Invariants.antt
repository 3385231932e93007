-- The lines from `from` to i - 1 are written into the list as it was.
use Rattle.std.proofs.Common.{◌≡◌}
use Rattle.lent.specs.Entries.{entries_written}
use Rattle.lent.proofs.write_entries.Given as goal

abbrev pub invariant-loop-i : goal.invariant-loop-i
invariant-loop-i l = l.lines ≡ entries_written l.numbers l.from l.i l.initial.lines
