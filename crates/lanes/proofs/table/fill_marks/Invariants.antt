use Rattle.lanes.specs.Marks.{Marked}
use Rattle.rules.specs.File.{account_of}
use Rattle.lanes.proofs.table.fill_marks.Given as goal

abbrev pub invariant-loop-r : goal.invariant-loop-r
invariant-loop-r l = Marked (account_of l.file.bytes.now l.file.layout) l.r l.initial.table l.table
