use Rattle.rules.proofs.Scan.{CleanTo}
use Rattle.rules.specs.Refusals.{series_fault}
use Rattle.account.proofs.reader.series_rows.Given as goal

abbrev pub invariant-loop-row : goal.invariant-loop-row
invariant-loop-row l = CleanTo (series_fault l.file l.l) l.row
