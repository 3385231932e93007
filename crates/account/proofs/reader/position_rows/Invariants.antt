use Rattle.rules.proofs.Scan.{CleanTo}
use Rattle.rules.specs.Refusals.{position_fault}
use Rattle.account.proofs.reader.position_rows.Given as goal

abbrev pub invariant-loop-row : goal.invariant-loop-row
invariant-loop-row l = CleanTo (position_fault l.file l.l) l.row
