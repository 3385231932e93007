use Rattle.lines_and_total.specs.Listing.{ContractsTo}
use Rattle.rules.specs.File.{account_of}
use Rattle.lines_and_total.proofs.contracts.fill_contracts.Given as goal

abbrev pub invariant-loop-row : goal.invariant-loop-row
invariant-loop-row l = ContractsTo (account_of l.file.bytes.now l.file.layout) l.left l.row
