use Rattle.pairing.specs.Standings.{Leaves}
use Rattle.account.specs.Accepted.{account_in}
use Rattle.pairing.proofs.rows_now.RowsNow.begin_rows.Given as goal

abbrev pub invariant-loop-w : goal.invariant-loop-w
invariant-loop-w l = Leaves (account_in l.self.file) l.self.left.now l.self.table.now l.w 256 l.tree l.places
