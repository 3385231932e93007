use Rattle.numbers.specs.Lists.{nth}
use Rattle.pairing.specs.Standings.{Leaves, LookedTo}
use Rattle.account.specs.Accepted.{account_in}
use Rattle.pairing.proofs.rows_now.RowsNow.renew_all.Given as goal

abbrev pub invariant-loop-v : goal.invariant-loop-v
invariant-loop-v l = Leaves (account_in l.self.file) l.self.left.now l.self.table.now l.self.file.layout.positions 256 l.tree l.places × LookedTo (account_in l.self.file) l.tree (nth l.initial.tree 1) l.w l.v
