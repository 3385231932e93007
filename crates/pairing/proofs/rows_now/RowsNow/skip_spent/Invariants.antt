use Prim.Native.Nat.{◌-◌, ◌≤◌}
use Rattle.lanes.specs.Keys.{none}
use Rattle.account.specs.Accepted.{account_in}
use Rattle.pairing.specs.Cursors.{Cursor}
use Rattle.pairing.proofs.rows_now.RowsNow.skip_spent.Given as goal

abbrev pub invariant-loop-u : goal.invariant-loop-u
invariant-loop-u l = Cursor (account_in l.self.file) l.self.left.now l.o l.w l.u × (l.first ≤ l.u)

abbrev pub decreases-loop-u : goal.decreases-loop-u
decreases-loop-u l = none - l.u
