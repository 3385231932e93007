use Prim.Native.Nat.{◌+◌, ◌-◌, ◌≤◌}
use Rattle.lanes.specs.Keys.{none}
use Rattle.pairing.specs.Cursors.{Places}
use Rattle.account.specs.Accepted.{account_in}
use Rattle.pairing.proofs.rows_now.RowsNow.nearest.Given as goal

abbrev pub invariant-loop-w : goal.invariant-loop-w
invariant-loop-w l = Places (account_in l.self.file) l.self.left.now l.w.row l.up l.down × (l.first ≤ l.up) × (l.second ≤ l.down)

abbrev pub decreases-loop-w : goal.decreases-loop-w
decreases-loop-w l = (none - l.up) + (none - l.down)
