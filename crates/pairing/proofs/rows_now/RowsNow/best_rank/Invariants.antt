use Prim.Native.Nat.{◌≤◌}
use Rattle.numbers.specs.Lists.{nth}
use Rattle.pairing.proofs.AskLaws.{to_ask}
use Rattle.pairing.specs.Standings.{Standings}
use Rattle.account.specs.Accepted.{account_in}
use lib.ListN.{length}
use mathlib.Core.Path.{◌≡◌}
use Rattle.pairing.proofs.rows_now.RowsNow.best_rank.Given as goal

abbrev pub invariant-loop-r : goal.invariant-loop-r
invariant-loop-r l = (l.r ≡ nth l.tree 1) × Standings (account_in l.self.file) l.self.left.now l.self.table.now l.tree l.places × (length l.tree ≡ length l.initial.tree) × (length l.places ≡ length l.initial.places) × (l.times ≤ 8)

abbrev pub decreases-loop-r : goal.decreases-loop-r
decreases-loop-r l = to_ask l.places l.r
