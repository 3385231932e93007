use Rattle.pairing.proofs.AskLaws.{to_ask_falls}
use Rattle.account.specs.Accepted.{account_in}
use Rattle.pairing.proofs.rows_now.RowsNow.best_rank.Goals as goal

pub loop-r-smaller : goal.loop-r-smaller
loop-r-smaller c = rw c.loop-r.invariant.0 (to_ask_falls (account_in c.args.self.now.file) c.args.self.now.left.now c.args.self.now.table.now c.loop-r.tree c.loop-r.places c.look_at_least.new.tree c.look_at_least.new.places (rw c.loop-r.invariant.0 at c.loop-r-test.true) c.look_at_least.ensures)
