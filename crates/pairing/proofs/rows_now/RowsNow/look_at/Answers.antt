use Rattle.pairing.proofs.RenewLaws.{looked_renewed}
use Rattle.account.specs.Accepted.{account_in}
use Rattle.pairing.proofs.rows_now.RowsNow.look_at.Goals as goal

pub returns : goal.returns
returns c = looked_renewed (account_in c.args.self.now.file) c.args.self.now.left.now c.args.self.now.table.now c.args.tree.now c.args.places.now c.args.w c.requires.leaves c.renew.new.tree c.renew.new.places c.renew.ensures.0
