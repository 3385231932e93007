use Rattle.lanes.proofs.FileFacts.{ranged}
use Rattle.pairing.proofs.RenewLaws.{raised}
use Rattle.account.specs.Accepted.{account_in}
use mathlib.Core.Path.{refl}
use Rattle.pairing.proofs.rows_now.RowsNow.renew_some.Goals as goal

pub returns : goal.returns
returns c = raised (account_in c.args.self.now.file) (ranged c.args.self.now.file.bytes.now c.args.self.now.file.layout c.args.self.now.rests.file) c.args.self.now.left.now c.args.self.now.table.now c.args.tree.now c.args.places.now c.requires.rows.lines c.requires.rows.standings c.args.w c.requires.least c.renew.new.tree c.renew.new.places (c.renew.ensures.1 refl) c.renew.ensures.0
