use Rattle.pairing.proofs.StandingLaws.{begun}
use Rattle.account.specs.Accepted.{account_in}
use Rattle.pairing.proofs.rows_now.RowsNow.begin_row.Goals as goal

pub returns : goal.returns
returns c = begun (account_in c.args.self.now.file) c.args.self.now.left.now c.args.self.now.table.now c.args.tree.now c.args.places.now c.args.w c.requires.row c.args.self.now.rests.file.placed.positions_most c.put_places.new.places c.first_standing-t.result c.requires.leaves c.put_places.ensures c.put_places.auto.places c.first_standing-t.ensures
