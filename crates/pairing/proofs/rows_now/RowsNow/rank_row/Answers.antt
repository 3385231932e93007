use Rattle.lanes.proofs.FileFacts.{ranged}
use Rattle.pairing.proofs.StandingLaws.{row_put}
use Rattle.account.specs.Accepted.{account_in}
use Rattle.pairing.proofs.rows_now.RowsNow.rank_row.Goals as goal

pub returns : goal.returns
returns c = row_put (account_in c.args.self.now.file) (ranged c.args.self.now.file.bytes.now c.args.self.now.file.layout c.args.self.now.rests.file) c.args.self.now.left.now c.args.self.now.table.now c.args.tree.now c.args.places.now c.put_leaf.new.tree c.put_places.new.places c.args.w _ _ c.look-t.result c.args.climb c.requires.row c.requires.leaves c.put_places.ensures c.put_places.auto.places c.put_leaf.ensures.0 c.look-t.ensures.0 c.look-t.ensures.1 c.put_leaf.ensures.1
