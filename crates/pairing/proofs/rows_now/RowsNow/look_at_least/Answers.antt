use Rattle.pairing.proofs.AskLaws.{least_asked, least_asks, least_stale}
use Rattle.pairing.proofs.rows_now.RowsNow.look_at_least.Goals as goal

pub rank_row-requires : goal.rank_row-requires
rank_row-requires c = least_asks c.args.self.now c.args.tree.now c.args.places.now c.args.w c.args.h c.requires

pub returns-then-both_left : goal.returns-then-both_left
returns-then-both_left c = least_asked c.args.self.now c.args.tree.now c.args.places.now c.args.w c.args.h c.requires c.both_left.result c.both_left.ensures c.if-both_left.true c.rank_row.new.tree c.rank_row.new.places c.rank_row.ensures

pub renew_some-requires : goal.renew_some-requires
renew_some-requires c = least_stale c.args.self.now c.args.tree.now c.args.places.now c.args.w c.args.h c.requires c.both_left.result c.both_left.ensures c.if-both_left.false
