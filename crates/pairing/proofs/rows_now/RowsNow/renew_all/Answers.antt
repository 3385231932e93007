use Rattle.lanes.proofs.FileFacts.{ranged}
use Rattle.pairing.proofs.RenewLaws.{looked_more, looked_none, raised_all}
use Rattle.account.specs.Accepted.{account_in}
use Rattle.pairing.proofs.rows_now.RowsNow.renew_all.Goals as goal

pub loop-v-init : goal.loop-v-init
loop-v-init c = (c.requires.rows.standings.leaves, looked_none (account_in c.args.self.now.file) (ranged c.args.self.now.file.bytes.now c.args.self.now.file.layout c.args.self.now.rests.file) c.args.self.now.left.now c.args.self.now.table.now c.args.tree.now c.args.places.now c.requires.rows.lines c.requires.rows.standings c.args.w c.requires.least)

pub loop-v-preserved : goal.loop-v-preserved
loop-v-preserved c = (c.look_at.ensures.leaves, looked_more (account_in c.args.self.now.file) (ranged c.args.self.now.file.bytes.now c.args.self.now.file.layout c.args.self.now.rests.file) c.args.self.now.left.now c.args.self.now.table.now c.args.tree.now c.args.places.now c.requires.rows.lines c.requires.rows.standings c.args.w c.requires.least c.loop-v.tree c.look_at.new.tree c.look_at.new.places c.loop-v.v c.loop-v-test.true c.loop-v.invariant.1 c.look_at.ensures)

pub returns : goal.returns
returns c = raised_all (account_in c.args.self.now.file) (ranged c.args.self.now.file.bytes.now c.args.self.now.file.layout c.args.self.now.rests.file) c.args.self.now.left.now c.args.self.now.table.now c.args.tree.now c.args.places.now c.requires.rows.lines c.requires.rows.standings c.args.w c.requires.least c.loop-v.tree c.fill.new.tree c.loop-v.places c.loop-v.v c.loop-v-test.false c.loop-v.invariant.1 c.loop-v.invariant.0 c.fill.ensures.0 c.fill.ensures.1 c.fill.auto.tree
