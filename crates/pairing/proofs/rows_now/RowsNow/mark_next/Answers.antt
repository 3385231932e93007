use Rattle.pairing.proofs.StandingLaws.{marked}
use Rattle.pairing.specs.Standings.{line_after}
use Rattle.account.specs.Accepted.{account_in}
use mathlib.Core.Path.{refl}
use Rattle.pairing.proofs.rows_now.RowsNow.mark_next.Goals as goal

pub returns-then-u-gt0 : goal.returns-then-u-gt0
returns-then-u-gt0 c = marked (account_in c.args.self.now.file) c.args.self.now.left.now c.args.self.now.table.now c.args.tree.now c.args.places.now c.args.w c.requires.row c.args.self.now.rests.file.placed.positions_most c.requires.begun (line_after c.args.self.now.table.now c.args.w) refl (c.requires.lines c.args.w c.requires.row c.if-u-gt0.true)
