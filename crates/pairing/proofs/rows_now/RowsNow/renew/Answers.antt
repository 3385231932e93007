use Rattle.lanes.proofs.FileFacts.{ranged}
use Rattle.pairing.proofs.RenewLaws.{next_places, own_places, renewed_last, renewed_next, renewed_own}
use Rattle.pairing.proofs.StandingLaws.{but, retired}
use Rattle.pairing.specs.Standings.{line_after}
use Rattle.account.specs.Accepted.{account_in}
use mathlib.Core.Path.{refl}
use native.Mathlib.Omega.{arith}
use Rattle.pairing.proofs.rows_now.RowsNow.renew.Goals as goal

pub rank_row-requires : goal.rank_row-requires
rank_row-requires c = record { row = c.requires.row; from_row = c.requires.row; leaves = but (account_in c.args.self.now.file) c.args.self.now.left.now c.args.self.now.table.now c.args.self.now.file.layout.positions c.args.w c.args.tree.now c.args.places.now c.args.self.now.rests.file.placed.positions_most c.requires.leaves; cursors = own_places (account_in c.args.self.now.file) (ranged c.args.self.now.file.bytes.now c.args.self.now.file.layout c.args.self.now.rests.file) c.args.self.now.left.now c.args.self.now.table.now c.args.tree.now c.args.places.now c.requires.leaves c.args.w c.requires.stale; right = c.requires.right }

pub returns-then-self-w-gt0 : goal.returns-then-self-w-gt0
returns-then-self-w-gt0 c = (renewed_own (account_in c.args.self.now.file) (ranged c.args.self.now.file.bytes.now c.args.self.now.file.layout c.args.self.now.rests.file) c.args.self.now.left.now c.args.self.now.table.now c.args.tree.now c.args.places.now c.requires.leaves c.args.w c.requires.stale c.if-self-w-gt0.true c.rank_row.new.tree c.rank_row.new.places c.args.climb c.rank_row.ensures, c.rank_row.ensures.right)

pub rank_row-requires-then-u-gt0 : goal.rank_row-requires-then-u-gt0
rank_row-requires-then-u-gt0 c = record { row = (c.requires.lines c.args.w c.requires.row c.if-u-gt0.true).row; from_row = c.requires.row; leaves = (retired (account_in c.args.self.now.file) c.args.self.now.left.now c.args.self.now.table.now c.args.tree.now c.args.places.now c.put_leaf.new.tree c.args.w (line_after c.args.self.now.table.now c.args.w) c.args.self.now.rests.file.placed.positions_most c.requires.row (omega (arith, c.if-self-w-gt0.false)) (λ e. refl) c.requires.leaves c.put_leaf.ensures.0); cursors = next_places (account_in c.args.self.now.file) (ranged c.args.self.now.file.bytes.now c.args.self.now.file.layout c.args.self.now.rests.file) c.args.self.now.left.now c.args.self.now.table.now c.args.tree.now c.args.places.now c.requires.leaves c.args.w c.requires.stale (line_after c.args.self.now.table.now c.args.w) (c.requires.lines c.args.w c.requires.row c.if-u-gt0.true); right = c.put_leaf.ensures.1 }

pub returns-then-u-gt0 : goal.returns-then-u-gt0
returns-then-u-gt0 c = (renewed_next (account_in c.args.self.now.file) (ranged c.args.self.now.file.bytes.now c.args.self.now.file.layout c.args.self.now.rests.file) c.args.self.now.left.now c.args.self.now.table.now c.args.tree.now c.args.places.now c.requires.leaves c.args.w c.requires.stale c.put_leaf.new.tree c.put_leaf.ensures.0 (line_after c.args.self.now.table.now c.args.w) (c.requires.lines c.args.w c.requires.row c.if-u-gt0.true) c.rank_row-then-u-gt0.new.tree c.rank_row-then-u-gt0.new.places c.args.climb c.rank_row-then-u-gt0.ensures, c.rank_row-then-u-gt0.ensures.right)

pub returns-else-u-gt0 : goal.returns-else-u-gt0
returns-else-u-gt0 c = (renewed_last (account_in c.args.self.now.file) (ranged c.args.self.now.file.bytes.now c.args.self.now.file.layout c.args.self.now.rests.file) c.args.self.now.left.now c.args.self.now.table.now c.args.tree.now c.args.places.now c.requires.leaves c.args.w c.requires.stale c.put_leaf.new.tree c.put_leaf.ensures.0 (retired (account_in c.args.self.now.file) c.args.self.now.left.now c.args.self.now.table.now c.args.tree.now c.args.places.now c.put_leaf.new.tree c.args.w 256 c.args.self.now.rests.file.placed.positions_most c.requires.row (omega (arith, c.if-self-w-gt0.false)) (λ e. absurd (omega (arith, c.if-u-gt0.false))) c.requires.leaves c.put_leaf.ensures.0), c.put_leaf.ensures.1)
