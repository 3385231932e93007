use Rattle.lines_and_total.proofs.ListingLaws.{row_asks, rows_more, rows_none}
use Rattle.lines_and_total.specs.Listing.{shown_left}
use Rattle.numbers.specs.Lists.{nth}
use Rattle.rules.specs.File.{account_of}
use Rattle.lines_and_total.proofs.left.left_rows.Goals as goal

pub loop-row-init : goal.loop-row-init
loop-row-init c = rows_none (account_of c.args.file.now.bytes.now c.args.file.now.layout) (shown_left (account_of c.args.file.now.bytes.now c.args.file.now.layout) (nth c.args.left.now)) c.args.numbers.now c.args.before

pub left_row-t-requires : goal.left_row-t-requires
left_row-t-requires c = row_asks c.args.file.now.bytes.now c.args.file.now.layout c.args.table.now c.args.left.now c.args.numbers.now c.loop-row.numbers c.args.before c.loop-row.t c.loop-row.row c.requires c.loop-row-test.true c.loop-row.invariant

pub loop-row-preserved : goal.loop-row-preserved
loop-row-preserved c = rows_more (account_of c.args.file.now.bytes.now c.args.file.now.layout) (shown_left (account_of c.args.file.now.bytes.now c.args.file.now.layout) (nth c.args.left.now)) c.loop-row.row c.args.numbers.now c.loop-row.numbers c.left_row-t.new.numbers c.args.before c.loop-row.t c.left_row-t.result c.loop-row.invariant c.left_row-t.ensures
