use Rattle.lines_and_total.proofs.ListingLaws.{row_none, row_one}
use Rattle.lines_and_total.specs.Listing.{shown_left}
use Rattle.numbers.specs.Lists.{nth}
use Rattle.rules.specs.File.{account_of}
use Rattle.lines_and_total.proofs.left.left_row.Goals as goal

pub returns-then-q-eq0 : goal.returns-then-q-eq0
returns-then-q-eq0 c = row_none (account_of c.args.file.now.bytes.now c.args.file.now.layout) (shown_left (account_of c.args.file.now.bytes.now c.args.file.now.layout) (nth c.args.left.now)) c.args.row c.shown_left-q.result c.args.numbers.now c.args.t c.shown_left-q.ensures c.if-q-eq0.true

pub returns : goal.returns
returns c = row_one (account_of c.args.file.now.bytes.now c.args.file.now.layout) (shown_left (account_of c.args.file.now.bytes.now c.args.file.now.layout) (nth c.args.left.now)) c.args.row c.shown_left-q.result c.left_amount-money.result c.args.numbers.now c.put_line.new.numbers c.args.t c.shown_left-q.ensures c.if-q-eq0.false c.left_amount-money.ensures.0 c.left_amount-money.ensures.1 c.put_line.ensures c.put_line.auto.numbers
