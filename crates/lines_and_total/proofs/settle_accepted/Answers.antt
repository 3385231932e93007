use Rattle.account.proofs.KnownRows.{known}
use Rattle.lines_and_total.proofs.SettleLaws.{settled_short, settled_total}
use native.Mathlib.Omega.{arith}
use Rattle.lines_and_total.proofs.settle_accepted.Goals as goal

pub entries_for-requires : goal.entries_for-requires
entries_for-requires c = (known c.args.file.now.bytes.now c.args.file.now.layout c.args.file.now.accepted).placed.positions_most

pub returns-then-room-entries_for : goal.returns-then-room-entries_for
returns-then-room-entries_for c = rw c.into.ensures (settled_short c.args.file.now.bytes.now c.args.room c.args.numbers.now c.requires c.args.file.now.layout c.args.file.now.accepted (omega (arith, c.if-room-entries_for.true, c.entries_for.ensures)))

pub list_lines-listed-requires : goal.list_lines-listed-requires
list_lines-listed-requires c = c.requires

pub returns : goal.returns
returns c = settled_total c.args.file.now.bytes.now c.args.room c.list_lines-listed.new.numbers c.list_lines-listed.ensures.numbers_length c.args.file.now.layout c.args.file.now.accepted c.premium_sum.result c.list_lines-listed.result (omega (arith, c.if-room-entries_for.false, c.entries_for.ensures)) c.list_lines-listed.ensures c.premium_sum.ensures.0
