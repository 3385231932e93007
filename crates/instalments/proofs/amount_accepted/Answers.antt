use Rattle.account.proofs.KnownRows.{known}
use Rattle.instalments.proofs.ReadyLaws.{amount_18, amount_ready, amount_short}
use Rattle.lines.specs.LineNumbers.{most_numbers}
use native.Mathlib.Omega.{arith}
use Rattle.instalments.proofs.amount_accepted.Goals as goal

pub entries_for-requires : goal.entries_for-requires
entries_for-requires c = (known c.args.file.now.bytes.now c.args.file.now.layout c.args.file.now.accepted).placed.positions_most

pub returns-then-room-entries_for : goal.returns-then-room-entries_for
returns-then-room-entries_for c = rw c.into.ensures (amount_short most_numbers c.args.file.now.bytes.now c.args.room c.args.numbers.now c.requires c.args.file.now.layout c.args.file.now.accepted c.args.count (omega (arith, c.if-room-entries_for.true, c.entries_for.ensures)))

pub list_lines-listed-requires : goal.list_lines-listed-requires
list_lines-listed-requires c = c.requires

pub returns-then-pairs-count : goal.returns-then-pairs-count
returns-then-pairs-count c = rw c.into-then-pairs-count.ensures (amount_18 most_numbers c.args.file.now.bytes.now c.args.room c.list_lines-listed.new.numbers c.list_lines-listed.ensures.numbers_length c.args.file.now.layout c.args.file.now.accepted c.args.count c.list_lines-listed.result (omega (arith, c.if-room-entries_for.false, c.entries_for.ensures)) c.list_lines-listed.ensures c.if-pairs-count.true)

pub returns : goal.returns
returns c = amount_ready most_numbers c.args.file.now.bytes.now c.args.room c.list_lines-listed.new.numbers c.list_lines-listed.ensures.numbers_length c.args.file.now.layout c.args.file.now.accepted c.args.count c.list_lines-listed.result c.premium_sum.result (omega (arith, c.if-room-entries_for.false, c.entries_for.ensures)) c.list_lines-listed.ensures c.if-pairs-count.false c.premium_sum.ensures.0
