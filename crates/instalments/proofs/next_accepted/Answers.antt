use Rattle.account.proofs.KnownRows.{known}
use Rattle.instalments.proofs.ReadyLaws.{made_fits, pairs_18, pairs_ready, pairs_short}
use Rattle.lines.specs.LineNumbers.{most_pair_numbers}
use native.Mathlib.Omega.{arith}
use Rattle.instalments.proofs.next_accepted.Goals as goal

pub entries_for-requires : goal.entries_for-requires
entries_for-requires c = (known c.args.file.now.bytes.now c.args.file.now.layout c.args.file.now.accepted).placed.positions_most

pub returns-then-room-entries_for : goal.returns-then-room-entries_for
returns-then-room-entries_for c = rw c.into.ensures (pairs_short most_pair_numbers c.args.file.now.bytes.now c.args.room c.args.numbers.now c.requires c.args.file.now.layout c.args.file.now.accepted c.args.count c.args.allowance (omega (arith, c.if-room-entries_for.true, c.entries_for.ensures)))

pub list_pairs-listed-requires : goal.list_pairs-listed-requires
list_pairs-listed-requires c = c.requires

pub returns-then-first-count : goal.returns-then-first-count
returns-then-first-count c = rw c.into-then-first-count.ensures (pairs_18 most_pair_numbers c.args.file.now.bytes.now c.args.room c.list_pairs-listed.new.numbers c.list_pairs-listed.ensures.numbers_length c.args.file.now.layout c.args.file.now.accepted c.args.count c.args.allowance c.list_pairs-listed.result (omega (arith, c.if-room-entries_for.false, c.entries_for.ensures)) c.list_pairs-listed.ensures c.if-first-count.true)

pub overflow_sub-made : goal.overflow_sub-made
overflow_sub-made c = made_fits c.args.file.now.bytes.now c.args.file.now.layout c.args.count c.args.allowance c.list_pairs-listed.new.numbers c.list_pairs-listed.result c.list_pairs-listed.ensures

pub returns : goal.returns
returns c = pairs_ready most_pair_numbers c.args.file.now.bytes.now c.args.room c.list_pairs-listed.new.numbers c.list_pairs-listed.ensures.numbers_length c.args.file.now.layout c.args.file.now.accepted c.args.count c.args.allowance c.list_pairs-listed.result (omega (arith, c.if-room-entries_for.false, c.entries_for.ensures)) c.list_pairs-listed.ensures c.if-first-count.false
