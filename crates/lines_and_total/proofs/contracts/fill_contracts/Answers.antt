use Rattle.account.proofs.KnownRows.{known}
use Rattle.lines_and_total.proofs.RowLaws.{read_blocked}
use Rattle.lines_and_total.proofs.contracts.fill_contracts.Goals as goal

pub overflow_sub-left : goal.overflow_sub-left
overflow_sub-left c = read_blocked c.args.file.now.bytes.now c.args.file.now.layout (known _ _ c.args.file.now.accepted) c.loop-row.row c.loop-row-test.true c.position_at-position.result c.position_at-position.ensures
