use Rattle.account.proofs.RowReading.{clean_next, position_stop, positions_clean, read_clean, read_found}
use mathlib.Core.Path.{sym, ◌∙◌}
use Rattle.account.proofs.reader.position_rows.Goals as goal

pub loop-row-preserved : goal.loop-row-preserved
loop-row-preserved c = clean_next _ _ c.loop-row.invariant (read_clean _ _ _ _ (sym c.in_default.is ∙ c.position_read.ensures))

pub returns-in-loop-row : goal.returns-in-loop-row
returns-in-loop-row c = position_stop c.args.file.now c.args.l c.loop-row.row c.in-Err.why c.loop-row-test.true c.loop-row.invariant (read_found _ _ _ _ (sym c.in-Err.is ∙ c.position_read.ensures))

pub returns : goal.returns
returns c = positions_clean c.args.file.now c.args.l c.loop-row.row c.loop-row-test.false c.loop-row.invariant
