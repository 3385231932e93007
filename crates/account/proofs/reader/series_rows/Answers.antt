use Rattle.account.proofs.RowReading.{all_series_clean, series_stop}
use Rattle.rules.specs.Refusals.{series_row_fault}
use mathlib.Core.Path.{ap}
use mathlib.Core.Path.{sym, ◌∙◌}
use Rattle.account.proofs.reader.series_rows.Goals as goal

pub returns-in-Err : goal.returns-in-Err
returns-in-Err c = series_stop c.args.file.now c.args.l c.loop-row.row c.in-Err.why c.loop-row-test.true c.loop-row.invariant (ap series_row_fault (sym c.series_row.ensures) ∙ sym c.series_row_fault.ensures ∙ c.in-Err.is)

pub returns : goal.returns
returns c = c.position_rows.ensures ∙ all_series_clean c.args.file.now c.args.l c.loop-row.row c.loop-row-test.false c.loop-row.invariant
