use Rattle.account.proofs.RowReading.{row_read, row_unread, terms_stop}
use Rattle.rules.proofs.SameAnswers.{given_back}
use mathlib.Core.Path.{◌∙◌}
use Rattle.account.proofs.reader.position_read.Goals as goal

pub returns-then-wrong_terms : goal.returns-then-wrong_terms
returns-then-wrong_terms c = terms_stop _ _ _ _ c.position_row-row.ensures _ c.wrong_terms.ensures c.if-wrong_terms.true

pub returns-in_err-matched_fault : goal.returns-in_err-matched_fault
returns-in_err-matched_fault c = given_back _ c.from_residual.ensures.1 ∙ row_unread _ _ _ _ c.position_row-row.ensures _ c.wrong_terms.ensures c.if-wrong_terms.false _ c.series_row-series.ensures _ c.matched_fault.ensures _ c.in_err-matched_fault.was

pub returns : goal.returns
returns c = row_read _ _ _ _ c.position_row-row.ensures _ c.wrong_terms.ensures c.if-wrong_terms.false _ c.series_row-series.ensures _ c.matched_fault.ensures _ c.into.ensures c.in_ok-matched_fault.was
