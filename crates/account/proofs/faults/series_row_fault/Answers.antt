use Rattle.rules.proofs.Chain.{stops, passes}
use Rattle.rules.specs.Refusals.{series_row_fault}
use mathlib.Core.Path.{refl}
use Rattle.account.proofs.faults.series_row_fault.Goals as goal

pub returns-then-wrong_series_range : goal.returns-then-wrong_series_range
unfolding series_row_fault
returns-then-wrong_series_range c = stops _ _ _ _ c.wrong_series_range.ensures c.if-wrong_series_range.true

pub returns-then-wrong_series_type : goal.returns-then-wrong_series_type
unfolding series_row_fault
returns-then-wrong_series_type c = passes _ _ _ _ _ c.wrong_series_range.ensures c.if-wrong_series_range.false (stops _ _ _ _ c.wrong_series_type.ensures c.if-wrong_series_type.true)

pub returns : goal.returns
unfolding series_row_fault
returns c = passes _ _ _ _ _ c.wrong_series_range.ensures c.if-wrong_series_range.false (passes _ _ _ _ _ c.wrong_series_type.ensures c.if-wrong_series_type.false refl)
