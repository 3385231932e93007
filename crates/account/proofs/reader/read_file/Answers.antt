use Rattle.rules.proofs.SameAnswers.{given_back}
use Rattle.rules.proofs.TrailerLimits.{placed, trailer_within}
use Rattle.rules.specs.File.{layout}
use Rattle.rules.specs.Limits.{Placed}
use Rattle.rules.specs.Refusals.{Fault, file_read, or_else, series_rows}
use mathlib.Core.Path.{ap, subst, sym, ◌∙◌}
use Rattle.account.proofs.reader.read_file.Goals as goal

pub layout_of-requires : goal.layout_of-requires
layout_of-requires c = trailer_within c.args.file.now (sym c.trailer_fault.ensures ∙ c.in_ok-trailer_fault.was)

pub series_rows-requires : goal.series_rows-requires
series_rows-requires c = let b = c.args.file.now in subst (Placed b) (sym c.layout_of.ensures) (placed b (trailer_within b (sym c.trailer_fault.ensures ∙ c.in_ok-trailer_fault.was)))

pub returns : goal.returns
unfolding file_read
returns c = let b = c.args.file.now in c.series_rows.ensures ∙ ap (series_rows b) c.layout_of.ensures ∙ ap (λ (f : Fault). or_else f 0 (series_rows b (layout b))) (sym c.in_ok-trailer_fault.was ∙ c.trailer_fault.ensures)

pub returns-in_err-trailer_fault : goal.returns-in_err-trailer_fault
unfolding file_read
returns-in_err-trailer_fault c = let b = c.args.file.now in given_back _ c.from_residual.ensures.1 ∙ ap (λ (f : Fault). or_else f 0 (series_rows b (layout b))) (sym c.in_err-trailer_fault.was ∙ c.trailer_fault.ensures)
