-- A second table of computed values, one theorem: at least one value for each rule of documents 01 and 02 that the starred
-- values leave free, so that a definition changed by mistake contradicts one of them. Its parts are the types of
-- MarginTables, SpreadTables, FileTables and ReaisTables.
-- Assumes nothing.
use mathlib.Core.Path.{refl}
use native.Mathlib.Omega.{arith}
use Rattle.rules.specs.File.{layout, position_row, series_row}
use Rattle.rules.specs.Lines.{left_lines, lines, lines_given, margin_answer, pair_lines, premium_answer, premiums, sum_over, sum_to, total}
use Rattle.rules.specs.OnePosition.{amount_answer, position_amount, unit_margin}
use Rattle.rules.specs.Output.{decimal_in, left_text, lines_text, margin_text, pair_text, refused_text, totals_text}
use Rattle.rules.specs.Pairs.{along, gap_of, left_after, made_after, may_of, through}
use Rattle.rules.specs.Paths.{payment}
use Rattle.rules.specs.Refusals.{file_read, matched_fault, meaning, position_row_fault, position_rows, refuse, rows, series_row_fault, series_rows, trailer_fault}
use Rattle.rules.specs.Spreads.{unit_spread}
use Rattle.rules.proofs.MarginTables.{UnitMargins, InBarrierMargins, KnockedOut, OutBarrierMargins, Payments, ThreePrices}
use Rattle.rules.proofs.SpreadTables.{SameRowSpreads, LimitedSpreads, PlainSpreads, CoveringOutSpreads, OtherOutSpreads, Pairing}
use Rattle.rules.proofs.FileTables.{Answers, Fields, FlagBits, Numbers, Sizes}
use Rattle.rules.proofs.ReaisTables.{ExactPremiums, Largest, PairRaises, Roundings}

pub rule_values :
    UnitMargins × InBarrierMargins × OutBarrierMargins
    × SameRowSpreads × LimitedSpreads × PlainSpreads × CoveringOutSpreads × OtherOutSpreads × Pairing
    × Fields × FlagBits × Sizes × Numbers × Answers
    × Payments × ThreePrices × KnockedOut
    × Roundings × PairRaises × ExactPremiums × Largest
unfolding unit_margin unit_spread margin_text lines_text pair_text left_text totals_text refused_text decimal_in margin_answer lines_given lines left_lines pair_lines left_after made_after through along may_of gap_of premiums total sum_to sum_over meaning file_read layout series_row position_row series_rows position_rows rows trailer_fault series_row_fault position_row_fault matched_fault refuse amount_answer position_amount premium_answer payment
rule_values = (
  (refl, refl, refl, refl, refl, refl, refl, refl, refl),
  (refl, refl, refl, refl, refl, refl, refl, refl, refl, refl, refl, refl, refl, refl),
  (refl, refl, refl, refl, refl, refl, refl, refl, refl, refl, refl, refl, refl),
  (refl, refl, refl, refl, refl),
  (refl, refl, refl, refl, refl, refl, refl, refl, refl, refl, refl, refl, refl, refl, refl, refl, refl, refl, refl, refl, refl, refl, refl, refl, refl, refl, refl, refl),
  (refl, refl, refl, refl, refl, refl, refl, refl, refl, refl, refl),
  (refl, refl, refl, refl, refl, refl, refl, refl, refl, refl, refl, refl),
  (refl, refl, refl, refl, refl, refl, refl, refl, refl, refl, refl, refl, refl, refl),
  (refl, refl, refl, refl, refl, refl, refl, refl, refl, refl, refl, refl, refl, refl, refl, refl, refl),
  (refl, refl, refl, refl, refl, refl, refl, refl, refl, refl, refl, refl, refl, refl, refl),
  (refl, refl, refl, refl, refl, refl, refl, refl, refl, refl, refl),
  (refl, refl, refl, refl, refl, refl),
  (refl, refl, refl, refl, refl, refl, refl, refl, refl, refl, refl, refl),
  (refl, refl, refl, refl, refl, refl, refl, refl, refl, refl, refl),
  (refl, refl, refl, refl, refl, refl, refl, refl, refl, refl, refl, refl, refl, refl, refl),
  omega arith,
  (refl, refl, refl, refl, refl, refl, refl),
  (refl, refl, refl, refl, refl),
  (refl, refl, refl, refl),
  (refl, refl, refl, refl),
  (refl, refl),
)
