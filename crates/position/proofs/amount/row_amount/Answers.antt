use Rattle.account.proofs.KnownRows.{known, read_series_below}
use Rattle.position.proofs.RowsFit.{amount_at_row, at_row, row_fits}
use Rattle.position.specs.Fits.{RowFits}
use Rattle.rules.specs.File.{account_of}
use mathlib.Core.Path.{◌∙◌}
use Rattle.position.proofs.amount.row_amount.Goals as goal

pub series_of_position-s-requires : goal.series_of_position-s-requires
series_of_position-s-requires c = let a = c.args in read_series_below a.file.now.bytes.now a.file.now.layout (known _ _ c.args.file.now.accepted) a.row c.requires _ c.position_at-p.ensures

pub amount_by_side-requires : goal.amount_by_side-requires
amount_by_side-requires c = let a = c.args in let b = a.file.now.bytes.now in at_row RowFits (account_of b a.file.now.layout) a.row _ _ c.position_at-p.ensures c.series_of_position-s.ensures (row_fits b a.file.now.layout (known _ _ c.args.file.now.accepted) a.row c.requires)

pub returns : goal.returns
returns c = let a = c.args in (c.amount_by_side.ensures.0 ∙ amount_at_row (account_of a.file.now.bytes.now a.file.now.layout) a.row _ _ c.position_at-p.ensures c.series_of_position-s.ensures, c.amount_by_side.ensures.1)
