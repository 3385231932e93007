use Rattle.rules.specs.File.{series_row}
use Rattle.account.proofs.rows.series_row.Goals as goal

pub returns : goal.returns
unfolding series_row
returns c = c.series_row_from.ensures
