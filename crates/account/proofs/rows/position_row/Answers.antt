use Rattle.rules.specs.File.{position_row}
use Rattle.account.proofs.rows.position_row.Goals as goal

pub returns : goal.returns
unfolding position_row
returns c = c.position_row_from.ensures
