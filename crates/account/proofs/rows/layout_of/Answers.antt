use Rattle.rules.specs.File.{layout}
use Rattle.account.proofs.rows.layout_of.Goals as goal

pub returns : goal.returns
unfolding layout
returns c = rw (c.series_count-series.ensures.0, c.position_count-positions.ensures.0, c.distance_back.ensures)
