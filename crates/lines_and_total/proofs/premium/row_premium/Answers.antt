use Rattle.account.proofs.KnownRows.{known, read_series_below}
use Rattle.lines_and_total.proofs.RowLaws.{read_fits}
use Rattle.lines_and_total.proofs.premium.row_premium.Goals as goal

pub series_of_position-s-requires : goal.series_of_position-s-requires
series_of_position-s-requires c = read_series_below c.args.file.now.bytes.now c.args.file.now.layout (known _ _ c.args.file.now.accepted) c.args.row c.requires c.position_at-p.result c.position_at-p.ensures

pub held_premium-requires : goal.held_premium-requires
held_premium-requires c = read_fits c.args.file.now.bytes.now c.args.file.now.layout c.args.row c.series_of_position-s.result c.position_at-p.result c.position_at-p.ensures c.series_of_position-s.ensures (known _ _ c.args.file.now.accepted) c.requires
