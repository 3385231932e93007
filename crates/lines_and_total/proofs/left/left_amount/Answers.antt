use Rattle.account.proofs.KnownRows.{read_series_below}
use Rattle.lines_and_total.proofs.RowLaws.{left_asks}
use Rattle.lines_and_total.proofs.left.left_amount.Goals as goal

pub series_of_position-s-requires : goal.series_of_position-s-requires
series_of_position-s-requires c = read_series_below c.args.file.now.bytes.now c.args.file.now.layout c.requires.file c.args.row c.requires.row_below c.position_at-p.result c.position_at-p.ensures

pub left_by_side-requires : goal.left_by_side-requires
left_by_side-requires c = left_asks c.args.file.now.bytes.now c.args.file.now.layout c.args.row c.series_of_position-s.result c.position_at-p.result c.position_at-p.ensures c.series_of_position-s.ensures c.args.unit c.args.q c.requires
