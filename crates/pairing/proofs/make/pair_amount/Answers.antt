use Rattle.account.proofs.KnownRows.{known}
use Rattle.pairing.proofs.FileFacts.{row_range}
use Rattle.pairing.proofs.MakeLaws.{factor_within}
use Rattle.pairing.proofs.make.pair_amount.Goals as goal

pub series_row-series-requires : goal.series_row-series-requires
series_row-series-requires c = ((known _ _ c.args.file.now.accepted).placed, (row_range c.args.file.now.bytes.now c.args.file.now.layout (known _ _ c.args.file.now.accepted) c.args.w c.position_row-row.result c.requires.0 c.position_row-row.ensures).series_below)

pub amount-requires : goal.amount-requires
amount-requires c = (c.requires.1, factor_within c.args.file.now.bytes.now c.args.file.now.layout c.args.w c.position_row-row.result c.series_row-series.result (known _ _ c.args.file.now.accepted) c.requires.0 c.position_row-row.ensures c.series_row-series.ensures, c.requires.2)

pub position_row-row-requires : goal.position_row-row-requires
position_row-row-requires c = ((known _ _ c.args.file.now.accepted).placed, c.requires.0)
