use Rattle.account.proofs.KnownRows.{series_below}
use Rattle.pairing.proofs.rows_now.RowsNow.search.Goals as goal

pub series_of_position-requires : goal.series_of_position-requires
series_of_position-requires c = rw c.position_at-p.ensures (series_below c.args.self.now.file.bytes.now c.args.self.now.file.layout c.args.self.now.rests.file c.args.w c.requires.0)
