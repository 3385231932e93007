use Rattle.account.proofs.KnownRows.{known}
use Rattle.account.proofs.lookup.series_of_position.Goals as goal

pub series_row-requires : goal.series_row-requires
series_row-requires c = ((known _ _ c.args.file.now.accepted).placed, c.requires)
