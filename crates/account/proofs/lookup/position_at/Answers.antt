use Rattle.account.proofs.KnownRows.{known}
use Rattle.account.proofs.lookup.position_at.Goals as goal

pub position_row-requires : goal.position_row-requires
position_row-requires c = ((known _ _ c.args.file.now.accepted).placed, c.requires)
