use Rattle.pairing.proofs.SearchLaws.{answered}
use Rattle.pairing.proofs.cursors.charge_at.Goals as goal

pub returns : goal.returns
returns c = answered c.args.file.now.bytes.now c.args.file.now.layout c.args.w c.args.h c.requires c.position_at-held.result c.normalised.result c.position_at-held.ensures c.normalised.ensures _ c.charge_between.ensures
