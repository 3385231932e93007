use Rattle.pairing.proofs.RowLaws.{first_places, not_written}
use mathlib.Core.Path.{refl}
use Rattle.pairing.proofs.rows_now.RowsNow.first_standing.Goals as goal

pub search-requires : goal.search-requires
search-requires c = (c.requires, first_places c.args.self.now c.args.w c.requires c.if-self-w-eq1.true)

pub returns : goal.returns
returns c = not_written c.args.self.now c.args.w c.requires c.if-self-w-eq1.false _ refl
