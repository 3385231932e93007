use Rattle.account.proofs.KnownRows.{known}
use Rattle.lines_and_total.proofs.SettleLaws.{pairing_asks}
use native.Mathlib.Omega.{arith}
use Rattle.lines_and_total.proofs.listing.list_pairs.Goals as goal

pub pair_up-requires : goal.pair_up-requires
pair_up-requires c = pairing_asks c.args.file.now.bytes.now c.args.file.now.layout c.fill_contracts.new.left c.args.numbers.now (known _ _ c.args.file.now.accepted) (omega (arith, c.fill_contracts.auto.left)) (omega (arith, c.requires)) c.fill_contracts.ensures

pub fill_contracts-requires : goal.fill_contracts-requires
fill_contracts-requires c = (known _ _ c.args.file.now.accepted).placed.positions_most
