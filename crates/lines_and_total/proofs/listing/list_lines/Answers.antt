use Rattle.account.proofs.KnownRows.{known}
use Rattle.lines_and_total.proofs.SettleLaws.{account_listed, pairing_asks, rows_ask}
use mathlib.Core.Path.{◌∙◌}
use native.Mathlib.Omega.{arith}
use Rattle.lines_and_total.proofs.listing.list_lines.Goals as goal

pub pair_up-made-requires : goal.pair_up-made-requires
pair_up-made-requires c = pairing_asks c.args.file.now.bytes.now c.args.file.now.layout c.fill_contracts.new.left c.args.numbers.now (known _ _ c.args.file.now.accepted) (omega (arith, c.fill_contracts.auto.left)) (omega (arith, c.requires)) c.fill_contracts.ensures

pub left_rows-lines-requires : goal.left_rows-lines-requires
left_rows-lines-requires c = rows_ask c.args.file.now.bytes.now c.args.file.now.layout c.args.count c.pair_up-made.new.table c.pair_up-made.new.left c.pair_up-made.new.numbers c.pair_up-made.result (known _ _ c.args.file.now.accepted) (omega (arith, c.pair_up-made.auto.left, c.fill_contracts.auto.left)) (c.pair_up-made.auto.numbers ∙ c.requires) c.pair_up-made.ensures

pub returns : goal.returns
returns c = account_listed c.args.file.now.bytes.now c.args.file.now.layout c.args.count c.pair_up-made.new.table c.pair_up-made.new.left c.pair_up-made.new.numbers c.left_rows-lines.new.numbers c.pair_up-made.result c.left_rows-lines.result (known _ _ c.args.file.now.accepted) (c.pair_up-made.auto.numbers ∙ c.requires) c.pair_up-made.ensures c.left_rows-lines.ensures

pub fill_contracts-requires : goal.fill_contracts-requires
fill_contracts-requires c = (known _ _ c.args.file.now.accepted).placed.positions_most
