use Rattle.pairing.proofs.Turn.{began, both, no_rows}
use Rattle.rules.specs.File.{account_of}
use native.Mathlib.Omega.{arith}
use Rattle.pairing.proofs.pairs.pair_up.Goals as goal

pub returns-then-file-eq0 : goal.returns-then-file-eq0
returns-then-file-eq0 c = no_rows (account_of c.args.file.now.bytes.now c.args.file.now.layout) c.args.count c.args.allowance c.args.table.now c.args.left.now c.args.numbers.now c.if-file-eq0.true c.requires.table_new.room

pub pair_rounds-first-requires : goal.pair_rounds-first-requires
pair_rounds-first-requires c = record { rests = (record { file = c.requires.table_new.file; filled = c.fill_rows.ensures.filled; lefts = c.requires.lefts }); lines = c.fill_rows.ensures.lines; standings = c.begin_rows.ensures; room = omega (arith, c.requires.room, c.fill_rows.auto.written); paired = began (account_of c.args.file.now.bytes.now c.args.file.now.layout) c.args.left.now c.fill_rows.new.written c.requires.contracts }

pub returns : goal.returns
returns c = both (account_of c.args.file.now.bytes.now c.args.file.now.layout) c.args.count c.args.allowance c.fill_rows.new.table c.pair_rounds-first.new.left c.pair_rounds-first.new.numbers c.pair_rounds-pairs.new.left c.pair_rounds-pairs.new.numbers c.pair_rounds-first.result c.pair_rounds-pairs.result c.pair_rounds-first.ensures.paired c.pair_rounds-pairs.ensures.paired c.fill_rows.ensures.filled.units c.fill_rows.ensures.filled.room
