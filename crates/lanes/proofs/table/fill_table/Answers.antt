use Rattle.lanes.proofs.FileFacts.{ranged}
use Rattle.lanes.proofs.LimiterLaws.{nearest_none}
use Rattle.lanes.proofs.TableLaws.{row_most, table_filled}
use Rattle.rules.specs.File.{account_of}
use native.Mathlib.Omega.{arith}
use Rattle.lanes.proofs.table.fill_table.Goals as goal

pub fill_nearest-requires : goal.fill_nearest-requires
fill_nearest-requires c = (omega arith, nearest_none (account_of c.args.file.now.bytes.now c.args.file.now.layout))

pub fill_links-requires : goal.fill_links-requires
fill_links-requires c = record { few = (ranged c.args.file.now.bytes.now c.args.file.now.layout c.requires.file).rows_most; room = omega (arith, c.requires.room, c.fill_marks.auto.table); placed = row_most (account_of c.args.file.now.bytes.now c.args.file.now.layout) (ranged c.args.file.now.bytes.now c.args.file.now.layout c.requires.file) c.fill_marks.new.table c.fill_marks.ensures.marks; written_room = omega (arith, (ranged c.args.file.now.bytes.now c.args.file.now.layout c.requires.file).rows_most, c.fill_keys-n.ensures.few, c.requires.written_room, c.fill_keys-n.auto.keys); sorted = c.fill_keys-n.ensures; keys_room = c.requires.keys_room; starts_room = c.requires.starts_room }

pub returns : goal.returns
returns c = table_filled (account_of c.args.file.now.bytes.now c.args.file.now.layout) (ranged c.args.file.now.bytes.now c.args.file.now.layout c.requires.file) c.args.table.now c.fill_marks.new.table c.fill_links.new.table c.fill_keys-n.new.keys c.fill_keys-n.result (omega (arith, c.requires.room, c.fill_marks.auto.table, c.fill_links.auto.table)) c.fill_marks.ensures c.fill_keys-n.ensures c.fill_links.ensures
