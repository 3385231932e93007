use Rattle.account.proofs.KnownRows.{read_series_below}
use Rattle.lanes.proofs.FileFacts.{in_range}
use Rattle.lanes.proofs.TableLaws.{marked_more}
use Rattle.rules.specs.File.{account_of}
use native.Mathlib.Omega.{arith}
use Rattle.lanes.proofs.table.fill_marks.Goals as goal

pub fits_lanes-requires : goal.fits_lanes-requires
fits_lanes-requires c = record { file = c.requires.file; near_room = c.requires.near_room; near_are = c.requires.near_are; series_below = (read_series_below c.args.file.now.bytes.now c.args.file.now.layout c.requires.file c.loop-r.r c.loop-r-test.true c.position_at-p.result c.position_at-p.ensures); read = c.position_at-p.ensures }

pub mark_of-requires : goal.mark_of-requires
mark_of-requires c = in_range c.args.file.now.bytes.now c.args.file.now.layout c.requires.file c.loop-r.r c.position_at-p.result c.loop-r-test.true c.position_at-p.ensures

pub unit_of_row-requires : goal.unit_of_row-requires
unit_of_row-requires c = (read_series_below c.args.file.now.bytes.now c.args.file.now.layout c.requires.file c.loop-r.r c.loop-r-test.true c.position_at-p.result c.position_at-p.ensures)

pub loop-r-preserved : goal.loop-r-preserved
loop-r-preserved c = marked_more (account_of c.args.file.now.bytes.now c.args.file.now.layout) c.args.table.now c.loop-r.r c.loop-r.table (omega (arith, c.loop-r-test.true, c.requires.file.placed.positions_most, c.loop-r.auto.table, c.requires.room)) (omega (arith, c.loop-r-test.true, c.requires.file.placed.positions_most, c.loop-r.auto.table, c.requires.room)) c.loop-r.invariant _ c.position_at-p.result c.mark_of.result c.unit_of_row.result c.position_at-p.ensures c.fits_lanes.ensures c.mark_of.ensures c.unit_of_row.ensures
