use Rattle.load.proofs.LoadWriting.{row_asked, walk_begins, walk_ends, walk_goes_on}
use Rattle.rules.specs.declared.SeriesRow.{SeriesRow}
use mathlib.Core.Path.{ap}
use Rattle.load.proofs.write_load.Goals as goal

pub loop-r-init : goal.loop-r-init
loop-r-init c = walk_begins c.args.seed c.args.p c.write_series_row.new.file c.write_series_row.new.file _ c.series_drawn-drawn.ensures.state_is c.series_drawn-drawn.ensures.is_state

pub position_drawn-next-requires : goal.position_drawn-next-requires
position_drawn-next-requires c = row_asked c.args.seed _ _ (ap (λ (x : SeriesRow). x.pv) c.series_drawn-drawn.ensures.row_is) c.loop-r.invariant.is_state

pub loop-r-preserved : goal.loop-r-preserved
loop-r-preserved c = walk_goes_on c.args.seed c.args.p c.write_series_row.new.file c.loop-r.buffer c.loop-r.t c.loop-r.r c.loop-r.invariant _ _ _ _ (ap (λ (x : SeriesRow). x.pv) c.series_drawn-drawn.ensures.row_is) c.position_drawn-next.ensures.row_is c.loop-r-test.true c.position_drawn-next.ensures.state_is c.position_drawn-next.ensures.is_state c.write_position_row.ensures

pub returns : goal.returns
returns c = walk_ends c.args.seed c.args.p c.write_series_row.new.file c.loop-r.buffer c.loop-r.t c.loop-r.r c.loop-r.invariant c.args.buffer.now _ _ c.loop-r-test.false c.series_drawn-drawn.ensures.row_is c.write_series_row.ensures c.write_trailer.ensures c.requires.room_least
