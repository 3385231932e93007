use Rattle.load.proofs.DrawLaws.{series_is, series_state}
use Rattle.load.proofs.rows.series_drawn.Goals as goal

pub returns : goal.returns
returns c = record { row_is = series_is c.args.seed c.next_state-t1.result c.next_state-t2.result c.next_state-t3.result c.next_state-t4.result c.next_state-t1.ensures.0 c.next_state-t2.ensures.0 c.next_state-t3.ensures.0 c.next_state-t4.ensures.0 c.next_state-t5.result c.next_state-t5.ensures.0; state_is = series_state c.args.seed c.next_state-t1.result c.next_state-t2.result c.next_state-t3.result c.next_state-t4.result c.next_state-t1.ensures.0 c.next_state-t2.ensures.0 c.next_state-t3.ensures.0 c.next_state-t4.ensures.0 c.next_state-t5.result c.next_state-t5.ensures.0; is_state = c.next_state-t5.ensures.1 }
