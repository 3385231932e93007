use Rattle.load.proofs.DrawLaws.{row_is, row_state}
use Rattle.load.proofs.rows.position_drawn.Goals as goal

pub returns : goal.returns
returns c = record { row_is = row_is c.args.t c.next_state-t1.result c.next_state-t2.result c.next_state-t3.result c.next_state-t4.result c.next_state-t1.ensures.0 c.next_state-t2.ensures.0 c.next_state-t3.ensures.0 c.next_state-t4.ensures.0 c.args.pv c.barrier_and_rebate-barrier.result.row.price c.barrier_and_rebate-barrier.result.row.reb c.barrier_and_rebate-barrier.result.state c.barrier_and_rebate-barrier.ensures.price_is c.barrier_and_rebate-barrier.ensures.reb_is c.barrier_and_rebate-barrier.ensures.state_is; state_is = row_state c.args.t c.next_state-t1.result c.next_state-t2.result c.next_state-t3.result c.next_state-t4.result c.next_state-t1.ensures.0 c.next_state-t2.ensures.0 c.next_state-t3.ensures.0 c.next_state-t4.ensures.0 c.args.pv c.barrier_and_rebate-barrier.result.row.price c.barrier_and_rebate-barrier.result.row.reb c.barrier_and_rebate-barrier.result.state c.barrier_and_rebate-barrier.ensures.price_is c.barrier_and_rebate-barrier.ensures.reb_is c.barrier_and_rebate-barrier.ensures.state_is; is_state = c.barrier_and_rebate-barrier.ensures.is_state }
