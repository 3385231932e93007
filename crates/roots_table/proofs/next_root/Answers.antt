-- The squares fit, since s is no more than the largest root.
use Rattle.std.proofs.Common.{◌+◌, arith}
use Rattle.roots_table.proofs.Counting.{square_most}
use Rattle.roots_table.proofs.next_root.Goals as goal

pub overflow_mul-s : goal.overflow_mul-s
overflow_mul-s c = omega (arith, square_most (c.args.n + 1) c.loop-s.s (omega arith) c.loop-s.invariant)

pub overflow_mul-s-in-loop-s : goal.overflow_mul-s-in-loop-s
overflow_mul-s-in-loop-s c = omega (arith, square_most (c.args.n + 1) c.loop-s.s (omega arith) c.loop-s.invariant)
