-- No number below s reaches. What s lacks to the largest root falls.
use Rattle.std.proofs.Common.{◌+◌, ◌-◌}
use Rattle.roots_table.proofs.Counting.{NoneBelow}
use Rattle.roots_table.proofs.next_root.Given as goal

abbrev pub invariant-loop-s : goal.invariant-loop-s
invariant-loop-s l = NoneBelow (l.n + 1) l.s

abbrev pub decreases-loop-s : goal.decreases-loop-s
decreases-loop-s l = 2_236_068 - l.s
