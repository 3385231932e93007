-- s is S(n). What n lacks to the last day falls.
use Rattle.roots.specs.Roots.{Root}
use Rattle.roots_table.proofs.main.Given as goal

abbrev pub invariant-loop-n : goal.invariant-loop-n
invariant-loop-n l = Root l.n l.s
