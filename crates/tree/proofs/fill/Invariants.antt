use Rattle.tree.proofs.TreeLaws.{Filled}
use Rattle.tree.proofs.fill.Given as goal

abbrev pub invariant-loop-i : goal.invariant-loop-i
invariant-loop-i l = Filled l.p l.initial.tree l.tree l.i
