use Rattle.numbers.specs.Lists.{nth}
use Rattle.tree.proofs.TreeLaws.{Climbed}
use mathlib.Core.Path.{◌≡◌}
use Rattle.tree.proofs.set_leaf.Given as goal

abbrev pub invariant-loop-i : goal.invariant-loop-i
invariant-loop-i l = Climbed l.p l.initial.tree l.tree l.i × (nth l.tree l.i ≡ l.y)

abbrev pub decreases-loop-i : goal.decreases-loop-i
decreases-loop-i l = l.i
